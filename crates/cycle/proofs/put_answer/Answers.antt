-- `cycle::put_answer` meets its contract.
-- Assumes nothing.
use mathlib.Core.Path.{◌≡◌, ap}
use Prim.Native.Nat.{ℕ, ◌+◌, ◌-◌, ◌*◌, ◌≤◌}
use native.Mathlib.Nat.{mul-le-mul_right}
use native.Mathlib.Omega.{arith}
use lib.ListN.{length}
use Rattle.le.specs.Le.{words}
use Rattle.le.proofs.Rows.{wide_some}
use Rattle.choice.specs.Passing.{shown_below}
use Rattle.cycle.specs.Begin.{is_flagged}
use Rattle.cycle.proofs.Calls.{listing_10, listing_0}
use Rattle.cycle.proofs.put_answer.Goals as goal

pub overflow_mul-ids : goal.overflow_mul-ids
overflow_mul-ids c =
    let a = c.args in
    let few : a.z.nodes + a.z.edges - a.free ≤ 32768 = omega arith in
    omega (arith, few, (wide_some c.requires.room_choice_in_bounds.1).1, mul-le-mul_right a.z.width few)

pub returns-then-list-ids : goal.returns-then-list-ids
returns-then-list-ids c =
    let a = c.args in
    λ f e. listing_10 f a.z.width e _ a.free (a.z.nodes + a.z.edges - a.free) (omega (arith, c.requires.free_len)) a.list.now c.if-list-ids.true

pub put_chosen-requires : goal.put_chosen-requires
put_chosen-requires c =
    let a = c.args in
    let many : length (shown_below (is_flagged (words a.room.now)) a.z.nodes) ≡ a.z.nodes + a.z.edges - a.free = omega (arith, c.requires.free_len) in
    (c.requires.room_choice_in_bounds.2, c.requires.room_choice_in_bounds.0, record { wide = c.requires.room_choice_in_bounds.1; inside = omega (arith, ap (λ (k : ℕ). k * a.z.width) many, c.if-list-ids.false) })

pub returns : goal.returns
returns c =
    let a = c.args in
    λ f e. listing_0 f a.z.width e _ a.free (a.z.nodes + a.z.edges - a.free) (omega (arith, c.requires.free_len)) a.list.now c.put_chosen.new.list c.if-list-ids.false c.put_chosen.ensures
