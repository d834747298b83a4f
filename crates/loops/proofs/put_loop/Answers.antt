-- `loops::put_loop` meets its contract.
-- Assumes nothing.
use mathlib.Core.Logic.{inr}
use mathlib.Core.Path.{refl, ap, ◌∙◌}
use Prim.Native.Nat.{◌≤◌}
use native.Mathlib.Nat.{mul-le-mul_right}
use native.Mathlib.Omega.{arith}
use Rattle.le.specs.Le.{words}
use Rattle.le.specs.Rows.{row_at, puts}
use Rattle.le.proofs.Places.{length_words}
use Rattle.le.proofs.Rows.{wide_some}
use Rattle.tables.specs.Tables.{waiting_at}
use Rattle.removal.proofs.Tables.{part_length}
use Rattle.loops.proofs.Calls.{span_part, showing_10, showing_0}
use Rattle.loops.proofs.put_loop.Goals as goal

pub overflow_mul-count : goal.overflow_mul-count
overflow_mul-count c =
    let a = c.args in
    let few : a.count ≤ 32768 = omega arith in
    omega (arith, few, (wide_some c.requires.0).1, mul-le-mul_right a.width few)

pub returns-then-list-count : goal.returns-then-list-count
returns-then-list-count c =
    let a = c.args in
    λ f e. showing_10 f a.width e _ a.steps _ (part_length (words a.room.now) waiting_at a.count (omega (arith, length_words a.room.now))) a.list.now c.if-list-count.true

pub copy_numbers-requires : goal.copy_numbers-requires
copy_numbers-requires c =
    (record { wide = c.requires.0; inside = omega (arith, c.if-list-count.false) }, record { wide = inr refl; inside = omega arith })

pub returns : goal.returns
returns c =
    let a = c.args in
    let o = c.copy_numbers in
    λ f e.
    showing_0 f a.width e _ a.steps _ (part_length (words a.room.now) waiting_at a.count (omega (arith, length_words a.room.now))) a.list.now o.new.d c.if-list-count.false
    (o.ensures ∙ ap (puts a.list.now (row_at 0 a.width) 0) (span_part a.room.now waiting_at a.count (omega arith)))
