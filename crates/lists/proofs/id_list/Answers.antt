-- `lists::id_list` meets its contract.
-- Assumes nothing.
use Prim.Native.Nat.{◌/◌, ◌<◌, ◌≤◌}
use native.Mathlib.Nat.{div-mul-le_self}
use native.Mathlib.Omega.{arith}
use lib.ListN.{length}
use borrow.Author.Tests.{eq-eqb, ne_eqb, le-leb, lt-leb}
use Rattle.graph.specs.Answer.{◌else◌, ◌>>◌}
use Rattle.graph.specs.Calls.{id_list}
use Rattle.le.specs.Le.{numbers}
use Rattle.le.specs.Rows.{row_at, Holds}
use Rattle.le.proofs.Numbers.{length_numbers}
use Rattle.le.proofs.Rows.{wide_some}
use Rattle.lists.specs.Reach.{reach}
use Rattle.lists.proofs.Reach.{below_reach}
use Rattle.lists.proofs.id_list.Goals as goal
use Rattle.lists.proofs.id_list.Goals.{Else-ids-width-ne0, Then-count-reach_of}

-- so many whole entries are there
whole : (c : Else-ids-width-ne0) → Holds c.args.ids.now (row_at 0 c.args.width) (length c.args.ids.now / c.args.width)
whole c = record { wide = c.requires; inside = omega (arith, div-mul-le_self (length c.args.ids.now) c.args.width) }

-- so many whole entries are there
whole_2 : (c : Then-count-reach_of) → Holds c.args.ids.now (row_at 0 c.args.width) (length c.args.ids.now / c.args.width)
whole_2 c = record { wide = c.requires; inside = omega (arith, div-mul-le_self (length c.args.ids.now) c.args.width) }

pub nonzero_div-n : goal.nonzero_div-n
nonzero_div-n c = let l = wide_some c.requires in omega arith

pub nonzero_rem-ids : goal.nonzero_rem-ids
nonzero_rem-ids c = let l = wide_some c.requires in omega arith

pub returns-then-ids-width-ne0 : goal.returns-then-ids-width-ne0
unfolding id_list ◌else◌ ◌>>◌
returns-then-ids-width-ne0 c f same = rw (same, ne_eqb _ _ c.if-ids-width-ne0.true)

pub reach_of-requires : goal.reach_of-requires
reach_of-requires c = whole c

pub first_bad-requires : goal.first_bad-requires
first_bad-requires c = whole_2 c

pub returns-then-count-reach_of : goal.returns-then-count-reach_of
unfolding id_list ◌else◌ ◌>>◌
returns-then-count-reach_of c f same =
    let a = c.args in
    let ids = numbers a.width (length a.ids.now / a.width) a.ids.now in
    let l : a.count < reach ids = omega (arith, c.reach_of.ensures) in
    rw (same, eq-eqb _ _ c.if-ids-width-ne0.false, below_reach a.count ids, lt-leb _ _ l, c.first_bad.ensures)

pub returns : goal.returns
unfolding id_list ◌else◌ ◌>>◌
returns c f same =
    let a = c.args in
    let ids = numbers a.width (length a.ids.now / a.width) a.ids.now in
    let l : reach ids ≤ a.count = omega (arith, c.reach_of.ensures) in
    rw (same, eq-eqb _ _ c.if-ids-width-ne0.false, below_reach a.count ids, le-leb _ _ l, length_numbers)
