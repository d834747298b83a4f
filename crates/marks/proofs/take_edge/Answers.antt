-- `marks::take_edge` meets its contract.
-- Assumes nothing.
use Rattle.std.proofs.Common.{◌≡◌, ℕ, ◌+◌, sym, ap, ◌∙◌, subst, arith, length-set}
use Rattle.le.specs.Le.{Below}
use Rattle.le.specs.Rows.{span}
use Rattle.le.proofs.Numbers.{below_append}
use Rattle.le.proofs.Rows.{holds_less, span_append}
use Rattle.marks.specs.Tables.{most_nodes, shifted_all, less_in, lowered, tested_all, went_of}
use Rattle.marks.proofs.take_edge.Goals as goal
use Rattle.marks.proofs.take_edge.Goals.{After-shift_each-2}

-- the room that the nodes are tested in
same : (c : After-shift_each-2) → let a = c.args in
    c.shift_each-2.new.room ≡ lowered (span a.src.now a.r a.e.first a.e.sources) (span a.src.now a.r (a.e.first + a.e.sources) a.e.targets) a.v a.room.now
unfolding lowered
same c = let a = c.args in
    c.shift_each-2.ensures ∙ ap (shifted_all less_in (span a.src.now a.r (a.e.first + a.e.sources) a.e.targets)) c.shift_each.ensures

pub test_each-requires : goal.test_each-requires
test_each-requires c =
    let a = c.args in (
      holds_less c.requires.holds.0 _ (omega arith),
      subst (Below most_nodes) (sym (span_append a.src.now a.r a.e.first a.e.sources a.e.targets)) (below_append most_nodes (span a.src.now a.r a.e.first a.e.sources) _ c.requires.below.0 c.requires.below.1),
      omega (arith, c.requires.holds.2, c.shift_each.auto.room, c.shift_each-2.auto.room, length-set a.room.now a.v 0),
    )

pub returns : goal.returns
returns c =
    let a = c.args in
    let o = c.test_each in
    let xs = span a.src.now a.r a.e.first (a.e.sources + a.e.targets) in
    record { value = ap (λ (k : ℕ). 1 + k) (o.ensures.0 ∙ ap (went_of xs) (same (goal.at.returns c).After-shift_each-2)); room_after = o.ensures.1 ∙ ap (tested_all xs) (same (goal.at.returns c).After-shift_each-2) }
