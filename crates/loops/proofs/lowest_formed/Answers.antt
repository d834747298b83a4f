-- `loops::lowest_formed` meets its contract.
-- Assumes nothing.
use mathlib.Core.Path.{ap, ◌∙◌}
use Prim.Native.Nat.{ℕ}
use native.Mathlib.Nat.{le_antisymm}
use native.Mathlib.Omega.{arith}
use Rattle.le.specs.Le.{words}
use Rattle.le.specs.Rows.{span}
use Rattle.le.proofs.Rows.{holds_index, holds_less}
use Rattle.tables.specs.Tables.{most_vertices}
use Rattle.loops.specs.Walk.{lower_live, lowest_live}
use Rattle.loops.proofs.Next.{lowest_few, formed_none, formed_more}
use Rattle.loops.proofs.lowest_formed.Goals as goal

pub loop-j-init : goal.loop-j-init
loop-j-init c = let a = c.args in (omega arith, formed_none (words a.room.now) a.s.now a.r a.start)

pub overflow_add-start : goal.overflow_add-start
overflow_add-start c = omega (arith, holds_index c.requires.0)

pub number-id-requires : goal.number-id-requires
number-id-requires c = holds_less c.requires.0 _ (omega arith)

pub lower_live-best-requires : goal.lower_live-best-requires
lower_live-best-requires c =
    let a = c.args in
    let l = c.loop-j in
    (omega (arith, l.invariant.1, lowest_few (words a.room.now) most_vertices (span a.s.now a.r a.start l.j)), omega arith)

pub loop-j-preserved : goal.loop-j-preserved
loop-j-preserved c =
    let a = c.args in
    let l = c.loop-j in
    let W = words a.room.now in (
      omega arith,
      c.lower_live-best.ensures ∙ (λ i. lower_live W (l.invariant.1 i) (c.number-id.ensures.0 i)) ∙ formed_more W a.s.now a.r a.start l.j,
    )

pub returns : goal.returns
returns c =
    let a = c.args in
    let l = c.loop-j in
    l.invariant.1 ∙ ap (λ (k : ℕ). lowest_live (words a.room.now) most_vertices (span a.s.now a.r a.start k)) (le_antisymm l.invariant.0 c.loop-j-test.false)
