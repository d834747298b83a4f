-- `loops::lowest_target` meets its contract.
-- Assumes nothing.
use mathlib.Core.Path.{sym, ◌∙◌, subst}
use Prim.Native.Nat.{◌+◌}
use native.Mathlib.Omega.{arith}
use Rattle.le.specs.Le.{words}
use Rattle.le.specs.Rows.{Holds, span}
use Rattle.tables.specs.Tables.{most_vertices}
use Rattle.loops.specs.Walk.{lowest_live}
use Rattle.loops.proofs.lowest_target.Goals as goal

pub lowest_formed-requires : goal.lowest_formed-requires
lowest_formed-requires c =
    let a = c.args in
    (subst (Holds a.s.now a.r) (λ i. sym c.word-start.ensures i + sym c.word-count.ensures i) c.requires.holds, omega arith)

pub returns : goal.returns
returns c =
    let a = c.args in
    c.lowest_formed.ensures ∙ (λ i. lowest_live (words a.room.now) most_vertices (span a.s.now a.r (c.word-start.ensures i) (c.word-count.ensures i)))
