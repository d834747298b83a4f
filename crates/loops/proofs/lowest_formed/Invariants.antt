-- What the loops of `loops::lowest_formed` keep.
-- Assumes nothing.
use mathlib.Core.Path.{◌≡◌}
use Prim.Native.Nat.{◌-◌, ◌≤◌}
use Rattle.le.specs.Le.{words}
use Rattle.le.specs.Rows.{span}
use Rattle.tables.specs.Tables.{most_vertices}
use Rattle.loops.specs.Walk.{lowest_live}
use Rattle.loops.proofs.lowest_formed.Given as goal

abbrev pub invariant-loop-j : goal.invariant-loop-j
invariant-loop-j l = (l.j ≤ l.count) × (l.best ≡ lowest_live (words l.room) most_vertices (span l.s l.r l.start l.j))

abbrev pub decreases-loop-j : goal.decreases-loop-j
decreases-loop-j l = l.count - l.j
