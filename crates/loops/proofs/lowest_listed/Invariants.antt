-- What the loops of `loops::lowest_listed` keep.
-- Assumes nothing.
use mathlib.Core.Path.{◌≡◌}
use Prim.Native.Nat.{◌-◌, ◌≤◌}
use Rattle.le.specs.Le.{words}
use Rattle.tables.specs.Tables.{most_vertices}
use Rattle.removal.specs.Room.{room_list}
use Rattle.loops.specs.Walk.{lowest_live, vertices_of}
use Rattle.loops.proofs.lowest_listed.Given as goal

abbrev pub invariant-loop-j : goal.invariant-loop-j
invariant-loop-j l = (l.j ≤ l.count) × (l.best ≡ lowest_live (words l.room) most_vertices (vertices_of (room_list (words l.room) l.start l.j)))

abbrev pub decreases-loop-j : goal.decreases-loop-j
decreases-loop-j l = l.count - l.j
