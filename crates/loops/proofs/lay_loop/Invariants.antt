-- What the loops of `loops::lay_loop` keep.
-- Assumes nothing.
use mathlib.Core.List.{◌∷◌}
use mathlib.Core.Path.{◌≡◌}
use Prim.Native.Nat.{◌-◌}
use lib.ListN.{length}
use Rattle.le.specs.Le.{words}
use Rattle.tables.specs.Tables.{most_vertices}
use Rattle.removal.specs.Room.{source}
use Rattle.loops.specs.Walk.{Looping, LaidTo}
use Rattle.loops.proofs.Laying.{Beside}
use Rattle.loops.proofs.lay_loop.Given as goal

abbrev pub invariant-loop-v : goal.invariant-loop-v
invariant-loop-v l = Beside (words l.initial.room) (words l.room) × ((u : Looping (source l.s l.r) (words l.initial.room) l.nodes l.again) → LaidTo (words l.room) (l.again ∷ u.others) l.v l.count) × (length l.room ≡ length l.initial.room)

abbrev pub decreases-loop-v : goal.decreases-loop-v
decreases-loop-v l = most_vertices - l.count
