-- What the loops of `cycle::make_queue` keep.
-- Assumes nothing.
use mathlib.Core.Path.{◌≡◌}
use Prim.Native.Nat.{◌-◌, ◌≤◌}
use lib.ListN.{length}
use Rattle.le.specs.Le.{words}
use Rattle.cycle.specs.Stage.{Offered}
use Rattle.cycle.proofs.make_queue.Given as goal

abbrev pub invariant-loop-v : goal.invariant-loop-v
invariant-loop-v l = (l.v ≤ l.nodes) × Offered (words l.initial.room) (words l.room) l.nodes l.n l.v l.m × (length l.room ≡ length l.initial.room)

abbrev pub decreases-loop-v : goal.decreases-loop-v
decreases-loop-v l = l.nodes - l.v
