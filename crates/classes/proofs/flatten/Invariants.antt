-- What the loops of `classes::flatten` keep.
-- Assumes nothing.
use mathlib.Core.Path.{◌≡◌}
use Prim.Native.Nat.{◌-◌, ◌≤◌}
use lib.ListN.{length}
use Rattle.le.specs.Le.{words}
use Rattle.classes.specs.Forest.{Flattened}
use Rattle.classes.proofs.flatten.Given as goal

abbrev pub invariant-loop-v : goal.invariant-loop-v
invariant-loop-v l = (l.v ≤ l.n) × Flattened l.n (words l.initial.room) (words l.room) l.v × (length l.room ≡ length l.initial.room)

abbrev pub decreases-loop-v : goal.decreases-loop-v
decreases-loop-v l = l.n - l.v
