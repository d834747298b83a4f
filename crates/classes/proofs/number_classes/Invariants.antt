-- What the loops of `classes::number_classes` keep.
-- Assumes nothing.
use mathlib.Core.Path.{◌≡◌}
use Prim.Native.Nat.{◌-◌, ◌≤◌}
use lib.ListN.{length}
use Rattle.le.specs.Le.{words}
use Rattle.classes.specs.Forest.{Counted}
use Rattle.classes.proofs.number_classes.Given as goal

abbrev pub invariant-loop-k : goal.invariant-loop-k
invariant-loop-k l = (l.k ≤ l.n) × Counted l.n (words l.initial.room) (words l.room) l.k l.count × (length l.room ≡ length l.initial.room)

abbrev pub decreases-loop-k : goal.decreases-loop-k
decreases-loop-k l = l.n - l.k
