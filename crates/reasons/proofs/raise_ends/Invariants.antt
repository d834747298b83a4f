-- What the loops of `reasons::raise_ends` keep.
-- Assumes nothing.
use mathlib.Core.Path.{◌≡◌}
use Prim.Native.Nat.{◌-◌, ◌≤◌}
use lib.ListN.{length}
use Rattle.le.specs.Le.{words}
use Rattle.removal.specs.Room.{Went}
use Rattle.reasons.proofs.Ends.{raised_by}
use Rattle.reasons.proofs.raise_ends.Given as goal

abbrev pub invariant-loop-x : goal.invariant-loop-x
invariant-loop-x l = (l.x ≤ l.n) × Went (words l.initial.room) (words l.room) l.n 0 (raised_by (words l.initial.room) l.n l.x) × (length l.room ≡ length l.initial.room)

abbrev pub decreases-loop-x : goal.decreases-loop-x
decreases-loop-x l = l.n - l.x
