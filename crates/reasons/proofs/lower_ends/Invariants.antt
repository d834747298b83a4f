-- What the loops of `reasons::lower_ends` keep.
-- Assumes nothing.
use mathlib.Core.Path.{◌≡◌}
use Prim.Native.Nat.{◌-◌, ◌≤◌}
use lib.ListN.{length}
use Rattle.le.specs.Le.{words}
use Rattle.halves.specs.Halves.{lower_all}
use Rattle.removal.specs.Room.{halves_in, Went}
use Rattle.reasons.specs.Told.{ends_in}
use Rattle.reasons.proofs.lower_ends.Given as goal

abbrev pub invariant-loop-x : goal.invariant-loop-x
invariant-loop-x l = (l.x ≤ l.n) × Went (words l.initial.room) (words l.room) l.n l.last (lower_all (ends_in (words l.initial.room) l.x) (halves_in (words l.initial.room) l.n l.end)) × (length l.room ≡ length l.initial.room)

abbrev pub decreases-loop-x : goal.decreases-loop-x
decreases-loop-x l = l.n - l.x
