-- What the loops of `removal::seed_all` keep.
-- Assumes nothing.
use mathlib.Core.Path.{◌≡◌}
use Prim.Native.Nat.{◌-◌, ◌≤◌}
use lib.ListN.{length}
use Rattle.le.specs.Le.{words}
use Rattle.halves.specs.Halves.{seed_to}
use Rattle.removal.specs.Room.{halves_in, Went}
use Rattle.removal.proofs.seed_all.Given as goal

abbrev pub invariant-loop-x : goal.invariant-loop-x
invariant-loop-x l = (l.x ≤ l.n) × (l.end ≤ l.x) × Went (words l.initial.room) (words l.room) l.n l.end (seed_to l.x (halves_in (words l.initial.room) l.n 0)) × (length l.room ≡ length l.initial.room)

abbrev pub decreases-loop-x : goal.decreases-loop-x
decreases-loop-x l = l.n - l.x
