-- What the loops of `removal::lower_listed` keep.
-- Assumes nothing.
use mathlib.Core.Path.{◌≡◌}
use Prim.Native.Nat.{◌-◌, ◌≤◌}
use lib.ListN.{length, take}
use Rattle.le.specs.Le.{words}
use Rattle.halves.specs.Halves.{lower_all}
use Rattle.removal.specs.Room.{halves_in, room_list, Went}
use Rattle.removal.proofs.lower_listed.Given as goal

abbrev pub invariant-loop-j : goal.invariant-loop-j
invariant-loop-j l = (l.j ≤ l.count) × Went (words l.initial.room) (words l.room) l.n l.last (lower_all (take l.j (room_list (words l.initial.room) l.start l.count)) (halves_in (words l.initial.room) l.n l.end)) × (length l.room ≡ length l.initial.room)

abbrev pub decreases-loop-j : goal.decreases-loop-j
decreases-loop-j l = l.count - l.j
