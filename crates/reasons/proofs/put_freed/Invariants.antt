-- What the loops of `reasons::put_freed` keep.
-- Assumes nothing.
use mathlib.Core.Path.{◌≡◌}
use Prim.Native.Nat.{◌+◌, ◌-◌, ◌≤◌}
use lib.ListN.{length, take}
use Rattle.le.specs.Le.{words}
use Rattle.tables.specs.Tables.{waiting_at}
use Rattle.removal.specs.Room.{part}
use Rattle.reasons.specs.Told.{meant, freed_all}
use Rattle.reasons.proofs.put_freed.Given as goal

abbrev pub invariant-loop-j : goal.invariant-loop-j
invariant-loop-j l = (l.j ≤ l.count) × (l.out ≡ freed_all l.nodes (meant l.why) (take l.j (part (words l.room) (waiting_at + l.from) l.count)) l.initial.out) × (length l.out ≡ length l.initial.out)

abbrev pub decreases-loop-j : goal.decreases-loop-j
decreases-loop-j l = l.count - l.j
