-- What the loops of `cycle::next_candidate` keep.
-- Assumes nothing.
use mathlib.Core.Path.{◌≡◌}
use Prim.Native.Nat.{◌+◌, ◌*◌}
use lib.ListN.{length}
use Rattle.queue.specs.Keys.{Queued}
use Rattle.cycle.specs.Next.{may, degrees_in}
use Rattle.tables.specs.Tables.{queue_at}
use Rattle.le.specs.Le.{words, Outside}
use Rattle.queue.specs.Places.{keys_in}
use Rattle.cycle.proofs.Turning.{sum}
use Rattle.cycle.proofs.next_candidate.Given as goal

abbrev pub invariant-loop-c : goal.invariant-loop-c
invariant-loop-c l = Queued (may (words l.initial.room) l.nodes) (degrees_in (words l.room) l.n) (keys_in (words l.room) queue_at l.m) × Outside queue_at (queue_at + 2 * l.m) (words l.initial.room) (words l.room) × (length l.room ≡ length l.initial.room)

abbrev pub decreases-loop-c : goal.decreases-loop-c
decreases-loop-c l = sum (keys_in (words l.room) queue_at l.m)
