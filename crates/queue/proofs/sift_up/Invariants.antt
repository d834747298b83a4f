-- What the loops of `queue::sift_up` keep.
-- Assumes nothing.
use mathlib.Core.Path.{◌≡◌}
use lib.ListN.{length}
use Rattle.le.specs.Le.{words}
use Rattle.queue.proofs.Stored.{RisingIn}
use Rattle.queue.proofs.sift_up.Given as goal

abbrev pub invariant-loop-gap : goal.invariant-loop-gap
invariant-loop-gap l = RisingIn (words l.initial.room) (words l.room) l.base l.n l.k l.gap × (length l.room ≡ length l.initial.room)

abbrev pub decreases-loop-gap : goal.decreases-loop-gap
decreases-loop-gap l = l.gap
