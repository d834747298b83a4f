-- What the loops of `queue::sift_down` keep.
-- Assumes nothing.
use mathlib.Core.Path.{◌≡◌}
use Prim.Native.Nat.{◌-◌}
use lib.ListN.{length}
use Rattle.le.specs.Le.{words}
use Rattle.queue.proofs.Stored.{SinkingIn}
use Rattle.queue.proofs.sift_down.Given as goal

abbrev pub invariant-loop-gap : goal.invariant-loop-gap
invariant-loop-gap l = SinkingIn (words l.initial.room) (words l.room) l.base l.n l.k l.gap × (length l.room ≡ length l.initial.room)

abbrev pub decreases-loop-gap : goal.decreases-loop-gap
decreases-loop-gap l = l.n - l.gap
