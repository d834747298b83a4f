-- What the loops of `grouping::link` keep.
-- Assumes nothing.
use mathlib.Core.Path.{◌≡◌}
use Prim.Native.Nat.{◌≤◌}
use lib.ListN.{length}
use Rattle.le.specs.Le.{Outside, words}
use Rattle.ledger.specs.Tables.{next_at, labels_at}
use Rattle.ledger.specs.Ledger.{Sound, LinkedFrom}
use Rattle.grouping.proofs.link.Given as goal

abbrev pub invariant-loop-k : goal.invariant-loop-k
invariant-loop-k l = (l.k ≤ l.z.ports) × LinkedFrom (words l.room) l.z l.k × Outside next_at labels_at (words l.initial.room) (words l.room) × Sound (words l.room) l.z × (length l.room ≡ length l.initial.room)

abbrev pub decreases-loop-k : goal.decreases-loop-k
decreases-loop-k l = l.k
