-- What the loops of `deletions::keep_ids` keep.
-- Assumes nothing.
use mathlib.Core.Bool.{true}
use mathlib.Core.Path.{◌≡◌}
use Prim.Native.Nat.{◌-◌, ◌≤◌}
use lib.ListN.{length}
use Rattle.le.specs.Le.{words}
use Rattle.ledger.specs.Left.{WordsLeft}
use Rattle.deletions.proofs.keep_ids.Given as goal

abbrev pub invariant-loop-k : goal.invariant-loop-k
invariant-loop-k l = (l.k ≤ l.n) × WordsLeft (words l.initial.room) (words l.room) true l.off l.k l.to × (length l.room ≡ length l.initial.room)

abbrev pub decreases-loop-k : goal.decreases-loop-k
decreases-loop-k l = l.n - l.k
