-- What the loops of `marks::mark_kept` keep.
-- Assumes nothing.
use Rattle.std.proofs.Common.{◌≡◌, ◌-◌, ◌≤◌, length}
use Rattle.le.specs.Rows.{span}
use Rattle.marks.specs.Tables.{kept_in}
use Rattle.marks.proofs.mark_kept.Given as goal

abbrev pub invariant-loop-k : goal.invariant-loop-k
invariant-loop-k l = (l.k ≤ l.count) × (length l.room ≡ length l.initial.room) × (l.room ≡ kept_in l.initial.room (span l.kept l.r 0 l.k))

abbrev pub decreases-loop-k : goal.decreases-loop-k
decreases-loop-k l = l.count - l.k
