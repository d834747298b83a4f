-- What the loops of `deletions::mark` keep.
-- Assumes nothing.
use mathlib.Core.Path.{◌≡◌}
use Prim.Native.Nat.{◌+◌, ◌-◌, ◌≤◌}
use lib.ListN.{length}
use Rattle.le.specs.Le.{Outside, words}
use Rattle.le.specs.Rows.{span}
use Rattle.ledger.specs.Tables.{map_at}
use Rattle.deletions.specs.Sifts.{Marked}
use Rattle.deletions.proofs.mark.Given as goal

abbrev pub invariant-loop-k : goal.invariant-loop-k
invariant-loop-k l = (l.k ≤ l.listed) × Marked (words l.room) l.n (span l.s l.r 0 l.k) × Outside map_at (map_at + l.n) (words l.initial.room) (words l.room) × (length l.room ≡ length l.initial.room)

abbrev pub decreases-loop-k : goal.decreases-loop-k
decreases-loop-k l = l.listed - l.k
