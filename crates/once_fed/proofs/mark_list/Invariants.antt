-- What the loops of `once_fed::mark_list` keep.
-- Assumes nothing.
use mathlib.Core.Bool.{true}
use mathlib.Core.Path.{◌≡◌}
use Prim.Native.Nat.{◌≤◌, ◌-◌}
use lib.ListN.{length}
use Rattle.once_fed.specs.Marked.{added, Marks}
use Rattle.le.specs.Rows.{span}
use Rattle.once_fed.proofs.mark_list.Given as goal

abbrev pub invariant-loop-i : goal.invariant-loop-i
invariant-loop-i l = (l.i ≤ l.n) × (length l.room ≡ length l.initial.room) × Marks l.initial.room l.room l.nodes true (added l.fn.way) (span l.src l.r l.k l.i)

abbrev pub decreases-loop-i : goal.decreases-loop-i
decreases-loop-i l = l.n - l.i
