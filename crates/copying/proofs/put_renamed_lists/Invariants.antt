-- What the loops of `copying::put_renamed_lists` keep.
-- Assumes nothing.
use mathlib.Core.Path.{◌≡◌}
use Prim.Native.Nat.{◌-◌, ◌≤◌}
use Rattle.graph.specs.Merge.{looked}
use Rattle.le.specs.Le.{words}
use Rattle.le.specs.Rows.{span, puts}
use Rattle.copying.proofs.put_renamed_lists.Given as goal

abbrev pub invariant-loop-i : goal.invariant-loop-i
invariant-loop-i l = (l.i ≤ l.i-end) × (l.out ≡ puts l.initial.out l.to l.k (looked (words l.room) (span l.drawing.src.now l.from l.j l.i)))

abbrev pub decreases-loop-i : goal.decreases-loop-i
decreases-loop-i l = l.i-end - l.i
