-- What the loops of `write::put_range` keep.
-- Assumes nothing.
use mathlib.Core.Path.{◌≡◌}
use Prim.Native.Nat.{◌-◌, ◌≤◌}
use Rattle.graph.specs.Lists.{range}
use Rattle.le.specs.Rows.{puts}
use Rattle.write.proofs.put_range.Given as goal

abbrev pub invariant-loop-i : goal.invariant-loop-i
invariant-loop-i l = (l.i ≤ l.n) × (l.out ≡ puts l.initial.out l.r l.k (range l.from l.i))

abbrev pub decreases-loop-i : goal.decreases-loop-i
decreases-loop-i l = l.n - l.i
