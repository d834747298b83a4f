-- What the loops of `copying::put_spider_labels` keep.
-- Assumes nothing.
use mathlib.Core.Path.{◌≡◌}
use Prim.Native.Nat.{◌-◌, ◌≤◌}
use lib.ListN.{replicate}
use Rattle.graph.specs.Graph.{spider}
use Rattle.le.specs.Rows.{puts}
use Rattle.copying.proofs.put_spider_labels.Given as goal

abbrev pub invariant-loop-i : goal.invariant-loop-i
invariant-loop-i l = (l.i ≤ l.n) × (l.out ≡ puts l.initial.out l.r l.k (replicate l.i spider))

abbrev pub decreases-loop-i : goal.decreases-loop-i
decreases-loop-i l = l.n - l.i
