-- What the loops of `left::put_left_labels` keep.
-- Assumes nothing.
use Prim.Native.Nat.{◌-◌, ◌≤◌}
use Rattle.gone.specs.Marks.{marked}
use Rattle.graph.specs.Delete.{remaining}
use Rattle.le.specs.Rows.{span}
use Rattle.write.specs.Write.{Put}
use Rattle.left.proofs.put_left_labels.Given as goal

abbrev pub invariant-loop-i : goal.invariant-loop-i
invariant-loop-i l = (l.i ≤ l.n) × Put l.initial.out l.to l.first (remaining (marked l.room l.n) 0 (span l.src l.from l.k l.i)) l.out l.j

abbrev pub decreases-loop-i : goal.decreases-loop-i
decreases-loop-i l = l.n - l.i
