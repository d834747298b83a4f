-- What the loops of `quotient::put_renamed_ids` keep.
-- Assumes nothing.
use Prim.Native.Nat.{◌+◌, ◌-◌, ◌≤◌}
use Rattle.graph.specs.Merge.{looked}
use Rattle.le.specs.Le.{words}
use Rattle.le.specs.Rows.{span}
use Rattle.write.specs.Write.{Put}
use Rattle.quotient.proofs.put_renamed_ids.Given as goal

abbrev pub invariant-loop-i : goal.invariant-loop-i
invariant-loop-i l = (l.i ≤ l.n) × Put l.initial.out l.to l.k (looked (words l.room) (span l.drawing.src.now l.body l.k l.i)) l.out (l.k + l.i)

abbrev pub decreases-loop-i : goal.decreases-loop-i
decreases-loop-i l = l.n - l.i
