-- What the loops of `quotient::put_class_labels` keep.
-- Assumes nothing.
use Rattle.form.specs.Drawn.{graph_in}
use Prim.Native.Nat.{◌-◌, ◌≤◌}
use Rattle.graph.specs.Delete.{remaining}
use Rattle.graph.specs.Merge.{classes, absorbed}
use Rattle.le.specs.Rows.{span}
use Rattle.write.specs.Write.{Put}
use Rattle.quotient.proofs.put_class_labels.Given as goal

abbrev pub invariant-loop-v : goal.invariant-loop-v
invariant-loop-v l = (l.v ≤ l.v-end) × Put l.initial.out l.to 0 (remaining (absorbed (classes (graph_in l.drawing))) 0 (span l.drawing.src.now l.from 0 l.v)) l.out l.j

abbrev pub decreases-loop-v : goal.decreases-loop-v
decreases-loop-v l = l.v-end - l.v
