-- `quotient::put_class_labels` meets its contract.
-- Assumes nothing.
use Rattle.form.specs.Drawn.{graph_in}
use Rattle.form.proofs.Drawn.{stored_in}
use Prim.Native.Nat.{◌<◌}
use native.Mathlib.Nat.{le_antisymm}
use Rattle.graph.specs.Delete.{remaining}
use Rattle.graph.specs.Merge.{classes, absorbed}
use Rattle.le.specs.Rows.{span}
use Rattle.write.specs.Write.{Put}
use Rattle.le.proofs.Rows.{holds_less, at_row}
use Rattle.form.proofs.Stored.{stored_rows}
use Rattle.write.proofs.Results.{put_none}
use Rattle.quotient.proofs.Labels.{label_room, label_next, class_labels, labels_fit}
use native.Mathlib.Omega.{arith}
use Rattle.quotient.proofs.put_class_labels.Goals as goal

pub loop-v-init : goal.loop-v-init
unfolding span
loop-v-init c = (omega arith, put_none)

pub put_class_label-j-requires : goal.put_class_label-j-requires
put_class_label-j-requires c =
    let m = c.requires.0 in
    let l = c.loop-v in
    let from = c.labels-from.ensures in
    let less : l.v < c.args.drawing.sizes.nodes = omega arith in (
      omega (arith, m.held),
      at_row from (holds_less (stored_rows (stored_in c.args.drawing)).labels_held _ (omega arith)),
      label_room m l.v less _ l.invariant.1 (labels_fit m _ from c.label_row-to.ensures c.requires.2),
    )

pub loop-v-preserved : goal.loop-v-preserved
loop-v-preserved c =
    let l = c.loop-v in
    let less : l.v < c.args.drawing.sizes.nodes = omega arith in
    (omega arith, label_next c.requires.0 l.v less _ l.invariant.1 c.put_class_label-j.ensures)

pub returns : goal.returns
returns c =
    let l = c.loop-v in
    let from = c.labels-from.ensures in
    let all = le_antisymm l.invariant.0 c.loop-v-test.false in
    coe 0 1 (i. Put c.args.out.now (c.label_row-to.ensures i) 0 (class_labels c.requires.0 _ from i) l.out l.j)
    (coe 0 1 (i. Put c.args.out.now c.label_row-to.result 0 (remaining (absorbed (classes (graph_in c.args.drawing))) 0 (span c.args.drawing.src.now c.labels-from.result 0 (all i))) l.out l.j) l.invariant.1)
