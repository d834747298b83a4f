-- `copying::put_node_labels` meets its contract.
-- Assumes nothing.
use Rattle.form.proofs.Drawn.{stored_in}
use mathlib.Core.Path.{refl, sym, ap, ◌∙◌}
use Rattle.form.specs.Form.{labels_of}
use Rattle.form.proofs.Stored.{stored_rows}
use Rattle.graph.specs.Graph.{Graph}
use Rattle.le.specs.Rows.{span, puts}
use Rattle.le.proofs.Rows.{holds_less}
use Rattle.copying.proofs.Ready.{plain, plain_nodes}
use native.Mathlib.Omega.{arith}
use Rattle.copying.proofs.put_node_labels.Goals as goal

pub copy_numbers-requires : goal.copy_numbers-requires
copy_numbers-requires c =
    let st = stored_in c.args.drawing in (
      rw c.label_row-to.ensures (holds_less c.requires.2 _ (omega (arith, plain_nodes c.args.drawing c.if-z-eq0.true refl))),
      rw c.labels-from.ensures (holds_less (stored_rows st).labels_held _ (omega arith)),
    )

pub returns-then-z-eq0 : goal.returns-then-z-eq0
returns-then-z-eq0 c =
    let b = c.args.drawing.src.now in
    let out = c.args.out.now in
    let st = stored_in c.args.drawing in
    c.copy_numbers.ensures ∙ (λ i. puts out (c.label_row-to.ensures i) 0 (span b (c.labels-from.ensures i) 0 c.args.drawing.sizes.nodes))
    ∙ ap (puts out (labels_of c.args.y) 0) ((stored_rows st).labels ∙ ap (λ (g : Graph). g.labels) (sym (plain c.args.drawing c.if-z-eq0.true)))

pub returns : goal.returns
returns c = c.put_class_labels.ensures.stored
