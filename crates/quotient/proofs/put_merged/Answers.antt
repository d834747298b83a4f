-- `quotient::put_merged` meets its contract.
-- Assumes nothing.
use Rattle.form.specs.Drawn.{graph_in}
use Rattle.form.proofs.Drawn.{stored_in}
use mathlib.Core.Path.{◌≡◌, refl, ap, ◌∙◌}
use Prim.Native.Nat.{◌+◌}
use lib.ListN.{length}
use Rattle.form.specs.Form.{labels_of}
use Rattle.graph.specs.Form.{label_row, body}
use Rattle.graph.specs.Merge.{merged}
use Rattle.write.specs.Write.{headed, Put}
use Rattle.form.proofs.Stored.{stored_rows}
use Rattle.le.proofs.Rows.{holds_less, holds_same, at_row}
use Rattle.write.proofs.Results.{put_then, length_headed}
use Rattle.write.proofs.Grows.{put_length}
use Rattle.write.proofs.Parts.{copied, drawn_by}
use Rattle.quotient.proofs.Parts.{labels_size, body_size_lem, edge_labels_kept, lists_below, body_put}
use native.Mathlib.Omega.{arith}
use Rattle.quotient.proofs.put_merged.Goals as goal
use Rattle.quotient.proofs.put_merged.Goals.{After-copy_numbers, After-put_class_labels-nodes, After-put_renamed_ids}

-- the labels of the nodes, and of all
node_labels_lem : (c : After-put_class_labels-nodes) → Put (headed c.args.out.now c.args.y) (labels_of c.args.y) 0 (merged (graph_in c.args.drawing)).graph.labels c.put_class_labels-nodes.new.out c.put_class_labels-nodes.result
node_labels_lem c = coe 0 1 (i. Put (c.put_header.ensures i) (labels_of c.args.y) 0 (merged (graph_in c.args.drawing)).graph.labels c.put_class_labels-nodes.new.out c.put_class_labels-nodes.result) c.put_class_labels-nodes.ensures

all_labels : (c : After-copy_numbers) → Put (headed c.args.out.now c.args.y) (labels_of c.args.y) 0 (label_row (merged (graph_in c.args.drawing)).graph) c.copy_numbers.new.d (c.put_class_labels-nodes.result + c.args.drawing.sizes.edges)
all_labels c = put_then (coe 0 1 (i. Put (c.put_header.ensures i) (labels_of c.args.y) 0 (merged (graph_in c.args.drawing)).graph.labels c.put_class_labels-nodes.new.out c.put_class_labels-nodes.result) c.put_class_labels-nodes.ensures) (copied c.args.drawing.src.now c.args.drawing.sizes.nodes c.args.drawing.sizes.edges c.copy_numbers.ensures c.label_row-new_labels.ensures c.labels-labels.ensures (edge_labels_kept (stored_in c.args.drawing)) refl)

labels_long : (c : After-copy_numbers) → length c.copy_numbers.new.d ≡ length c.args.out.now
labels_long c = put_length (all_labels c) ∙ length_headed c.args.out.now c.args.y

-- all counts and ids
written : (c : After-put_renamed_ids) → Put c.copy_numbers.new.d c.body_row-new_body.result 0 (body (merged (graph_in c.args.drawing)).graph) c.put_renamed_ids.new.out (c.put_renamed_edges-lists.result + (c.args.drawing.sizes.sources + c.args.drawing.sizes.targets))
written c = body_put c.requires.mapped.0 c.put_renamed_edges-lists.ensures.0 c.put_renamed_edges-lists.ensures.1 c.put_renamed_ids.ensures

pub put_class_labels-nodes-requires : goal.put_class_labels-nodes-requires
put_class_labels-nodes-requires c =
    let r = c.requires.mapped.1 in (
      c.requires.mapped.0,
      r.low,
      holds_same (holds_less r.labels _ (omega (arith, labels_size (stored_in c.args.drawing) c.requires.y_value))) _
          (ap length c.put_header.ensures ∙ length_headed c.args.out.now c.args.y),
    )

pub copy_numbers-requires : goal.copy_numbers-requires
copy_numbers-requires c =
    let p = node_labels_lem (goal.at.copy_numbers-requires c).After-put_class_labels-nodes in (
      at_row c.label_row-new_labels.ensures
          (holds_same (holds_less c.requires.mapped.1.labels _ (omega (arith, p.next, labels_size (stored_in c.args.drawing) c.requires.y_value))) _ (put_length p ∙ length_headed c.args.out.now c.args.y)),
      at_row c.labels-labels.ensures (stored_rows (stored_in c.args.drawing)).labels_held,
    )

pub put_renamed_edges-lists-requires : goal.put_renamed_edges-lists-requires
put_renamed_edges-lists-requires c = (
  c.requires.mapped.0,
  at_row c.body_row-new_body.ensures (holds_same (holds_less c.requires.mapped.1.body _ (omega (arith, body_size_lem (stored_in c.args.drawing) c.requires.y_value))) _ (labels_long (goal.at.put_renamed_edges-lists-requires c).After-copy_numbers)),
)

pub put_renamed_ids-requires : goal.put_renamed_ids-requires
put_renamed_ids-requires c =
    let m = c.requires.mapped.0 in
    let rows = stored_rows (stored_in c.args.drawing) in
    let p = c.put_renamed_edges-lists.ensures in (
      m.held,
      holds_less rows.body_held _ (omega (arith, p.0)),
      lists_below (stored_in c.args.drawing) _ p.0,
      at_row c.body_row-new_body.ensures
          (holds_same (holds_less c.requires.mapped.1.body _ (omega (arith, p.0, body_size_lem (stored_in c.args.drawing) c.requires.y_value))) _ (put_length p.1 ∙ labels_long (goal.at.put_renamed_ids-requires c).After-copy_numbers)),
    )

pub returns : goal.returns
returns c = drawn_by c.args.out.now c.args.y c.body_row-new_body.ensures (all_labels (goal.at.returns c).After-copy_numbers) (written (goal.at.returns c).After-put_renamed_ids)
