-- `left::put_without_edges` meets its contract.
-- Assumes nothing.
use mathlib.Core.List.{List, ◌++◌, map}
use mathlib.Core.Path.{◌≡◌, refl, sym, ap, ◌∙◌, subst}
use Prim.Native.Nat.{ℕ, ◌+◌, ◌*◌}
use native.Mathlib.Nat.{zero-add}
use native.Mathlib.Omega.{arith}
use lib.ListN.{length}
use Rattle.gone.specs.Marks.{marked, unmarked_edges}
use Rattle.form.specs.Drawn.{graph_in}
use Rattle.form.specs.Form.{labels_of, body_of, lists_from}
use Rattle.form.specs.declared.Sizes.{Sizes}
use Rattle.graph.specs.Delete.{remaining}
use Rattle.graph.specs.Form.{edge_row}
use Rattle.graph.specs.Graph.{Edge, Graph}
use Rattle.graph.specs.Lists.{joined, flat}
use Rattle.graph.specs.Versions.{fitting}
use Rattle.le.specs.Rows.{Holds, span}
use Rattle.write.specs.Write.{Put}
use Rattle.form.proofs.Drawn.{stored_in}
use Rattle.form.proofs.Stored.{stored_rows}
use Rattle.le.proofs.Rows.{holds_less, holds_same, length_span, at_row}
use Rattle.write.proofs.Results.{put_then}
use Rattle.write.proofs.Parts.{copied, drawn_by, labels_room, body_room, lists_there}
use Rattle.gone.proofs.Parts.{left_labels}
use Rattle.left.proofs.put_without_edges.Goals as goal
use Rattle.left.proofs.put_without_edges.Goals.{After-labels-labels}

-- what is left, and room for its parts
module _ (c : After-labels-labels) where
  abbrev kept : Graph
  kept = unmarked_edges c.args.room.now c.args.drawing.sizes.edges (graph_in c.args.drawing)

  abbrev lists_of : List ℕ
  lists_of = kept.sources ++ (kept.targets ++ flat kept.pairs)

  nodes : c.args.drawing.sizes.nodes ≡ length (graph_in c.args.drawing).labels
  nodes = ap (λ (y : Sizes). y.nodes) (stored_in c.args.drawing).sizes

  labels_there : Holds c.args.out.now (labels_of c.args.y) (length (graph_in c.args.drawing).labels + length (map (λ (e : Edge). e.label) kept.edges))
  labels_there = labels_room c.requires.stored.1 (fitting kept) kept c.requires.y_value

  left : remaining (marked c.args.room.now c.args.drawing.sizes.edges) 0 (span c.args.drawing.src.now (labels_of c.args.drawing.sizes) c.args.drawing.sizes.nodes c.args.drawing.sizes.edges)
      ≡ map (λ (e : Edge). e.label) kept.edges
  left = left_labels (stored_in c.args.drawing) (marked c.args.room.now c.args.drawing.sizes.edges)

  body_there : Holds c.args.out.now (body_of c.args.y) (length (joined edge_row kept.edges) + length lists_of)
  body_there = body_room c.requires.stored.1 (fitting kept) kept c.requires.y_value

  lists_long : length lists_of ≡ c.args.drawing.sizes.sources + (c.args.drawing.sizes.targets + 2 * c.args.drawing.sizes.pairs)
  lists_long = sym (ap length (lists_there (stored_in c.args.drawing))) ∙ length_span c.args.drawing.src.now (body_of c.args.drawing.sizes) (lists_from c.args.drawing.sizes) _

pub copy_numbers-requires : goal.copy_numbers-requires
copy_numbers-requires c =
    let at = (goal.at.copy_numbers-requires c).After-labels-labels in (
      at_row c.label_row-new_labels.ensures (holds_same (holds_less (labels_there at) _ (omega (arith, nodes at))) _ c.put_header.auto.out),
      at_row c.labels-labels.ensures (holds_less (stored_rows (stored_in c.args.drawing)).labels_held _ (omega arith)),
    )

pub put_left_labels-requires : goal.put_left_labels-requires
put_left_labels-requires c =
    let at = (goal.at.put_left_labels-requires c).After-labels-labels in (
      (stored_rows (stored_in c.args.drawing)).low,
      c.requires.stored.1.low,
      c.requires.stored.0,
      (stored_rows (stored_in c.args.drawing)).labels_held,
      holds_same (holds_less (labels_there at) _ (omega (arith, nodes at, ap length (left at)))) _ (c.copy_numbers.auto.d ∙ c.put_header.auto.out),
    )

pub put_left_edges-lists-requires : goal.put_left_edges-lists-requires
put_left_edges-lists-requires c = (
  c.requires.stored.0,
  at_row c.body_row-new_body.ensures
      (holds_same (holds_less (body_there (goal.at.put_left_edges-lists-requires c).After-labels-labels) _ (omega arith)) _
      (c.put_left_labels.auto.out ∙ c.copy_numbers.auto.d ∙ c.put_header.auto.out)),
)

pub copy_numbers-requires-2 : goal.copy_numbers-requires-2
copy_numbers-requires-2 c =
    let at = (goal.at.copy_numbers-requires-2 c).After-labels-labels in (
      at_row c.body_row-new_body.ensures
          (holds_same (holds_less (body_there at) _ (omega (arith, c.put_left_edges-lists.ensures.next, lists_long at))) _
          (c.put_left_edges-lists.auto.out ∙ c.put_left_labels.auto.out ∙ c.copy_numbers.auto.d ∙ c.put_header.auto.out)),
      at_row c.body.ensures (holds_less (stored_rows (stored_in c.args.drawing)).body_held _ (omega (arith, c.lists.ensures.0))),
    )

pub returns : goal.returns
returns c =
    let a = c.args in
    let at = (goal.at.returns c).After-labels-labels in
    let s = stored_in a.drawing in
    let b = a.drawing.src.now in
    let z = a.drawing.sizes in
    let nodes = subst (λ (o : List ℕ). Put o (labels_of a.y) 0 (graph_in a.drawing).labels c.copy_numbers.new.d z.nodes) c.put_header.ensures
    (copied b 0 z.nodes c.copy_numbers.ensures c.label_row-new_labels.ensures c.labels-labels.ensures (stored_rows s).labels (sym (zero-add _))) in
    let all = put_then nodes (subst (λ (l : List ℕ). Put c.copy_numbers.new.d (labels_of a.y) z.nodes l c.put_left_labels.new.out c.put_left_labels.result) (left at) c.put_left_labels.ensures) in
    drawn_by a.out.now a.y c.body_row-new_body.ensures all
    (put_then c.put_left_edges-lists.ensures
    (copied b c.lists.result _ c.copy_numbers-2.ensures refl c.body.ensures ((λ i. span b (body_of z) (c.lists.ensures.0 i) (z.sources + (z.targets + 2 * z.pairs))) ∙ lists_there s) refl))
