-- `moved::put_without_nodes` meets its contract.
-- Assumes nothing.
use mathlib.Core.Bool.{Bool}
use mathlib.Core.List.{List, ◌++◌, map, append_assoc}
use mathlib.Core.Path.{◌≡◌, refl, sym, ap, ◌∙◌, subst}
use Prim.Native.Nat.{ℕ, ◌+◌, ◌*◌}
use native.Mathlib.Omega.{arith}
use lib.ListN.{length, length-append}
use Rattle.gone.specs.Marks.{marked}
use Rattle.moved.specs.Places.{gone_in}
use Rattle.form.specs.Drawn.{graph_in}
use Rattle.form.specs.Form.{labels_of, body_of}
use Rattle.graph.specs.Delete.{remaining, renamed, without_nodes}
use Rattle.graph.specs.Form.{edge_row}
use Rattle.graph.specs.Graph.{Edge, Graph}
use Rattle.graph.specs.Lists.{joined, flat}
use Rattle.graph.specs.Versions.{fitting}
use Rattle.le.specs.Rows.{Holds, span}
use Rattle.write.specs.Write.{Put}
use Rattle.form.proofs.Drawn.{stored_in}
use Rattle.form.proofs.Stored.{stored_rows, stored_known}
use Rattle.le.proofs.Numbers.{below_append}
use Rattle.le.proofs.Rows.{holds_less, holds_same, length_span, at_row}
use Rattle.write.proofs.Results.{put_then}
use Rattle.write.proofs.Parts.{span_known, copied, drawn_by, labels_room, body_room, ids_there}
use Rattle.gone.proofs.Parts.{edge_labels_kept, ids_moved, pairs_there, pairs_moved}
use Rattle.moved.proofs.put_without_nodes.Goals as goal
use Rattle.moved.proofs.put_without_nodes.Goals.{After-lists-lists}

-- the graph that is left, and room for its parts
module _ (c : After-lists-lists) where
  abbrev goes : ℕ → Bool
  goes = gone_in c.args.drawing.sizes c.args.map.now

  abbrev kept : Graph
  kept = without_nodes goes (graph_in c.args.drawing)

  labels_there : Holds c.args.out.now (labels_of c.args.y) (length kept.labels + length (map (λ (e : Edge). e.label) kept.edges))
  labels_there = labels_room c.requires.stored.1 (fitting kept) kept c.requires.y_value

  nodes_left : remaining (marked c.args.room.now c.args.drawing.sizes.nodes) 0 (span c.args.drawing.src.now (labels_of c.args.drawing.sizes) 0 c.args.drawing.sizes.nodes) ≡ kept.labels
  nodes_left = λ i. remaining (c.requires.stored.3 i) 0 ((stored_rows (stored_in c.args.drawing)).labels i)

  edge_count : c.args.drawing.sizes.edges ≡ length (map (λ (e : Edge). e.label) kept.edges)
  edge_count = sym (length_span _ (labels_of c.args.drawing.sizes) c.args.drawing.sizes.nodes c.args.drawing.sizes.edges) ∙ ap length (edge_labels_kept (stored_in c.args.drawing) goes)

  body_there : Holds c.args.out.now (body_of c.args.y) (length (joined edge_row kept.edges) + length (kept.sources ++ (kept.targets ++ flat kept.pairs)))
  body_there = body_room c.requires.stored.1 (fitting kept) kept c.requires.y_value

  -- the global lists, which are written as one, and the pairs
  ids : renamed goes (span c.args.drawing.src.now (body_of c.args.drawing.sizes) c.lists-lists.result (c.args.drawing.sizes.sources + c.args.drawing.sizes.targets)) ≡ kept.sources ++ kept.targets
  ids =
      let z = c.args.drawing.sizes in
      (λ i. renamed goes (span c.args.drawing.src.now (body_of z) (c.lists-lists.ensures.0 i) (z.sources + z.targets))) ∙ ids_moved (stored_in c.args.drawing) goes

  pairs : span c.args.drawing.src.now (body_of c.args.drawing.sizes) (c.lists-lists.result + (c.args.drawing.sizes.sources + c.args.drawing.sizes.targets)) (2 * c.args.drawing.sizes.pairs)
      ≡ flat (graph_in c.args.drawing).pairs
  pairs =
      let z = c.args.drawing.sizes in
      (λ i. span c.args.drawing.src.now (body_of z) (c.lists-lists.ensures.0 i + (z.sources + z.targets)) (2 * z.pairs)) ∙ pairs_there (stored_in c.args.drawing) goes

  lists_long : length (kept.sources ++ (kept.targets ++ flat kept.pairs))
      ≡ length (renamed goes (span c.args.drawing.src.now (body_of c.args.drawing.sizes) c.lists-lists.result (c.args.drawing.sizes.sources + c.args.drawing.sizes.targets))) + length (flat kept.pairs)
  lists_long = ap length (sym (append_assoc kept.sources kept.targets (flat kept.pairs))) ∙ length-append (kept.sources ++ kept.targets) (flat kept.pairs)
      ∙ ap (λ (l : List ℕ). length l + length (flat kept.pairs)) (sym ids)

pub invariant_of-by : goal.invariant_of-by
invariant_of-by c = record { inside = omega (arith, c.requires.stored.0.held.inside); places = c.requires.stored.0.new }

pub put_left_labels-nodes-requires : goal.put_left_labels-nodes-requires
put_left_labels-nodes-requires c =
    let at = (goal.at.put_left_labels-nodes-requires c).After-lists-lists in (
      (stored_rows (stored_in c.args.drawing)).low,
      c.requires.stored.1.low,
      c.requires.stored.2,
      holds_less (stored_rows (stored_in c.args.drawing)).labels_held _ (omega arith),
      holds_same (holds_less (labels_there at) _ (omega (arith, ap length (nodes_left at)))) _ c.put_header.auto.out,
    )

pub copy_numbers-requires : goal.copy_numbers-requires
copy_numbers-requires c =
    let at = (goal.at.copy_numbers-requires c).After-lists-lists in (
      at_row c.label_row-new_labels.ensures
          (holds_same (holds_less (labels_there at) _ (omega (arith, c.put_left_labels-nodes.ensures.next, ap length (nodes_left at), edge_count at))) _
          (c.put_left_labels-nodes.auto.out ∙ c.put_header.auto.out)),
      at_row c.labels-labels.ensures (stored_rows (stored_in c.args.drawing)).labels_held,
    )

pub put_moved_edges-sources-requires : goal.put_moved_edges-sources-requires
put_moved_edges-sources-requires c =
    at_row c.body_row-new_body.ensures
    (holds_same (holds_less (body_there (goal.at.put_moved_edges-sources-requires c).After-lists-lists) _ (omega arith)) _
    (c.copy_numbers.auto.d ∙ c.put_left_labels-nodes.auto.out ∙ c.put_header.auto.out))

pub put_moved_ids-pairs-requires : goal.put_moved_ids-pairs-requires
put_moved_ids-pairs-requires c =
    let at = (goal.at.put_moved_ids-pairs-requires c).After-lists-lists in
    let s = stored_in c.args.drawing in
    let z = c.args.drawing.sizes in
    let known = stored_known s in (
      holds_less (stored_rows s).body_held _ (omega (arith, c.lists-lists.ensures.0)),
      span_known _ _ _ _ ((λ i. span c.args.drawing.src.now (body_of z) (c.lists-lists.ensures.0 i) (z.sources + z.targets)) ∙ ids_there s)
          (below_append _ (graph_in c.args.drawing).sources _ known.sources known.targets) (omega arith),
      at_row c.body_row-new_body.ensures
          (holds_same (holds_less (body_there at) _ (omega (arith, c.put_moved_edges-sources.ensures.next, lists_long at))) _
          (c.put_moved_edges-sources.auto.out ∙ c.copy_numbers.auto.d ∙ c.put_left_labels-nodes.auto.out ∙ c.put_header.auto.out)),
    )

pub put_moved_pairs-requires : goal.put_moved_pairs-requires
put_moved_pairs-requires c =
    let at = (goal.at.put_moved_pairs-requires c).After-lists-lists in
    let s = stored_in c.args.drawing in
    let many = ap (λ (ps : List (ℕ × ℕ)). length (flat ps)) (pairs_moved s (goes at) (pairs at)) in (
      holds_less (stored_rows s).body_held _ (omega (arith, c.lists-lists.ensures.0)),
      span_known _ _ _ _ (pairs at) (stored_known s).pairs (omega arith),
      at_row c.body_row-new_body.ensures
          (holds_same (holds_less (body_there at) _ (omega (arith, c.put_moved_edges-sources.ensures.next, c.put_moved_ids-pairs.ensures.next, lists_long at, many))) _
          (c.put_moved_ids-pairs.auto.out ∙ c.put_moved_edges-sources.auto.out ∙ c.copy_numbers.auto.d ∙ c.put_left_labels-nodes.auto.out ∙ c.put_header.auto.out)),
    )

pub returns : goal.returns
returns c =
    let a = c.args in
    let at = (goal.at.returns c).After-lists-lists in
    let s = stored_in a.drawing in
    let z = a.drawing.sizes in
    let g = kept at in
    let p = c.put_left_labels-nodes in
    let nodes = coe 0 1 (i. Put (c.put_header.ensures i) (labels_of a.y) 0 (nodes_left at i) p.new.out p.result) p.ensures in
    let all = put_then nodes (copied a.drawing.src.now z.nodes z.edges c.copy_numbers.ensures c.label_row-new_labels.ensures c.labels-labels.ensures (edge_labels_kept s (goes at)) refl) in
    let e = (λ i. ids at i ++ flat (pairs_moved s (goes at) (pairs at) i)) ∙ append_assoc g.sources g.targets (flat g.pairs) in
    drawn_by a.out.now a.y c.body_row-new_body.ensures all
    (put_then c.put_moved_edges-sources.ensures
    (subst (λ (l : List ℕ). Put c.put_moved_edges-sources.new.out c.body_row-new_body.result c.put_moved_edges-sources.result l c.put_moved_pairs.new.out c.put_moved_pairs.result) e
    (put_then c.put_moved_ids-pairs.ensures c.put_moved_pairs.ensures)))
