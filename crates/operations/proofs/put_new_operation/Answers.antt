-- `operations::put_new_operation` meets its contract.
-- Assumes nothing.
use mathlib.Core.List.{List, [], ◌∷◌, ◌++◌, map}
use mathlib.Core.Path.{◌∙◌, refl, sym, ap}
use Prim.Native.Nat.{ℕ, ◌+◌}
use native.Mathlib.Omega.{arith}
use lib.ListN.{length, length-append}
use Rattle.le.specs.Rows.{span, row_at}
use Rattle.le.proofs.Rows.{length_span}
use Rattle.graph.specs.Build.{new_operation, with_nodes}
use Rattle.graph.specs.Form.{edge_row}
use Rattle.graph.specs.Graph.{Edge}
use Rattle.graph.specs.Lists.{joined, range}
use Rattle.graph.proofs.Lists.{length_range, range_add}
use Rattle.form.specs.Drawn.{graph_in}
use Rattle.write.specs.Write.{drawn}
use Rattle.write.proofs.Results.{room_same}
use Rattle.form.proofs.Drawn.{stored_in}
use Rattle.form.proofs.Stored.{nodes_are, stored_rows}
use Rattle.pieces.specs.Lent.{lent}
use Rattle.operations.proofs.Bodies.{edge_drawn}
use Rattle.pieces.proofs.Drawn.{more_labels}
use Rattle.pieces.proofs.Held.{held, lists, edge_rows_are}
use Rattle.operations.proofs.put_new_operation.Goals as goal

pub put_head-requires : goal.put_head-requires
put_head-requires c = (c.requires.0, held (stored_rows (stored_in c.args.drawing)).labels_held _ c.labels.ensures _ refl _ (omega arith), omega arith)

pub put_edges-requires : goal.put_edges-requires
put_edges-requires c = (stored_rows (stored_in c.args.drawing), room_same c.requires.0 _ (c.put_both.auto.out ∙ c.put_head.auto.out), c.requires.2, omega (arith, c.requires.3), omega (arith, c.requires.0.low.nodes, c.requires.1), omega (arith, c.requires.0.low.nodes, c.requires.1))

pub returns : goal.returns
unfolding new_operation
returns c =
    let a = c.args in
    let old = a.out.now in
    let y = a.y in
    let z = a.drawing.sizes in
    let r = stored_rows (stored_in a.drawing) in
    let g = graph_in a.drawing in
    let ss = lent a.sources.now 4 a.s in
    let ts = lent a.targets.now 4 a.t in
    let m = length_span a.sources.now (row_at 0 4) 0 a.s in
    let n = length_span a.targets.now (row_at 0 4) 0 a.t in
    let k = nodes_are r in
    let first = range (length g.labels) (length ss) in
    let second = range (length g.labels + length ss) (length ts) in
    let m' = length_range (length g.labels) (length ss) ∙ m in
    let n' = length_range (length g.labels + length ss) (length ts) ∙ n in
    let rows = edge_rows_are r in
    let old-labels = c.put_head.ensures ∙ ap (λ (l : List ℕ). drawn old y l []) ((λ i. span a.drawing.src.now (c.labels.ensures i) 0 z.nodes) ∙ r.labels) in
    let labels = more_labels old y g.labels (ss ++ ts) old-labels c.put_both.ensures c.label_row.ensures (sym k) refl in
    let long = length-append g.labels (ss ++ ts) in
    let edges = c.put_edges.ensures old (g.labels ++ (ss ++ ts)) (rw (long, length-append ss ts) (omega (arith, c.requires.1))) labels in
    let all = (g.labels ++ (ss ++ ts)) ++ (map (λ (e : Edge). e.label) g.edges ++ (a.label ∷ [])) in
    edge_drawn a.label first second (with_nodes (ss ++ ts) g) old y
    (edges ∙ (λ i. drawn old y all (joined edge_row g.edges ++ (sym m' i ∷ sym n' i ∷ []))))
    c.put_range.ensures c.body_row.ensures
    (omega arith) ((λ i. range (sym k i) (sym m i + sym n i)) ∙ range_add (length g.labels) (length ss) (length ts)) c.put_rest.ensures.stored (omega arith) (rw c.lists-lists.ensures.0 (lists r))
