-- `pieces::put_node_labels` meets its contract.
-- Assumes nothing.
use mathlib.Core.List.{List, [], ◌∷◌, ◌++◌, map, append_assoc}
use mathlib.Core.Path.{◌∙◌, refl, sym, ap}
use Prim.Native.Nat.{ℕ}
use native.Mathlib.Omega.{arith}
use lib.ListN.{length-append}
use borrow.Author.Rules.{rules}
use Rattle.le.specs.Rows.{span}
use Rattle.graph.specs.Graph.{Edge}
use Rattle.form.specs.Stored.{graph_of}
use Rattle.form.proofs.Stored.{stored_rows, nodes_are}
use Rattle.write.specs.Write.{drawn}
use Rattle.pieces.proofs.Drawn.{more_labels}
use Rattle.form.proofs.Drawn.{stored_in}
use Rattle.pieces.proofs.Held.{held}
use Rattle.pieces.proofs.put_node_labels.Goals as goal

pub label_row-to-requires : goal.label_row-to-requires
label_row-to-requires c = c.requires.0.low

pub put_head-requires : goal.put_head-requires
put_head-requires c = (c.requires.0, held (stored_rows (stored_in c.args.drawing)).labels_held _ c.labels-from.ensures _ refl _ (omega arith), omega arith)

pub put_number-requires : goal.put_number-requires
put_number-requires c = (held c.requires.0.labels _ c.label_row-to.ensures _ c.put_head.auto.out _ (omega arith), search rules)

pub overflow_add-z : goal.overflow_add-z
overflow_add-z c = omega (arith, c.args.drawing.few)

pub copy_numbers-requires : goal.copy_numbers-requires
copy_numbers-requires c = (held c.requires.0.labels _ c.label_row-to.ensures _ (c.put_number.auto.d ∙ c.put_head.auto.out) _ (omega arith), held (stored_rows (stored_in c.args.drawing)).labels_held _ c.labels-from.ensures _ refl _ (omega arith))

pub returns : goal.returns
returns c =
    let a = c.args in
    let r = stored_rows (stored_in c.args.drawing) in
    let old = a.out.now in
    let y = a.y in
    let g = graph_of a.drawing.src.now in
    let edges = map (λ (e : Edge). e.label) g.edges in
    let new = a.label ∷ [] in
    let n = nodes_are r in
    let first = c.put_head.ensures ∙ ap (λ (l : List ℕ). drawn old y l []) ((λ i. span a.drawing.src.now (c.labels-from.ensures i) 0 a.drawing.sizes.nodes) ∙ r.labels) in
    let one = more_labels old y g.labels new first c.put_number.ensures c.label_row-to.ensures (sym n) refl in
    more_labels old y (g.labels ++ new) edges one c.copy_numbers.ensures c.label_row-to.ensures (simp length-append (omega arith))
    ((λ i. span a.drawing.src.now (c.labels-from.ensures i) a.drawing.sizes.nodes a.drawing.sizes.edges) ∙ r.edge_labels)
    ∙ ap (λ (l : List ℕ). drawn old y l []) (append_assoc g.labels new edges)
