-- `pieces::put_edges` meets its contract.
-- Assumes nothing.
use mathlib.Core.List.{List, [], ◌∷◌, ◌++◌, map, append_assoc}
use mathlib.Core.Path.{◌∙◌, refl, sym, ap}
use Prim.Native.Nat.{ℕ}
use native.Mathlib.Omega.{arith}
use lib.ListN.{length-append, length-map}
use borrow.Author.Rules.{rules}
use Rattle.le.specs.Rows.{span}
use Rattle.graph.specs.Form.{edge_row}
use Rattle.graph.specs.Graph.{Edge}
use Rattle.graph.specs.Lists.{joined}
use Rattle.form.specs.Form.{lists_from}
use Rattle.form.specs.Stored.{graph_of}
use Rattle.write.specs.Write.{drawn}
use Rattle.form.proofs.Stored.{edges_are}
use Rattle.pieces.proofs.Drawn.{more_labels, more_numbers}
use Rattle.pieces.proofs.Held.{held, edge_rows, edge_rows_are}
use Rattle.pieces.proofs.put_edges.Goals as goal

pub label_row-labels-requires : goal.label_row-labels-requires
label_row-labels-requires c = c.requires.1.low

pub label_row-requires : goal.label_row-requires
label_row-requires c = c.requires.0.low

pub copy_numbers-requires : goal.copy_numbers-requires
copy_numbers-requires c = (held c.requires.1.labels _ c.label_row-labels.ensures _ refl _ (omega arith), held c.requires.0.labels_held _ c.label_row.ensures _ refl _ (omega arith))

pub overflow_add-y : goal.overflow_add-y
overflow_add-y c = omega (arith, c.requires.1.low.nodes, c.requires.0.low.edges)

pub put_number-requires : goal.put_number-requires
put_number-requires c = (held c.requires.1.labels _ c.label_row-labels.ensures _ c.copy_numbers.auto.d _ (omega arith), search rules)

pub body_row-body-requires : goal.body_row-body-requires
body_row-body-requires c = c.requires.1.low

pub overflow_mul-n : goal.overflow_mul-n
overflow_mul-n c = omega (arith, c.requires.0.low.edges, c.requires.0.low.ports)

pub overflow_add-n : goal.overflow_add-n
overflow_add-n c = omega (arith, c.requires.0.low.edges, c.requires.0.low.ports)

pub body_row-requires : goal.body_row-requires
body_row-requires c = c.requires.0.low

pub copy_numbers-requires-2 : goal.copy_numbers-requires-2
copy_numbers-requires-2 c = (held c.requires.1.body _ c.body_row-body.ensures _ (c.put_number.auto.d ∙ c.copy_numbers.auto.d) _ (omega (arith, c.requires.3)), held c.requires.0.body_held _ c.body_row.ensures _ refl _ (omega arith))

pub put_two-requires : goal.put_two-requires
put_two-requires c = (held c.requires.1.body _ c.body_row-body.ensures _ (c.copy_numbers-2.auto.d ∙ c.put_number.auto.d ∙ c.copy_numbers.auto.d) _ (omega (arith, c.requires.3)), c.requires.4, c.requires.5)

pub returns : goal.returns
returns c =
    λ old labels long is.
    let a = c.args in
    let r = c.requires.0 in
    let y = a.y in
    let z = a.z in
    let g = graph_of a.src.now in
    let names = map (λ (e : Edge). e.label) g.edges in
    let new = a.label ∷ [] in
    let rows = joined edge_row g.edges in
    let n = length-map g.edges (λ (e : Edge). e.label) ∙ edges_are r in
    let all = labels ++ (names ++ new) in
    let one = more_labels old y labels names is c.copy_numbers.ensures c.label_row-labels.ensures (sym long)
    ((λ i. span a.src.now (c.label_row.ensures i) z.nodes z.edges) ∙ r.edge_labels) in
    let two = more_labels old y (labels ++ names) new one c.put_number.ensures c.label_row-labels.ensures (rw (length-append labels names) (omega arith)) refl in
    let three = more_numbers old y all [] rows (two ∙ ap (λ (l : List ℕ). drawn old y l []) (append_assoc labels names new))
    c.copy_numbers-2.ensures c.body_row-body.ensures refl ((λ i. span a.src.now (c.body_row.ensures i) 0 (lists_from z)) ∙ edge_rows r) in
    more_numbers old y all rows (a.s ∷ a.t ∷ []) three c.put_two.ensures c.body_row-body.ensures (sym (edge_rows_are r)) refl
