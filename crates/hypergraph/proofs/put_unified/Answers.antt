-- `hypergraph::put_unified` meets its contract.
-- Assumes nothing.
use mathlib.Core.List.{List, [], ◌∷◌}
use mathlib.Core.Path.{◌∙◌, refl, sym, ap}
use Prim.Native.Nat.{ℕ, ◌+◌, ◌-◌}
use native.Mathlib.Omega.{arith}
use Rattle.le.specs.Rows.{span}
use Rattle.le.proofs.Rows.{length_span}
use Rattle.graph.specs.Build.{unify}
use Rattle.graph.specs.Form.{body, label_row}
use Rattle.form.specs.Form.{body_of, body_size}
use Rattle.form.specs.Drawn.{graph_in}
use Rattle.form.proofs.Drawn.{stored_in}
use Rattle.form.proofs.Stored.{stored_rows}
use Rattle.write.specs.Write.{drawn}
use Rattle.hypergraph.proofs.Bodies.{unify_body}
use Rattle.pieces.proofs.Drawn.{more_numbers}
use Rattle.pieces.proofs.Held.{held, body_is, all_body}
use Rattle.hypergraph.proofs.put_unified.Goals as goal

pub put_head-requires : goal.put_head-requires
put_head-requires c = (c.requires.0, held (stored_rows (stored_in c.args.drawing)).labels_held _ c.labels.ensures _ refl _ (omega arith), omega arith)

pub put_two-requires : goal.put_two-requires
put_two-requires c =
    let d = c.args.drawing in
    let end = length_span d.src.now (body_of d.sizes) 0 (body_size d.sizes - 0) in
    (held c.requires.0.body _ c.body_row.ensures _ (c.put_rest-end.auto.out ∙ c.put_head.auto.out) _ (omega (arith, c.put_rest-end.ensures.next, c.requires.2)), c.requires.3, c.requires.4)

pub returns : goal.returns
unfolding unify
returns c =
    let a = c.args in
    let d = a.drawing in
    let old = a.out.now in
    let y = a.y in
    let z = d.sizes in
    let r = stored_rows (stored_in d) in
    let g = graph_in d in
    let end = length_span d.src.now (body_of z) 0 (body_size z - 0) in
    let labels = c.put_head.ensures ∙ ap (λ (l : List ℕ). drawn old y l []) ((λ i. span d.src.now (c.labels.ensures i) 0 (z.nodes + z.edges)) ∙ r.all_labels) in
    let all = more_numbers old y (label_row g) [] (body g) labels c.put_rest-end.ensures.stored refl refl (all_body r) in
    more_numbers old y (label_row g) (body g) (a.v ∷ a.w ∷ []) all c.put_two.ensures c.body_row.ensures (omega (arith, c.put_rest-end.ensures.next, body_is r)) refl
    ∙ ap (drawn old y (label_row g)) (sym (unify_body a.v a.w g))
