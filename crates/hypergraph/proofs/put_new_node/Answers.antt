-- `hypergraph::put_new_node` meets its contract.
-- Assumes nothing.
use mathlib.Core.List.{List, [], ◌∷◌, ◌++◌, map}
use mathlib.Core.Path.{◌∙◌, refl, sym, ap}
use Prim.Native.Nat.{ℕ}
use Rattle.graph.specs.Build.{new_node}
use Rattle.graph.specs.Form.{body}
use Rattle.graph.specs.Graph.{Edge}
use Rattle.form.specs.Drawn.{graph_in}
use Rattle.form.proofs.Drawn.{stored_in}
use Rattle.form.proofs.Stored.{stored_rows}
use Rattle.write.specs.Write.{drawn}
use Rattle.hypergraph.proofs.Bodies.{new_node_labels}
use Rattle.pieces.proofs.Drawn.{more_numbers}
use Rattle.pieces.proofs.Held.{all_body}
use Rattle.hypergraph.proofs.put_new_node.Goals as goal

pub returns : goal.returns
unfolding new_node
returns c =
    let a = c.args in
    let old = a.out.now in
    let g = graph_in a.drawing in
    more_numbers old a.y (g.labels ++ (a.label ∷ map (λ (e : Edge). e.label) g.edges)) [] (body g) c.put_node_labels.ensures
    c.put_rest.ensures.stored refl refl (all_body (stored_rows (stored_in a.drawing)))
    ∙ ap (λ (l : List ℕ). drawn old a.y l (body g)) (sym (new_node_labels a.label g))
