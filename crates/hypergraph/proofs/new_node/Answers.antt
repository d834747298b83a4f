-- `hypergraph::new_node` meets its contract.
-- Assumes nothing.
use mathlib.Core.List.{List}
use mathlib.Core.Path.{ap, ◌∙◌}
use Prim.Native.Nat.{ℕ}
use native.Mathlib.Omega.{arith}
use lib.ListN.{length}
use Rattle.graph.specs.Build.{new_node}
use Rattle.graph.specs.Calls.{new_node_call, new_node_step}
use Rattle.form.specs.Drawn.{graph_in}
use Rattle.form.specs.Form.{body_size}
use Rattle.form.proofs.Answers.{gives_passed}
use Rattle.form.proofs.Drawn.{stored_in, at_source}
use Rattle.form.proofs.Stored.{unread}
use Rattle.write.proofs.Calls.{graph_unread, Ends, graph_ends}
use Rattle.hypergraph.proofs.Bodies.{new_node_sizes}
use Rattle.hypergraph.proofs.Calls.{new_node_next}
use Rattle.hypergraph.proofs.new_node.Goals as goal
use Rattle.hypergraph.proofs.new_node.Goals.{After-result_size}

ends : (c : After-result_size) → Ends (new_node_call c.args.src.now c.args.label (length c.args.out.now)) c.args.out.now c.sized-y.result
    (new_node c.args.label (graph_in c.in_ok-drawing.drawing)) c.in_ok-drawing.drawing.sizes.nodes
ends c =
    let label = c.args.label in
    let old = c.args.out.now in
    let d = c.in_ok-drawing.drawing in
    at_source (λ (b : List ℕ). Ends (new_node_call b label (length old)) old c.sized-y.result (new_node label (graph_in d)) d.sizes.nodes) c.in_ok-drawing.ensures.source
    (graph_ends old _ _ (c.sized-y.ensures ∙ new_node_sizes (stored_in d) label) _ (λ f. new_node_step label) (stored_in d) (new_node_next (stored_in d) label))

pub returns-in_err-drawing : goal.returns-in_err-drawing
returns-in_err-drawing c = gives_passed _ _ c.from_residual.ensures.1 (graph_unread _ _ _ (unread _ _ c.in_err-drawing.ensures.sizes))

pub returns-in_err-bytes : goal.returns-in_err-bytes
returns-in_err-bytes c = (ends (goal.at.returns-in_err-bytes c).After-result_size).refuses _ c.in_err-bytes.ensures c.from_residual-in_err-bytes.ensures.1

pub put_new_node-requires : goal.put_new_node-requires
put_new_node-requires c =
    let y = c.sized-y.ensures in (
      (ends (goal.at.put_new_node-requires c).After-result_size).room c.in_ok-bytes.ensures,
      omega (arith, ap (λ y. y.nodes) y, ap (λ y. y.edges) y),
      omega (arith, ap body_size y),
    )

pub returns : goal.returns
returns c = (ends (goal.at.returns c).After-result_size).done c.in_ok-bytes.ensures c.put_new_node.ensures
