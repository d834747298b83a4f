-- `ports::add_port` meets its contract.
-- Assumes nothing.
use mathlib.Core.List.{List}
use mathlib.Core.Path.{sym, ◌∙◌}
use Prim.Native.Nat.{ℕ}
use native.Mathlib.Omega.{arith}
use lib.ListN.{length}
use Rattle.form.specs.Drawn.{graph_in}
use Rattle.form.proofs.Answers.{gives_passed}
use Rattle.form.proofs.Drawn.{stored_in, at_source}
use Rattle.form.proofs.Stored.{unread, stored_bytes}
use Rattle.graph.specs.Calls.{on_graph}
use Rattle.graph.proofs.Answers.{known_below}
use Rattle.write.proofs.Calls.{graph_unread, graph_stopped, Ends, graph_ends}
use Rattle.ports.specs.Ports.{port_step, added}
use Rattle.ports.proofs.Bodies.{added_sizes, port_stopped, port_next}
use Rattle.ports.proofs.add_port.Goals as goal
use Rattle.ports.proofs.add_port.Goals.{After-result_size}

ends : (c : After-result_size) → Ends (on_graph c.args.src.now (length c.args.out.now) (λ f. port_step c.args.side c.args.edge c.args.label)) c.args.out.now c.sized-y.result
    (added c.args.side c.in_ok-i.i c.args.label (graph_in c.in_ok-drawing.drawing)) c.in_ok-drawing.drawing.sizes.nodes
ends c =
    let a = c.args in
    let old = a.out.now in
    let d = c.in_ok-drawing.drawing in
    let i = sym c.in_ok-i.ensures in
    at_source (λ (b : List ℕ). Ends (on_graph b (length old) (λ f. port_step a.side a.edge a.label)) old c.sized-y.result (added a.side c.in_ok-i.i a.label (graph_in d)) d.sizes.nodes)
    c.in_ok-drawing.ensures.source
    (graph_ends old _ _ (c.sized-y.ensures ∙ added_sizes (stored_in d) a.side _ a.label (known_below _ _ _ i)) _ (λ f. port_step a.side a.edge a.label) (stored_in d)
    (port_next (stored_in d) a.edge a.label a.side i))

pub returns-in_err-drawing : goal.returns-in_err-drawing
returns-in_err-drawing c = gives_passed _ _ c.from_residual.ensures.1 (graph_unread _ _ _ (unread _ _ c.in_err-drawing.ensures.sizes))

pub returns-in_err-i : goal.returns-in_err-i
returns-in_err-i c =
    let a = c.args in
    let s = stored_bytes c.in_ok-drawing.ensures.sizes c.type_inv.src in
    gives_passed _ _ c.from_residual-in_err-i.ensures.1 (graph_stopped _ _ _ s (port_stopped s a.edge a.label a.side (sym c.in_err-i.ensures)))

pub put_added-requires : goal.put_added-requires
put_added-requires c =
    let y = c.sized-y.ensures in (
      (ends (goal.at.put_added-requires c).After-result_size).room c.in_ok-bytes.ensures,
      known_below _ _ _ (sym c.in_ok-i.ensures),
      rw y (omega arith),
      rw y (omega arith),
    )

pub returns-in_err-bytes : goal.returns-in_err-bytes
returns-in_err-bytes c = (ends (goal.at.returns-in_err-bytes c).After-result_size).refuses _ c.in_err-bytes.ensures c.from_residual-in_err-bytes.ensures.1

pub returns : goal.returns
returns c = (ends (goal.at.returns c).After-result_size).done c.in_ok-bytes.ensures c.put_added.ensures
