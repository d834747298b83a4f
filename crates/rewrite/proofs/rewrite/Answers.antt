-- `rewrite::rewrite` meets its contract.
-- Assumes nothing.
use mathlib.Core.List.{List}
use mathlib.Core.Path.{ap}
use Prim.Native.Nat.{ℕ}
use lib.ListN.{length}
use Rattle.graph.specs.Calls.{rewrite_call, rewrite_step}
use Rattle.graph.specs.Graph.{Format}
use Rattle.form.specs.Drawn.{graph_in}
use Rattle.form.specs.Form.{counts_of}
use Rattle.form.specs.declared.Sizes.{Sizes}
use Rattle.form.proofs.Answers.{gives_passed}
use Rattle.form.proofs.Drawn.{stored_in, at_source}
use Rattle.form.proofs.Stored.{unread}
use Rattle.write.proofs.Calls.{graph_unread, Ends, graph_ends}
use Rattle.rewrite.proofs.Ways.{read_again}
use Rattle.rewrite.proofs.rewrite.Goals as goal
use Rattle.rewrite.proofs.rewrite.Goals.{After-result_size}

-- the ways on once the graph is read
ends : (c : After-result_size) → Ends (rewrite_call c.args.src.now (length c.args.out.now)) c.args.out.now c.sized-y.result (graph_in c.in_ok-drawing.drawing) 0
ends c =
    let old = c.args.out.now in
    let d = c.in_ok-drawing.drawing in
    let w = read_again (stored_in d) c.sized-y.ensures in
    at_source (λ (b : List ℕ). Ends (rewrite_call b (length old)) old c.sized-y.result (graph_in d) 0) c.in_ok-drawing.ensures.source
    (graph_ends old _ 0 w.1 _ (λ (f : Format). rewrite_step) (stored_in d) w.0)

pub returns-in_err-drawing : goal.returns-in_err-drawing
returns-in_err-drawing c = gives_passed _ _ c.from_residual.ensures.1 (graph_unread _ _ _ (unread _ _ c.in_err-drawing.ensures.sizes))

pub put_graph-requires : goal.put_graph-requires
put_graph-requires c =
    let y = c.sized-y.ensures in
    ((ends (goal.at.put_graph-requires c).After-result_size).room c.in_ok-bytes.ensures, ap counts_of y, ap (λ (z : Sizes). z.ports) y)

pub returns-in_err-bytes : goal.returns-in_err-bytes
returns-in_err-bytes c = (ends (goal.at.returns-in_err-bytes c).After-result_size).refuses _ c.in_err-bytes.ensures c.from_residual-in_err-bytes.ensures.1

pub returns : goal.returns
returns c = (ends (goal.at.returns c).After-result_size).done c.in_ok-bytes.ensures c.put_graph.ensures
