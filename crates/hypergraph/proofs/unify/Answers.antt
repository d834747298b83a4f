-- `hypergraph::unify` meets its contract.
-- Assumes nothing.
use mathlib.Core.List.{List}
use mathlib.Core.Path.{sym, ap, ◌∙◌}
use Prim.Native.Nat.{ℕ}
use native.Mathlib.Omega.{arith}
use lib.ListN.{length}
use Rattle.graph.specs.Build.{unify}
use Rattle.graph.specs.Calls.{unify_call, unify_step}
use Rattle.graph.proofs.Answers.{known_below}
use Rattle.form.specs.Drawn.{graph_in}
use Rattle.form.specs.Form.{body_size}
use Rattle.form.proofs.Answers.{gives_passed}
use Rattle.form.proofs.Drawn.{stored_in, at_source}
use Rattle.form.proofs.Stored.{unread, stored_bytes}
use Rattle.write.proofs.Calls.{graph_unread, graph_stopped, Ends, graph_ends}
use Rattle.hypergraph.proofs.Bodies.{unify_sizes}
use Rattle.hypergraph.proofs.Calls.{unify_ids}
use Rattle.pieces.proofs.Two.{first_stops, second_stops, both_go}
use Rattle.hypergraph.proofs.unify.Goals as goal
use Rattle.hypergraph.proofs.unify.Goals.{After-result_size}

ends : (c : After-result_size) → Ends (unify_call c.args.src.now c.args.v c.args.w (length c.args.out.now)) c.args.out.now c.sized-y.result
    (unify c.in_ok-first.first c.in_ok-second.second (graph_in c.in_ok-drawing.drawing)) 0
ends c =
    let a = c.args in
    let old = a.out.now in
    let d = c.in_ok-drawing.drawing in
    let first = c.in_ok-first.first in
    let second = c.in_ok-second.second in
    at_source (λ (b : List ℕ). Ends (unify_call b a.v a.w (length old)) old c.sized-y.result (unify first second (graph_in d)) 0) c.in_ok-drawing.ensures.source
    (graph_ends old _ _ (c.sized-y.ensures ∙ unify_sizes (stored_in d) first second) _ (λ f. unify_step a.v a.w) (stored_in d)
    (both_go _ _ _ _ (unify_ids (stored_in d) a.v a.w) (sym c.in_ok-first.ensures) (sym c.in_ok-second.ensures)))

pub returns-in_err-drawing : goal.returns-in_err-drawing
returns-in_err-drawing c = gives_passed _ _ c.from_residual.ensures.1 (graph_unread _ _ _ (unread _ _ c.in_err-drawing.ensures.sizes))

pub returns-in_err-first : goal.returns-in_err-first
returns-in_err-first c =
    let s = stored_bytes c.in_ok-drawing.ensures.sizes c.type_inv.src in
    gives_passed _ _ c.from_residual-in_err-first.ensures.1 (graph_stopped _ _ _ s (first_stops _ _ _ _ (unify_ids s c.args.v c.args.w) (sym c.in_err-first.ensures)))

pub returns-in_err-second : goal.returns-in_err-second
returns-in_err-second c =
    let s = stored_bytes c.in_ok-drawing.ensures.sizes c.type_inv.src in
    gives_passed _ _ c.from_residual-in_err-second.ensures.1
    (graph_stopped _ _ _ s (second_stops _ _ _ _ (unify_ids s c.args.v c.args.w) (sym c.in_ok-first.ensures) (sym c.in_err-second.ensures)))

pub returns-in_err-bytes : goal.returns-in_err-bytes
returns-in_err-bytes c = (ends (goal.at.returns-in_err-bytes c).After-result_size).refuses _ c.in_err-bytes.ensures c.from_residual-in_err-bytes.ensures.1

pub put_unified-requires : goal.put_unified-requires
put_unified-requires c =
    let y = c.sized-y.ensures in
    let few = c.in_ok-drawing.drawing.few in (
      (ends (goal.at.put_unified-requires c).After-result_size).room c.in_ok-bytes.ensures,
      omega (arith, ap (λ y. y.nodes) y, ap (λ y. y.edges) y),
      omega (arith, ap body_size y),
      omega (arith, few, known_below _ _ _ (sym c.in_ok-first.ensures)),
      omega (arith, few, known_below _ _ _ (sym c.in_ok-second.ensures)),
    )

pub returns : goal.returns
returns c = (ends (goal.at.returns c).After-result_size).done c.in_ok-bytes.ensures c.put_unified.ensures
