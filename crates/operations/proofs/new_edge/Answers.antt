-- `operations::new_edge` meets its contract.
-- Assumes nothing.
use mathlib.Core.List.{List}
use mathlib.Core.Path.{ap, ◌∙◌}
use Prim.Native.Nat.{ℕ}
use native.Mathlib.Omega.{arith}
use lib.ListN.{length}
use Rattle.graph.specs.Build.{new_edge}
use Rattle.graph.specs.Calls.{new_edge_call, new_edge_step}
use Rattle.le.proofs.Rows.{holds_index}
use Rattle.form.specs.Form.{body_size}
use Rattle.form.specs.Drawn.{graph_in}
use Rattle.form.proofs.Answers.{gives_passed}
use Rattle.form.proofs.Listed.{ids_given_lem, ids_refused}
use Rattle.form.proofs.Drawn.{stored_in, at_source}
use Rattle.form.proofs.Stored.{unread, stored_rows, stored_bytes}
use Rattle.write.proofs.Calls.{graph_unread, graph_stopped, Ends, graph_ends}
use Rattle.pieces.specs.Lent.{lent}
use Rattle.pieces.proofs.Two.{first_stops, second_stops, both_go}
use Rattle.operations.proofs.Bodies.{new_edge_sizes}
use Rattle.operations.proofs.Calls.{graph_over, new_edge_lists}
use Rattle.operations.proofs.new_edge.Goals as goal
use Rattle.operations.proofs.new_edge.Goals.{After-result_size}

ends : (c : After-result_size) → Ends (new_edge_call c.args.src.now c.args.label c.args.sources.now c.args.targets.now (length c.args.out.now)) c.args.out.now c.sized-y.result
    (new_edge c.args.label (lent c.args.sources.now c.in_ok-drawing.drawing.sizes.width c.in_ok-s.s) (lent c.args.targets.now c.in_ok-drawing.drawing.sizes.width c.in_ok-t.t)
    (graph_in c.in_ok-drawing.drawing))
    c.in_ok-drawing.drawing.sizes.edges
ends c =
    let a = c.args in
    let old = a.out.now in
    let d = c.in_ok-drawing.drawing in
    let p = ids_given_lem (stored_in d) _ _ _ c.in_ok-s.ensures in
    let q = ids_given_lem (stored_in d) _ _ _ c.in_ok-t.ensures in
    let made = new_edge a.label (lent a.sources.now d.sizes.width c.in_ok-s.s) (lent a.targets.now d.sizes.width c.in_ok-t.t) (graph_in d) in
    at_source (λ (b : List ℕ). Ends (new_edge_call b a.label a.sources.now a.targets.now (length old)) old c.sized-y.result made d.sizes.edges) c.in_ok-drawing.ensures.source
    (graph_ends old _ _ (c.sized-y.ensures ∙ new_edge_sizes (stored_in d) a.label _ _ _ _ p.many q.many) _ (λ f. new_edge_step f a.label a.sources.now a.targets.now) (stored_in d)
    (both_go _ _ _ _ (new_edge_lists (stored_in d) a.label a.sources.now a.targets.now) p.answers q.answers))

pub returns-in_err-drawing : goal.returns-in_err-drawing
returns-in_err-drawing c = gives_passed _ _ c.from_residual.ensures.1 (graph_unread _ _ _ (unread _ _ c.in_err-drawing.ensures.sizes))

pub id_list-requires : goal.id_list-requires
id_list-requires c = (stored_rows (stored_in c.in_ok-drawing.drawing)).low.width

pub returns-in_err-s : goal.returns-in_err-s
returns-in_err-s c =
    let a = c.args in
    let s = stored_bytes c.in_ok-drawing.ensures.sizes c.type_inv.src in
    gives_passed _ _ c.from_residual-in_err-s.ensures.1
    (graph_stopped _ _ _ s (first_stops _ _ _ _ (new_edge_lists s a.label a.sources.now a.targets.now) (ids_refused s _ _ _ c.in_err-s.ensures)))

pub id_list-requires-2 : goal.id_list-requires-2
id_list-requires-2 c = (stored_rows (stored_in c.in_ok-drawing.drawing)).low.width

pub returns-in_err-t : goal.returns-in_err-t
returns-in_err-t c =
    let a = c.args in
    let s = stored_bytes c.in_ok-drawing.ensures.sizes c.type_inv.src in
    gives_passed _ _ c.from_residual-in_err-t.ensures.1
    (graph_stopped _ _ _ s
    (second_stops _ _ _ _ (new_edge_lists s a.label a.sources.now a.targets.now) (ids_given_lem s _ _ _ c.in_ok-s.ensures).answers (ids_refused s _ _ _ c.in_err-t.ensures)))

-- the lists are not so long that sums wrap
pub overflow_add-new : goal.overflow_add-new
overflow_add-new c =
    let s = stored_in c.in_ok-drawing.drawing in
    omega (arith, holds_index (ids_given_lem s _ _ _ c.in_ok-s.ensures).there, holds_index (ids_given_lem s _ _ _ c.in_ok-t.ensures).there)

pub returns-then-new-gt-MAX_PORTS : goal.returns-then-new-gt-MAX_PORTS
returns-then-new-gt-MAX_PORTS c =
    let a = c.args in
    let s = stored_bytes c.in_ok-drawing.ensures.sizes c.type_inv.src in
    let p = ids_given_lem s _ _ _ c.in_ok-s.ensures in
    let q = ids_given_lem s _ _ _ c.in_ok-t.ensures in
    graph_over a.src.now (λ f. new_edge_step f a.label a.sources.now a.targets.now) a.out.now s _
    (both_go _ _ _ _ (new_edge_lists s a.label a.sources.now a.targets.now) p.answers q.answers)
    (omega (arith, ap (λ y. y.ports) (new_edge_sizes s a.label (lent a.sources.now c.in_ok-drawing.drawing.sizes.width c.in_ok-s.s) (lent a.targets.now c.in_ok-drawing.drawing.sizes.width c.in_ok-t.t) _ _ p.many q.many), c.if-new-gt-MAX_PORTS.true))

pub returns-in_err-bytes : goal.returns-in_err-bytes
returns-in_err-bytes c = (ends (goal.at.returns-in_err-bytes c).After-result_size).refuses _ c.in_err-bytes.ensures c.from_residual-in_err-bytes.ensures.1

pub put_new_edge-requires : goal.put_new_edge-requires
put_new_edge-requires c =
    let s = stored_in c.in_ok-drawing.drawing in
    let y = c.sized-y.ensures in
    let room = (ends (goal.at.put_new_edge-requires c).After-result_size).room c.in_ok-bytes.ensures in (
      room,
      ap (λ y. y.nodes) y,
      ap (λ y. y.edges) y,
      omega (arith, ap body_size y),
      omega (arith, room.low.ports, ap (λ y. y.ports) y),
      omega (arith, room.low.ports, ap (λ y. y.ports) y),
      (ids_given_lem s _ _ _ c.in_ok-s.ensures).there,
      (ids_given_lem s _ _ _ c.in_ok-t.ensures).there,
    )

pub returns : goal.returns
returns c = (ends (goal.at.returns c).After-result_size).done c.in_ok-bytes.ensures c.put_new_edge.ensures
