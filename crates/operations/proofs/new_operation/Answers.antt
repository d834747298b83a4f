-- `operations::new_operation` meets its contract.
-- Assumes nothing.
use mathlib.Core.Logic.{inr}
use mathlib.Core.List.{List}
use mathlib.Core.Path.{refl, ap, ◌∙◌}
use Prim.Native.Nat.{ℕ, ◌+◌, ◌<◌, ◌^◌}
use native.Mathlib.Omega.{arith}
use lib.ListN.{length}
use Rattle.graph.specs.Build.{new_operation}
use Rattle.graph.specs.Calls.{label_list, new_operation_call, new_operation_step}
use Rattle.le.proofs.Rows.{holds_index}
use Rattle.form.specs.Form.{body_size}
use Rattle.form.specs.Drawn.{graph_in}
use Rattle.form.proofs.Answers.{refused_so, gives_passed}
use Rattle.form.proofs.Listed.{labels_given}
use Rattle.form.proofs.Drawn.{stored_in, at_source}
use Rattle.form.proofs.Stored.{unread, stored_bytes}
use Rattle.write.proofs.Calls.{graph_unread, graph_stopped, Ends, graph_ends}
use Rattle.pieces.specs.Lent.{lent}
use Rattle.pieces.proofs.Two.{first_stops, second_stops, both_go}
use Rattle.operations.proofs.Bodies.{new_operation_sizes}
use Rattle.operations.proofs.Calls.{new_operation_lists}
use Rattle.operations.proofs.new_operation.Goals as goal
use Rattle.operations.proofs.new_operation.Goals.{After-result_size, In_ok-t}

-- the lists are not so long that sums wrap
short : (c : In_ok-t) → c.in_ok-s.s + c.in_ok-t.t < 2 ^ 63
short c = omega (arith, holds_index (labels_given _ _ (inr refl) c.in_ok-s.ensures).there, holds_index (labels_given _ _ (inr refl) c.in_ok-t.ensures).there)

ends : (c : After-result_size) → Ends (new_operation_call c.args.src.now c.args.label c.args.sources.now c.args.targets.now (length c.args.out.now)) c.args.out.now
    c.sized-y.result (new_operation c.args.label (lent c.args.sources.now 4 c.in_ok-s.s) (lent c.args.targets.now 4 c.in_ok-t.t) (graph_in c.in_ok-drawing.drawing))
    c.in_ok-drawing.drawing.sizes.edges
ends c =
    let a = c.args in
    let old = a.out.now in
    let d = c.in_ok-drawing.drawing in
    let p = labels_given _ _ (inr refl) c.in_ok-s.ensures in
    let q = labels_given _ _ (inr refl) c.in_ok-t.ensures in
    let made = new_operation a.label (lent a.sources.now 4 c.in_ok-s.s) (lent a.targets.now 4 c.in_ok-t.t) (graph_in d) in
    at_source (λ (b : List ℕ). Ends (new_operation_call b a.label a.sources.now a.targets.now (length old)) old c.sized-y.result made d.sizes.edges) c.in_ok-drawing.ensures.source
    (graph_ends old _ _ (c.sized-y.ensures ∙ new_operation_sizes (stored_in d) a.label _ _ _ _ p.many q.many) _ (λ f. new_operation_step a.label a.sources.now a.targets.now)
    (stored_in d) (both_go _ _ _ _ (new_operation_lists (stored_in d) a.label a.sources.now a.targets.now) p.answers q.answers))

pub returns-in_err-drawing : goal.returns-in_err-drawing
returns-in_err-drawing c = gives_passed _ _ c.from_residual.ensures.1 (graph_unread _ _ _ (unread _ _ c.in_err-drawing.ensures.sizes))

pub returns-in_err-s : goal.returns-in_err-s
returns-in_err-s c =
    let a = c.args in
    let s = stored_bytes c.in_ok-drawing.ensures.sizes c.type_inv.src in
    gives_passed _ _ c.from_residual-in_err-s.ensures.1
    (graph_stopped _ _ _ s
    (first_stops _ _ _ _ (new_operation_lists s a.label a.sources.now a.targets.now) (refused_so _ (label_list a.sources.now) _ c.in_err-s.ensures)))

pub returns-in_err-t : goal.returns-in_err-t
returns-in_err-t c =
    let a = c.args in
    let s = stored_bytes c.in_ok-drawing.ensures.sizes c.type_inv.src in
    let p = labels_given _ _ (inr refl) c.in_ok-s.ensures in
    gives_passed _ _ c.from_residual-in_err-t.ensures.1
    (graph_stopped _ _ _ s
    (second_stops _ _ _ _ (new_operation_lists s a.label a.sources.now a.targets.now) p.answers (refused_so _ (label_list a.targets.now) _ c.in_err-t.ensures)))

pub overflow_add-new : goal.overflow_add-new
overflow_add-new c = omega (arith, short (goal.at.overflow_add-new c).In_ok-t)

pub overflow_add-z : goal.overflow_add-z
overflow_add-z c = omega (arith, c.in_ok-drawing.drawing.few, short (goal.at.overflow_add-z c).In_ok-t)

pub overflow_add-z-3 : goal.overflow_add-z-3
overflow_add-z-3 c = omega (arith, c.in_ok-drawing.drawing.few, short (goal.at.overflow_add-z-3 c).In_ok-t)

pub returns-in_err-bytes : goal.returns-in_err-bytes
returns-in_err-bytes c = (ends (goal.at.returns-in_err-bytes c).After-result_size).refuses _ c.in_err-bytes.ensures c.from_residual-in_err-bytes.ensures.1

pub put_new_operation-requires : goal.put_new_operation-requires
put_new_operation-requires c =
    let y = c.sized-y.ensures in (
      (ends (goal.at.put_new_operation-requires c).After-result_size).room c.in_ok-bytes.ensures,
      ap (λ y. y.nodes) y,
      ap (λ y. y.edges) y,
      omega (arith, ap body_size y),
      (labels_given _ _ (inr refl) c.in_ok-s.ensures).there,
      (labels_given _ _ (inr refl) c.in_ok-t.ensures).there,
    )

pub returns : goal.returns
returns c = (ends (goal.at.returns c).After-result_size).done c.in_ok-bytes.ensures c.put_new_operation.ensures
