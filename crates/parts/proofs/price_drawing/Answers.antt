-- `parts::price_drawing` meets its contract.
-- Assumes nothing.
use mathlib.Core.Path.{◌≡◌, sym, ap, ◌∙◌}
use native.Mathlib.Omega.{arith}
use lib.ListN.{length}
use Rattle.graph.specs.Answer.{Answer, refused, answered, ◌>>◌}
use Rattle.graph.specs.Calls.{in_work_room}
use Rattle.graph.specs.Graph.{Graph}
use Rattle.graph.specs.Versions as versions
use Rattle.form.specs.Form.{meant_by}
use Rattle.form.specs.Stored.{stored_of, graph_of}
use Rattle.form.proofs.Answers.{room_enough, refused_so, answered_so}
use Rattle.form.proofs.Drawn.{stored_in, at_source}
use Rattle.parts.specs.declared.Parts as declared
use Rattle.parts.specs.Parts.{billed, pricing}
use Rattle.catalogue.specs.Price.{parts_check, Priced, priced_graph, price, room_price}
use Rattle.catalogue.proofs.Bounds.{edges_price_few, buffers_few}
use Rattle.parts.proofs.Billed.{billed_priced, told_passed}
use Rattle.catalogue.proofs.Faults.{then_goes, then_stops}
use Rattle.parts.proofs.Pairless.{room_short, graph_unread, graph_paired, graph_pairless}
use Rattle.parts.proofs.price_drawing.Goals as goal
use Rattle.parts.proofs.price_drawing.Goals.{In_ok-unpaired, In_ok-check_parts}

-- what follows 8
abbrev next : versions.StoredGraph → Graph → Answer Priced
next s g = parts_check g.edges >> answered (priced_graph g)

-- no refusal was met up to 8
whole : (c : In_ok-unpaired) → let b = c.in_ok-drawing.drawing.src.now in
    in_work_room room_price (length c.args.room.now) (price b) ≡ next (stored_of b) (graph_of b)
unfolding price
whole c = graph_pairless _ room_price _ next c.in_ok-work_room.ensures (stored_in c.in_ok-drawing.drawing) c.in_ok-unpaired.ensures

-- nor by an edge
in_order : (c : In_ok-check_parts) → parts_check (graph_of c.in_ok-drawing.drawing.src.now).edges ≡ answered tt
in_order c = (answered_so _ (parts_check (graph_of c.in_ok-drawing.drawing.src.now).edges) tt c.in_ok-check_parts.ensures).1

pub returns-in_err-work_room : goal.returns-in_err-work_room
unfolding price
returns-in_err-work_room c = told_passed _ _ c.from_residual.ensures.1 (sym (ap pricing (room_short c.args.src.now room_price _ next _ c.in_err-work_room.ensures)))

pub returns-in_err-drawing : goal.returns-in_err-drawing
unfolding price
returns-in_err-drawing c =
    told_passed _ _ c.from_residual-in_err-drawing.ensures.1
    (sym (ap pricing (graph_unread c.args.src.now room_price _ next c.in_ok-work_room.ensures _ c.in_err-drawing.ensures.sizes)))

pub returns-in_err-unpaired : goal.returns-in_err-unpaired
unfolding price
returns-in_err-unpaired c =
    let d = c.in_ok-drawing.drawing in
    told_passed _ _ c.from_residual-in_err-unpaired.ensures.1
    (sym (ap pricing (at_source (λ b. in_work_room room_price (length c.args.room.now) (price b) ≡ refused (meant_by c.in_err-unpaired.field-0.0)) c.in_ok-drawing.ensures.source
    (graph_paired d.src.now room_price _ next c.in_ok-work_room.ensures (stored_in d) _ c.in_err-unpaired.ensures))))

pub returns-in_err-check_parts : goal.returns-in_err-check_parts
returns-in_err-check_parts c =
    let checked = parts_check (graph_of c.in_ok-drawing.drawing.src.now).edges in
    told_passed _ _ c.from_residual-in_err-check_parts.ensures.1
    (sym (ap pricing (at_source (λ b. in_work_room room_price (length c.args.room.now) (price b) ≡ refused (meant_by c.in_err-check_parts.field-0.0)) c.in_ok-drawing.ensures.source
    (whole (goal.at.returns-in_err-check_parts c).In_ok-unpaired ∙ then_stops checked _ _ (refused_so _ checked _ c.in_err-check_parts.ensures)))))

pub count_parts-counted-requires : goal.count_parts-counted-requires
count_parts-counted-requires c = in_order (goal.at.count_parts-counted-requires c).In_ok-check_parts

pub count_chosen-buffers-requires : goal.count_chosen-buffers-requires
count_chosen-buffers-requires c = record { room_choice_in_bounds = room_enough room_price _ c.in_ok-work_room.ensures }

pub with_buffers-requires : goal.with_buffers-requires
with_buffers-requires c =
    let s = stored_in c.in_ok-drawing.drawing in
    let g = graph_of c.in_ok-drawing.drawing.src.now in
    let parts = ap (λ (p : declared.Parts). p.total) c.count_parts-counted.ensures in
    (omega (arith, buffers_few g s.within, c.count_chosen-buffers.ensures), omega (arith, parts, edges_price_few g.edges, s.within.counts.edges))

pub returns : goal.returns
returns c =
    let g = graph_of c.in_ok-drawing.drawing.src.now in
    let bill = c.with_buffers.ensures ∙ (λ i. billed (c.count_parts-counted.ensures i) (c.count_chosen-buffers.ensures i)) ∙ billed_priced g in
    at_source (λ b. answered c.with_buffers.result ≡ pricing (in_work_room room_price (length c.args.room.now) (price b))) c.in_ok-drawing.ensures.source
    (ap answered bill
    ∙ sym (ap pricing (whole (goal.at.returns c).In_ok-unpaired ∙ then_goes (parts_check g.edges) _ (in_order (goal.at.returns c).In_ok-check_parts))))
