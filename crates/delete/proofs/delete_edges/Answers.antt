-- `delete::delete_edges` meets its contract.
-- Assumes nothing.
use mathlib.Core.List.{List}
use mathlib.Core.Path.{◌≡◌, ap, ◌∙◌}
use Prim.Native.Nat.{ℕ, ◌≤◌}
use lib.ListN.{length}
use native.Mathlib.Omega.{arith}
use Rattle.std.specs.Prelude.{Result as Returned}
use Rattle.moved.specs.Places.{map_of}
use Rattle.gone.specs.Marks.{unmarked_edges}
use Rattle.form.specs.Drawn.{graph_in}
use Rattle.form.specs.Form.{sizes_of, Gives}
use Rattle.form.specs.Stored.{format_of}
use Rattle.form.specs.declared.Done.{Done}
use Rattle.form.specs.declared.Refusal.{Refusal}
use Rattle.graph.specs.Calls.{id_list, on_graph, delete_edges_step, delete_edges_call, room_delete_edges}
use Rattle.graph.specs.Delete.{delete_edges}
use Rattle.graph.specs.Form.{label_row, body}
use Rattle.graph.specs.Graph.{Graph}
use Rattle.graph.specs.Versions.{fitting}
use Rattle.le.specs.Rows.{span}
use Rattle.write.specs.Write.{drawn}
use Rattle.form.proofs.Answers.{work_short, work_enough, room_enough, gives_passed}
use Rattle.form.proofs.Drawn.{stored_in, at_source}
use Rattle.form.proofs.Listed.{Given, ids_given_lem, ids_refused, ids_below}
use Rattle.form.proofs.Stored.{unread, stored_rows}
use Rattle.write.proofs.Calls.{gives_by, graph_unread, graph_stopped, Ends, graph_ends}
use Rattle.delete.proofs.Calls.{edges_roomy, edges_stop, edges_next, unmarked_deleted}
use Rattle.delete.proofs.delete_edges.Goals as goal
use Rattle.delete.proofs.delete_edges.Goals.{After-without_edges-y, In_ok-drawing, In_ok-n}

-- there is a byte of room for each edge of what was read
roomy : (c : In_ok-drawing) → c.in_ok-drawing.drawing.sizes.edges ≤ length c.args.room.now
roomy c = edges_roomy (stored_in c.in_ok-drawing.drawing) (room_enough room_delete_edges _ c.in_ok-work_room.ensures)

-- what is given of the bytes that were read is given of those that were lent
gives : (c : In_ok-drawing) {r : Returned Done Refusal} {new : List ℕ}
    → Gives (on_graph c.in_ok-drawing.drawing.src.now (length c.args.out.now) (λ f. delete_edges_step f c.args.ids.now)) r c.args.out.now new
    → Gives (delete_edges_call c.args.src.now c.args.ids.now (length c.args.out.now) (length c.args.room.now)) r c.args.out.now new
gives c {r} {new} h =
    at_source (λ b. Gives (delete_edges_call b c.args.ids.now (length c.args.out.now) (length c.args.room.now)) r c.args.out.now new) c.in_ok-drawing.ensures.source
    (gives_by (work_enough room_delete_edges _ _ c.in_ok-work_room.ensures) h)

-- the list that was checked
list : (c : In_ok-n) → Given (id_list (format_of c.in_ok-drawing.drawing.src.now) c.in_ok-drawing.drawing.sizes.edges c.args.ids.now) c.args.ids.now c.in_ok-drawing.drawing.sizes.width c.in_ok-n.n
list c = ids_given_lem (stored_in c.in_ok-drawing.drawing) _ _ _ c.in_ok-n.ensures

-- what is left without it
module _ (c : After-without_edges-y) where
  abbrev left : Graph
  left = delete_edges (span c.args.ids.now (map_of c.in_ok-drawing.drawing.sizes) 0 c.in_ok-n.n) (graph_in c.in_ok-drawing.drawing)

  deleted : unmarked_edges c.mark.new.room c.in_ok-drawing.drawing.sizes.edges (graph_in c.in_ok-drawing.drawing) ≡ left
  deleted = unmarked_deleted c.mark.new.room c.in_ok-drawing.drawing.sizes.edges _ (graph_in c.in_ok-drawing.drawing) c.mark.ensures

  ends : Ends (on_graph c.in_ok-drawing.drawing.src.now (length c.args.out.now) (λ f. delete_edges_step f c.args.ids.now)) c.args.out.now c.without_edges-y.result left 0
  ends =
      let s = stored_in c.in_ok-drawing.drawing in
      graph_ends c.args.out.now left 0 (c.without_edges-y.ensures ∙ ap (λ (h : Graph). sizes_of (fitting h) h) deleted) c.in_ok-drawing.drawing.src.now _ s
      (edges_next s c.args.ids.now _ (ids_given_lem s _ _ _ c.in_ok-n.ensures).answers)

pub returns-in_err-work_room : goal.returns-in_err-work_room
returns-in_err-work_room c = gives_passed _ _ c.from_residual.ensures.1 (work_short room_delete_edges _ _ _ c.in_err-work_room.ensures)

pub returns-in_err-drawing : goal.returns-in_err-drawing
returns-in_err-drawing c =
    gives_passed _ _ c.from_residual-in_err-drawing.ensures.1
    (work_enough room_delete_edges _ _ c.in_ok-work_room.ensures ∙ graph_unread _ _ _ (unread _ _ c.in_err-drawing.ensures.sizes))

pub id_list-requires : goal.id_list-requires
id_list-requires c = (stored_rows (stored_in c.in_ok-drawing.drawing)).low.width

pub returns-in_err-n : goal.returns-in_err-n
returns-in_err-n c =
    let s = stored_in c.in_ok-drawing.drawing in
    gives (goal.at.returns-in_err-n c).In_ok-drawing
    (gives_passed _ _ c.from_residual-in_err-n.ensures.1 (graph_stopped _ _ _ s (edges_stop s c.args.ids.now _ (ids_refused s _ _ _ c.in_err-n.ensures))))

pub mark-requires : goal.mark-requires
mark-requires c = let at = goal.at.mark-requires c in
    (roomy at.In_ok-drawing, (list at.In_ok-n).there, ids_below (stored_in c.in_ok-drawing.drawing) _ _ _ c.in_ok-n.ensures)

pub without_edges-y-requires : goal.without_edges-y-requires
without_edges-y-requires c = omega (arith, roomy (goal.at.without_edges-y-requires c).In_ok-drawing)

pub returns-in_err-bytes : goal.returns-in_err-bytes
returns-in_err-bytes c =
    let at = goal.at.returns-in_err-bytes c in
    gives at.In_ok-drawing ((ends at.After-without_edges-y).refuses _ c.in_err-bytes.ensures c.from_residual-in_err-bytes.ensures.1)

pub put_without_edges-requires : goal.put_without_edges-requires
put_without_edges-requires c =
    let at = goal.at.put_without_edges-requires c in
    record { stored = (omega (arith, roomy at.In_ok-drawing), (ends at.After-without_edges-y).room c.in_ok-bytes.ensures); y_value = c.without_edges-y.ensures }

pub returns : goal.returns
returns c =
    let at = goal.at.returns c in
    let y = at.After-without_edges-y in
    gives at.In_ok-drawing
    ((ends y).done c.in_ok-bytes.ensures (c.put_without_edges.ensures ∙ ap (λ (h : Graph). drawn c.args.out.now c.without_edges-y.result (label_row h) (body h)) (deleted y)))
