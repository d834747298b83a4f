-- `delete::delete_nodes` meets its contract.
-- Assumes nothing.
use mathlib.Core.Bool.{Bool}
use mathlib.Core.List.{List}
use mathlib.Core.Path.{◌≡◌, refl, sym, ap, ◌∙◌, subst}
use Prim.Native.Nat.{ℕ, ◌*◌, ◌^◌, ◌≤◌, ◌<◌}
use native.Mathlib.Nat.{mul-le-mul_left}
use native.Mathlib.Omega.{arith}
use lib.Dec.{leb}
use lib.ListN.{length}
use Rattle.std.specs.Prelude.{Ok}
use Rattle.std.specs.Prelude.{Result as Returned}
use Rattle.gone.specs.Marks.{marked}
use Rattle.moved.specs.Places.{map_of, gone_in, Mapped}
use Rattle.form.specs.Drawn.{graph_in}
use Rattle.form.specs.Form.{sizes_of, tested, GivesMap}
use Rattle.form.specs.Stored.{format_of, Stored}
use Rattle.form.specs.declared.Done.{Done}
use Rattle.form.specs.declared.Refusal.{Refusal}
use Rattle.form.specs.declared.Sizes.{Sizes}
use Rattle.graph.specs.Answer.{Answer, Result, answered, ◌else◌, refusal}
use Rattle.graph.specs.Calls.{id_list, nodes_deleted, room_delete_nodes, delete_nodes_call}
use Rattle.graph.specs.Delete.{without_nodes, delete_nodes}
use Rattle.graph.specs.Form.{label_row, body}
use Rattle.graph.specs.Graph.{Graph}
use Rattle.graph.specs.Versions.{fitting}
use Rattle.le.specs.Rows.{Holds, span}
use Rattle.write.specs.Write.{drawn, result_size}
use Rattle.form.proofs.Answers.{work_short, work_enough, room_enough, gives_map_passed, gives_map_done}
use Rattle.form.proofs.Drawn.{stored_in, at_source}
use Rattle.form.proofs.Listed.{Given, ids_given_lem, ids_refused, ids_below}
use Rattle.form.proofs.Stored.{unread, stored_rows}
use Rattle.write.proofs.Calls.{next}
use Rattle.write.proofs.Results.{Fits, result_refused, result_fits, fits_room, drawn_whole}
use Rattle.delete.proofs.Calls.{nodes_roomy, nodes_deleted_lem, nodes_unread, nodes_unlisted, nodes_refused, nodes_no_map, nodes_done, map_put}
use Rattle.gone.proofs.Marks.{outside}
use Rattle.moved.proofs.Places.{map_made}
use Rattle.delete.proofs.delete_nodes.Goals as goal
use Rattle.delete.proofs.delete_nodes.Goals.{After-put_map, After-without_nodes-sizes, In_ok-drawing, In_ok-n}

-- there is a byte of room for each node of what was read
roomy : (c : In_ok-drawing) → c.in_ok-drawing.drawing.sizes.nodes ≤ length c.args.room.now
roomy c = nodes_roomy (stored_in c.in_ok-drawing.drawing) (room_enough room_delete_nodes _ c.in_ok-work_room.ensures)

-- what the call answers of the bytes that were read, it answers of those that were lent
answers : (c : In_ok-drawing) {x : Answer Result} → nodes_deleted c.in_ok-drawing.drawing.src.now c.args.ids.now (length c.args.out.now) (length c.args.map.now) ≡ x
    → delete_nodes_call c.args.src.now c.args.ids.now (length c.args.out.now) (length c.args.map.now) (length c.args.room.now) ≡ x
answers c {x} e =
    work_enough room_delete_nodes _ _ c.in_ok-work_room.ensures
    ∙ at_source (λ b. nodes_deleted b c.args.ids.now (length c.args.out.now) (length c.args.map.now) ≡ x) c.in_ok-drawing.ensures.source e

-- the list that was checked
list : (c : In_ok-n) → Given (id_list (format_of c.in_ok-drawing.drawing.src.now) c.in_ok-drawing.drawing.sizes.nodes c.args.ids.now) c.args.ids.now c.in_ok-drawing.drawing.sizes.width c.in_ok-n.n
list c = ids_given_lem (stored_in c.in_ok-drawing.drawing) _ _ _ c.in_ok-n.ensures

-- what is left without it, its sizes, and that it can be written
module _ (c : After-without_nodes-sizes) where
  abbrev left : Graph
  left = delete_nodes (span c.args.ids.now (map_of c.in_ok-drawing.drawing.sizes) 0 c.in_ok-n.n) (graph_in c.in_ok-drawing.drawing)

  sizes : c.without_nodes-sizes.result ≡ sizes_of (fitting left) left
  sizes = c.without_nodes-sizes.ensures ∙ ap (λ (h : Graph). sizes_of (fitting h) h) (nodes_deleted_lem _ (graph_in c.in_ok-drawing.drawing) c.mark.ensures)

  fits : {n : ℕ} → answered n ≡ result_size c.without_nodes-sizes.result (length c.args.out.now) → Fits (next left 0) c.without_nodes-sizes.result (length c.args.out.now) n
  fits {n} e = result_fits (next left 0) c.without_nodes-sizes.result sizes (length c.args.out.now) n (sym e)

-- there is room for the map
map_held : {b map : List ℕ} {z : Sizes} → Stored b z → answered tt ≡ tested (leb (z.nodes * z.width) (length map) else refusal 10) → Holds map (map_of z) z.nodes
map_held {map = map} s e = record { wide = (stored_rows s).low.width; inside = omega (arith, room_enough _ (length map) e) }

-- the map that was made says which nodes go
made : (c : After-put_map)
    → Mapped c.in_ok-drawing.drawing.sizes c.put_map.new.map × (marked c.mark.new.room c.in_ok-drawing.drawing.sizes.nodes ≡ gone_in c.in_ok-drawing.drawing.sizes c.put_map.new.map)
made c =
    let f = stored_in c.in_ok-drawing.drawing in
    let z = c.in_ok-drawing.drawing.sizes in
    let room = c.mark.new.room in
    let small = subst (λ (y : Sizes). y.nodes < 256 ^ y.width) (sym f.sizes) (omega (arith, f.formed.counts.nodes, f.usable.nodes)) in
    map_made z (marked room z.nodes) c.args.map.now (map_held f c.in_ok-work_room-2.ensures) small (stored_rows f).low (outside room z.nodes) c.put_map.ensures

pub returns-in_err-work_room : goal.returns-in_err-work_room
returns-in_err-work_room c = gives_map_passed _ _ _ c.from_residual.ensures.1 (work_short room_delete_nodes _ _ _ c.in_err-work_room.ensures)

pub returns-in_err-drawing : goal.returns-in_err-drawing
returns-in_err-drawing c =
    gives_map_passed _ _ _ c.from_residual-in_err-drawing.ensures.1
    (work_enough room_delete_nodes _ _ c.in_ok-work_room.ensures ∙ nodes_unread c.args.src.now c.args.ids.now _ _ _ (unread _ _ c.in_err-drawing.ensures.sizes))

pub id_list-requires : goal.id_list-requires
id_list-requires c = (stored_rows (stored_in c.in_ok-drawing.drawing)).low.width

pub returns-in_err-n : goal.returns-in_err-n
returns-in_err-n c =
    let d = c.in_ok-drawing.drawing in
    let s = stored_in d in
    gives_map_passed _ _ _ c.from_residual-in_err-n.ensures.1
    (answers (goal.at.returns-in_err-n c).In_ok-drawing (nodes_unlisted d.src.now c.args.ids.now _ _ s _ (ids_refused s _ _ _ c.in_err-n.ensures)))

pub mark-requires : goal.mark-requires
mark-requires c = let at = goal.at.mark-requires c in
    (roomy at.In_ok-drawing, (list at.In_ok-n).there, ids_below (stored_in c.in_ok-drawing.drawing) _ _ _ c.in_ok-n.ensures)

pub without_nodes-sizes-requires : goal.without_nodes-sizes-requires
without_nodes-sizes-requires c = omega (arith, roomy (goal.at.without_nodes-sizes-requires c).In_ok-drawing)

pub returns-in_err-bytes : goal.returns-in_err-bytes
returns-in_err-bytes c =
    let at = goal.at.returns-in_err-bytes c in
    let d = c.in_ok-drawing.drawing in
    let y = at.After-without_nodes-sizes in
    gives_map_passed _ _ _ c.from_residual-in_err-bytes.ensures.1
    (answers at.In_ok-drawing (nodes_refused d.src.now c.args.ids.now _ _ (stored_in d) _ (list at.In_ok-n).answers _
    (result_refused (next (left y) 0) c.without_nodes-sizes.result (sizes y) (length c.args.out.now) _ (sym c.in_err-bytes.ensures))))

pub overflow_mul-z : goal.overflow_mul-z
overflow_mul-z c = omega (arith, mul-le-mul_left c.in_ok-drawing.drawing.sizes.nodes (stored_rows (stored_in c.in_ok-drawing.drawing)).low.narrow)

pub returns-in_err-work_room-2 : goal.returns-in_err-work_room-2
returns-in_err-work_room-2 c =
    let at = goal.at.returns-in_err-work_room-2 c in
    let d = c.in_ok-drawing.drawing in
    gives_map_passed _ _ _ c.from_residual-in_err-work_room-2.ensures.1
    (answers at.In_ok-drawing (nodes_no_map d.src.now c.args.ids.now _ _ (stored_in d) _ (list at.In_ok-n).answers (fits at.After-without_nodes-sizes c.in_ok-bytes.ensures).makes _ c.in_err-work_room-2.ensures))

pub put_map-requires : goal.put_map-requires
put_map-requires c =
    let d = c.in_ok-drawing.drawing in
    (omega (arith, roomy (goal.at.put_map-requires c).In_ok-drawing), (stored_rows (stored_in d)).low.nodes, map_held (stored_in d) c.in_ok-work_room-2.ensures)

pub put_without_nodes-requires : goal.put_without_nodes-requires
put_without_nodes-requires c =
    let at = goal.at.put_without_nodes-requires c in
    let m = made at.After-put_map in
    let g = graph_in c.in_ok-drawing.drawing in
    record {
      stored = (m.0, fits_room (fits at.After-without_nodes-sizes c.in_ok-bytes.ensures) c.args.out.now refl, omega (arith, roomy at.In_ok-drawing), m.1);
      y_value = c.without_nodes-sizes.ensures ∙ ap (λ (goes : ℕ → Bool). sizes_of (fitting (without_nodes goes g)) (without_nodes goes g)) m.1;
    }

pub returns : goal.returns
returns c =
    let at = goal.at.returns c in
    let a = c.args in
    let d = c.in_ok-drawing.drawing in
    let f = stored_in d in
    let l = list at.In_ok-n in
    let left_is = at.After-without_nodes-sizes in
    let k = fits left_is c.in_ok-bytes.ensures in
    let y = c.without_nodes-sizes.result in
    let new = c.put_without_nodes.ensures
    ∙ ap (λ (h : Graph). drawn a.out.now y (label_row h) (body h)) (nodes_deleted_lem _ (graph_in d) (sym (made at.After-put_map).1 ∙ c.mark.ensures))
    ∙ drawn_whole a.out.now (left left_is) y (sizes left_is) (subst (λ (n : ℕ). n ≤ length a.out.now) k.long k.enough) in
    let table = c.put_map.ensures
    ∙ map_put d.src.now a.ids.now (length a.out.now) (length a.map.now) f _ l.answers c.mark.new.room a.map.now c.mark.ensures (room_enough _ (length a.map.now) c.in_ok-work_room-2.ensures) in
    let nodes = ap (λ (z : Sizes). z.nodes) f.sizes in
    subst (λ (o : Returned Done Refusal). GivesMap (delete_nodes_call a.src.now a.ids.now (length a.out.now) (length a.map.now) (length a.room.now)) o a.out.now c.put_without_nodes.new.out a.map.now c.put_map.new.map)
    (λ i. Ok (record { a = sym k.long i; b = sym nodes i }))
    (gives_map_done _ a.out.now _ a.map.now _ (answers at.In_ok-drawing (nodes_done d.src.now a.ids.now (length a.out.now) (length a.map.now) f _ l.answers k.makes c.in_ok-work_room-2.ensures)) new table)
