-- `quotient::quotient` meets its contract.
-- Assumes nothing.
use mathlib.Core.Logic.{inr}
use mathlib.Core.Path.{◌≡◌, refl, sym, ap, ◌∙◌, subst}
use Prim.Native.Nat.{ℕ, ◌*◌, ◌≤◌}
use native.Mathlib.Nat.{mul-le-mul_left}
use lib.ListN.{length}
use Rattle.std.specs.Prelude.{Ok}
use Rattle.std.specs.Prelude.{Result as Returned}
use Rattle.form.specs.Form.{sizes_of, GivesMap}
use Rattle.form.specs.Drawn.{graph_in}
use Rattle.form.proofs.Drawn.{stored_in, at_source}
use Rattle.form.specs.declared.Done.{Done}
use Rattle.form.specs.declared.Refusal.{Refusal}
use Rattle.form.specs.declared.Sizes.{Sizes}
use Rattle.graph.specs.Answer.{Answer, Result}
use Rattle.graph.specs.Calls.{room_quotient, nodes_merged, quotient_call}
use Rattle.graph.specs.Merge.{merged}
use Rattle.graph.specs.Versions.{fitting}
use Rattle.le.specs.Le.{words}
use Rattle.le.specs.Rows.{Holds, row_at}
use Rattle.le.proofs.Rows.{holds_less}
use Rattle.classes.specs.Forest.{Tabled}
use Rattle.form.proofs.Answers.{refused_so, work_short, work_enough, room_enough, gives_map_passed, gives_map_done}
use Rattle.form.proofs.Stored.{unread, stored_rows, nodes_are}
use Rattle.write.proofs.Calls.{next}
use Rattle.write.proofs.Results.{Fits, result_refused, result_fits, fits_room, drawn_whole}
use Rattle.quotient.specs.Merging.{Mapped}
use Rattle.quotient.proofs.Calls.{Told, nodes_roomy, classes_told, merged_unread, merged_differ, merged_refused, merged_no_map, merged_done, map_put}
use Rattle.quotient.proofs.Parts.{sizes_are}
use native.Mathlib.Omega.{arith}
use Rattle.quotient.proofs.quotient.Goals as goal
use Rattle.quotient.proofs.quotient.Goals.{After-sized-y, In_ok-bytes, In_ok-nodes, In_ok-work_room-2, In_ok-drawing}

-- there is a word of room for each of its nodes
roomy : (c : In_ok-drawing) → 4 * c.in_ok-drawing.drawing.sizes.nodes ≤ length c.args.room.now
roomy c = nodes_roomy (stored_in c.in_ok-drawing.drawing) (room_enough room_quotient _ c.in_ok-work_room.ensures)

-- what the call answers of the bytes that were read, it answers of those that were lent
answers : (c : In_ok-drawing) (x : Answer Result)
    → nodes_merged c.in_ok-drawing.drawing.src.now (length c.args.out.now) (length c.args.map.now) ≡ x
    → quotient_call c.args.src.now (length c.args.out.now) (length c.args.map.now) (length c.args.room.now) ≡ x
answers c x e =
    work_enough room_quotient _ _ c.in_ok-work_room.ensures
    ∙ at_source (λ b. nodes_merged b (length c.args.out.now) (length c.args.map.now) ≡ x) c.in_ok-drawing.ensures.source e

-- the classes that were found, and their map
told : (c : In_ok-nodes) → Told c.in_ok-drawing.drawing.src.now c.in_ok-nodes.nodes c.map_classes.new.room
told c = classes_told c.in_ok-nodes.ensures

mapped : (c : In_ok-nodes) → Mapped c.in_ok-drawing.drawing c.map_classes.new.room
mapped c =
    let d = c.in_ok-drawing.drawing in
    let f = stored_in d in
    let h = nodes_roomy f (room_enough room_quotient _ c.in_ok-work_room.ensures) in
    record {
      held = omega (arith, c.map_classes.auto.room);
      map = subst (λ (n : ℕ). Tabled n (merged (graph_in d)).ids (words c.map_classes.new.room)) (nodes_are (stored_rows f)) (told c).map;
    }

-- the sizes of the merged graph
sizes : (c : After-sized-y) → c.sized-y.result ≡ sizes_of (fitting (merged (graph_in c.in_ok-drawing.drawing)).graph) (merged (graph_in c.in_ok-drawing.drawing)).graph
sizes c = sizes_are (stored_in c.in_ok-drawing.drawing) c.sized-y.ensures (classes_told c.in_ok-nodes.ensures).count

-- it can be written
fits : (c : In_ok-bytes) → Fits (next (merged (graph_in c.in_ok-drawing.drawing)).graph 0) c.sized-y.result (length c.args.out.now) c.in_ok-bytes.bytes
fits c =
    result_fits (next (merged (graph_in c.in_ok-drawing.drawing)).graph 0) c.sized-y.result
    (sizes_are (stored_in c.in_ok-drawing.drawing) c.sized-y.ensures (classes_told c.in_ok-nodes.ensures).count) (length c.args.out.now) _ (sym c.in_ok-bytes.ensures)

-- there is room for the map
map_enough : (c : In_ok-work_room-2) → c.in_ok-drawing.drawing.sizes.nodes * c.in_ok-drawing.drawing.sizes.width ≤ length c.args.map.now
map_enough c = room_enough _ (length c.args.map.now) c.in_ok-work_room-2.ensures

pub returns-in_err-work_room : goal.returns-in_err-work_room
returns-in_err-work_room c = gives_map_passed _ _ _ c.from_residual.ensures.1 (work_short room_quotient _ _ _ c.in_err-work_room.ensures)

pub returns-in_err-drawing : goal.returns-in_err-drawing
returns-in_err-drawing c =
    gives_map_passed _ _ _ c.from_residual-in_err-drawing.ensures.1
    (work_enough room_quotient _ _ c.in_ok-work_room.ensures ∙ merged_unread c.args.src.now _ _ _ (unread _ _ c.in_err-drawing.ensures.sizes))

pub map_classes-requires : goal.map_classes-requires
map_classes-requires c = roomy (goal.at.map_classes-requires c).In_ok-drawing

pub returns-in_err-nodes : goal.returns-in_err-nodes
returns-in_err-nodes c =
    let d = c.in_ok-drawing.drawing in
    gives_map_passed _ _ _ c.from_residual-in_err-nodes.ensures.1
    (answers (goal.at.returns-in_err-nodes c).In_ok-drawing _ (merged_differ d.src.now _ _ (stored_in d) _ (refused_so _ _ _ c.in_err-nodes.ensures.answer)))

pub returns-in_err-bytes : goal.returns-in_err-bytes
returns-in_err-bytes c =
    let at = goal.at.returns-in_err-bytes c in
    let d = c.in_ok-drawing.drawing in
    gives_map_passed _ _ _ c.from_residual-in_err-bytes.ensures.1
    (answers at.In_ok-drawing _
    (merged_refused d.src.now _ _ (stored_in d) (told at.In_ok-nodes).answers _
    (result_refused (next (merged (graph_in d)).graph 0) c.sized-y.result (sizes at.After-sized-y) (length c.args.out.now) _ (sym c.in_err-bytes.ensures))))

pub overflow_mul-z : goal.overflow_mul-z
overflow_mul-z c = omega (arith, c.in_ok-drawing.drawing.few, mul-le-mul_left c.in_ok-drawing.drawing.sizes.nodes c.in_ok-drawing.drawing.few.0)

pub returns-in_err-work_room-2 : goal.returns-in_err-work_room-2
returns-in_err-work_room-2 c =
    let at = goal.at.returns-in_err-work_room-2 c in
    let d = c.in_ok-drawing.drawing in
    gives_map_passed _ _ _ c.from_residual-in_err-work_room-2.ensures.1
    (answers at.In_ok-drawing _
    (merged_no_map d.src.now _ _ (stored_in d) (told at.In_ok-nodes).answers (mapped at.In_ok-nodes).map.long (fits at.In_ok-bytes).makes _
    c.in_err-work_room-2.ensures))

pub copy_numbers-requires : goal.copy_numbers-requires
copy_numbers-requires c =
    let at = goal.at.copy_numbers-requires c in
    let z = c.in_ok-drawing.drawing.sizes in
    let held : Holds c.args.map.now (row_at 0 z.width) z.nodes = record { wide = (stored_rows (stored_in c.in_ok-drawing.drawing)).low.width; inside = omega (arith, map_enough at.In_ok-work_room-2) } in
    (holds_less held _ (omega arith), record { wide = inr refl; inside = omega (arith, (mapped at.In_ok-nodes).held) })

pub put_merged-requires : goal.put_merged-requires
put_merged-requires c =
    let at = goal.at.put_merged-requires c in
    record { mapped = (mapped at.In_ok-nodes, fits_room (fits at.In_ok-bytes) c.args.out.now refl); y_value = sizes at.After-sized-y }

pub returns : goal.returns
returns c =
    let at = goal.at.returns c in
    let a = c.args in
    let d = c.in_ok-drawing.drawing in
    let b = d.src.now in
    let f = stored_in d in
    let t = (told at.In_ok-nodes).answers in
    let m = mapped at.In_ok-nodes in
    let k = fits at.In_ok-bytes in
    let new = c.put_merged.ensures ∙ drawn_whole a.out.now (merged (graph_in d)).graph c.sized-y.result (sizes at.After-sized-y) (subst (λ (n : ℕ). n ≤ length a.out.now) k.long k.enough) in
    let table = c.copy_numbers.ensures ∙ map_put b (length a.out.now) (length a.map.now) f t m.map.long _ a.map.now m.held m.map (map_enough at.In_ok-work_room-2) in
    let nodes = ap (λ (z : Sizes). z.nodes) f.sizes in
    subst (λ (o : Returned Done Refusal). GivesMap (quotient_call a.src.now (length a.out.now) (length a.map.now) (length a.room.now)) o a.out.now c.put_merged.new.out a.map.now c.copy_numbers.new.d)
    (λ i. Ok (record { a = sym k.long i; b = sym nodes i }))
    (gives_map_done _ a.out.now _ a.map.now _
    (answers at.In_ok-drawing _ (merged_done b (length a.out.now) (length a.map.now) f t m.map.long k.makes c.in_ok-work_room-2.ensures)) new table)
