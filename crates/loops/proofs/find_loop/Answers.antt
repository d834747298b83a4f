-- `loops::find_loop` meets its contract.
-- Assumes nothing.
use mathlib.Core.List.{[]}
use mathlib.Core.Path.{◌≡◌, refl, sym, ap, ◌∙◌, subst}
use Prim.Native.Nat.{ℕ, ◌+◌, ◌-◌, ◌≤◌}
use native.Mathlib.Omega.{arith}
use lib.ListN.{length}
use Rattle.choice.specs.Calls.{showing, room_find_loop, loop_found, find_loop_call}
use Rattle.choice.specs.Loop.{loop}
use Rattle.form.specs.Form.{Gives}
use Rattle.form.specs.Stored.{format_of}
use Rattle.form.specs.declared.Sizes.{Sizes}
use Rattle.graph.specs.Answer.{Answer, Result}
use Rattle.graph.specs.Graph.{Graph}
use Rattle.graph.specs.Versions as versions
use Rattle.form.proofs.Answers.{room_enough, gives_passed}
use Rattle.form.proofs.Pairless.{room_short, graph_unread, graph_paired, graph_pairless}
use Rattle.form.proofs.Stored.{stored_bytes}
use Rattle.le.specs.Le.{words}
use Rattle.tables.specs.Tables.{picked_at}
use Rattle.le.specs.Rows.{row_at}
use Rattle.le.proofs.Places.{length_words}
use Rattle.le.proofs.Rows.{puts_none}
use Rattle.cycle.specs.Begin.{First}
use Rattle.cycle.proofs.Begin.{drawn}
use Rattle.loops.proofs.Calls.{showing_0}
use Rattle.loops.proofs.Show.{some_stay, none_left}
use Rattle.std.specs.Prelude.{Ok}
use Rattle.form.proofs.Drawn.{stored_in, at_source}
use Rattle.incidence.specs.Incidence.{source_in}
use Rattle.form.specs.Drawn.{graph_in}
use Rattle.loops.proofs.find_loop.Goals as goal

-- what follows 8
abbrev next : ℕ → versions.StoredGraph → Graph → Answer Result
next room s g = showing s.format room (loop g)

pub returns-in_err-work_room : goal.returns-in_err-work_room
unfolding loop_found
returns-in_err-work_room c =
    let a = c.args in
    gives_passed _ _ c.from_residual.ensures.1 (room_short a.src.now room_find_loop _ (next (length a.list.now)) _ c.in_err-work_room.ensures)

pub returns-in_err-drawing : goal.returns-in_err-drawing
unfolding loop_found
returns-in_err-drawing c =
    let a = c.args in
    gives_passed _ _ c.from_residual-in_err-drawing.ensures.1 (graph_unread a.src.now room_find_loop _ (next (length a.list.now)) c.in_ok-work_room.ensures _ c.in_err-drawing.ensures.sizes)

pub returns-in_err-unpaired : goal.returns-in_err-unpaired
unfolding loop_found
returns-in_err-unpaired c =
    let a = c.args in
    let s = stored_bytes c.in_ok-drawing.ensures.sizes c.type_inv.src in
    gives_passed _ _ c.from_residual-in_err-unpaired.ensures.1
    (graph_paired a.src.now room_find_loop _ (next (length a.list.now)) c.in_ok-work_room.ensures s _ c.in_err-unpaired.ensures)

pub first_removal-end-requires : goal.first_removal-end-requires
first_removal-end-requires c = record { room_removal_in_bounds = room_enough room_find_loop _ c.in_ok-work_room.ensures }

-- nothing is left: no loop
pub returns-then-end-n : goal.returns-then-end-n
unfolding loop_found
returns-then-end-n c =
    let a = c.args in
    let d = c.in_ok-drawing.drawing in
    let b = d.src.now in
    let s = stored_in d in
    let o = c.first_removal-end in
    let long : picked_at ≤ length (words o.new.room) = omega (arith, length_words o.new.room, o.auto.room, room_enough room_find_loop _ c.in_ok-work_room.ensures) in
    let is = graph_pairless b room_find_loop _ (next (length a.list.now)) c.in_ok-work_room.ensures s c.in_ok-unpaired.ensures in
    let none = none_left (drawn d) long o.ensures c.if-end-n.true in
    at_source (λ b. Gives (find_loop_call b (length a.list.now) (length a.room.now)) (Ok (record { a = 0; b = 0 })) a.list.now a.list.now) c.in_ok-drawing.ensures.source
    (subst (λ (x : Answer Result). Gives x (Ok (record { a = 0; b = 0 })) a.list.now a.list.now) (sym (is ∙ ap (showing (format_of b) (length a.list.now)) none))
    (showing_0 (format_of b) (format_of b).width refl [] 0 0 refl a.list.now a.list.now (omega arith) (sym (puts_none a.list.now (row_at 0 (format_of b).width) 0))))

pub show_loop-requires : goal.show_loop-requires
show_loop-requires c =
    let d = c.in_ok-drawing.drawing in
    let z = d.sizes in
    let o = c.first_removal-end in
    let n = z.nodes + z.edges in
    let e : o.result ≡ n - (n - o.result) = omega (arith, o.ensures.few) in
    record {
      room_removal_in_bounds =
          (omega (arith, room_enough room_find_loop _ c.in_ok-work_room.ensures, o.auto.room), some_stay o.result n o.ensures.few c.if-end-n.false, omega arith);
      first = subst (First (source_in d) (graph_in d) (words o.new.room) z.nodes n) e o.ensures;
    }

pub returns : goal.returns
unfolding loop_found
returns c =
    let a = c.args in
    let d = c.in_ok-drawing.drawing in
    let b = d.src.now in
    let s = stored_in d in
    let o = c.show_loop in
    let is = graph_pairless b room_find_loop _ (next (length a.list.now)) c.in_ok-work_room.ensures s c.in_ok-unpaired.ensures in
    at_source (λ b. Gives (find_loop_call b (length a.list.now) (length a.room.now)) o.result a.list.now o.new.list) c.in_ok-drawing.ensures.source
    (subst (λ (x : Answer Result). Gives x o.result a.list.now o.new.list) (sym is) (o.ensures (format_of b) (ap (λ (y : Sizes). y.width) (sym s.sizes))))
