-- `reasons::reasons` meets its contract.
-- Assumes nothing.
use mathlib.Core.Path.{sym, subst}
use Prim.Native.Nat.{ℕ}
use native.Mathlib.Omega.{arith}
use lib.ListN.{length}
use Rattle.choice.specs.Calls.{room_reasons, reasoned, reasons_call}
use Rattle.form.specs.Form.{Gives}
use Rattle.form.specs.declared.Refusal.TheVariants as why
use Rattle.graph.specs.Answer.{Answer, Result}
use Rattle.graph.specs.Graph.{Graph}
use Rattle.graph.specs.Versions as versions
use Rattle.form.proofs.Answers.{room_enough, gives_passed}
use Rattle.form.proofs.Pairless.{room_short, graph_unread, graph_paired, graph_pairless}
use Rattle.form.proofs.Stored.{stored_bytes}
use Rattle.cycle.proofs.Begin.{drawn}
use Rattle.std.specs.Prelude.{Ok, Err}
use Rattle.form.proofs.Drawn.{stored_in, at_source}
use Rattle.reasons.proofs.Ending.{answer_of, answer_10, answer_0}
use Rattle.form.specs.Drawn.{graph_in}
use Rattle.reasons.proofs.reasons.Goals as goal

-- what follows 8
abbrev next : ℕ → versions.StoredGraph → Graph → Answer Result
next room s g = answer_of g room

pub returns-in_err-work_room : goal.returns-in_err-work_room
unfolding reasoned
returns-in_err-work_room c =
    let a = c.args in
    gives_passed _ _ c.from_residual.ensures.1 (room_short a.src.now room_reasons _ (next (length a.out.now)) _ c.in_err-work_room.ensures)

pub returns-in_err-drawing : goal.returns-in_err-drawing
unfolding reasoned
returns-in_err-drawing c =
    let a = c.args in
    gives_passed _ _ c.from_residual-in_err-drawing.ensures.1 (graph_unread a.src.now room_reasons _ (next (length a.out.now)) c.in_ok-work_room.ensures _ c.in_err-drawing.ensures.sizes)

pub returns-in_err-unpaired : goal.returns-in_err-unpaired
unfolding reasoned
returns-in_err-unpaired c =
    let a = c.args in
    let s = stored_bytes c.in_ok-drawing.ensures.sizes c.type_inv.src in
    gives_passed _ _ c.from_residual-in_err-unpaired.ensures.1
    (graph_paired a.src.now room_reasons _ (next (length a.out.now)) c.in_ok-work_room.ensures s _ c.in_err-unpaired.ensures)

pub returns-then-out-z : goal.returns-then-out-z
unfolding reasoned
returns-then-out-z c =
    let a = c.args in
    let d = c.in_ok-drawing.drawing in
    let is = graph_pairless d.src.now room_reasons _ (next (length a.out.now)) c.in_ok-work_room.ensures (stored_in d) c.in_ok-unpaired.ensures in
    at_source (λ b. Gives (reasons_call b (length a.out.now) (length a.room.now)) (Err why.NoRoom) a.out.now a.out.now) c.in_ok-drawing.ensures.source
    (subst (λ (x : Answer Result). Gives x (Err why.NoRoom) a.out.now a.out.now) (sym is) (answer_10 (graph_in d) _ (drawn d).nodes_is a.out.now (omega arith)))

pub put_reasons-ids-requires : goal.put_reasons-ids-requires
put_reasons-ids-requires c = (omega arith, room_enough room_reasons _ c.in_ok-work_room.ensures)

pub returns : goal.returns
unfolding reasoned
returns c =
    let a = c.args in
    let d = c.in_ok-drawing.drawing in
    let p = c.put_reasons-ids in
    let is = graph_pairless d.src.now room_reasons _ (next (length a.out.now)) c.in_ok-work_room.ensures (stored_in d) c.in_ok-unpaired.ensures in
    at_source (λ b. Gives (reasons_call b (length a.out.now) (length a.room.now)) (Ok (record { a = d.sizes.nodes; b = p.result })) a.out.now p.new.out) c.in_ok-drawing.ensures.source
    (subst (λ (x : Answer Result). Gives x (Ok (record { a = d.sizes.nodes; b = p.result })) a.out.now p.new.out) (sym is) (answer_0 (graph_in d) _ (drawn d).nodes_is a.out.now p.new.out p.result (omega arith) p.ensures))
