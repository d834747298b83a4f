-- `cycle::cycle_breaking_nodes` meets its contract.
-- Assumes nothing.
use mathlib.Core.Path.{sym, ◌∙◌, subst}
use Prim.Native.Nat.{ℕ}
use native.Mathlib.Omega.{arith}
use lib.ListN.{length}
use Rattle.choice.specs.Calls.{listing, room_cycle_breaking_nodes, cycle_broken, cycle_breaking_nodes_call}
use Rattle.choice.specs.Drawing.{chosen}
use Rattle.form.specs.Form.{Gives}
use Rattle.form.specs.Stored.{format_of}
use Rattle.graph.specs.Answer.{Answer, Result}
use Rattle.graph.specs.Graph.{Graph}
use Rattle.graph.specs.Versions as versions
use Rattle.le.specs.Rows.{span}
use Rattle.form.proofs.Answers.{room_enough, gives_passed}
use Rattle.form.proofs.Pairless.{room_short, graph_unread, graph_paired, graph_pairless}
use Rattle.form.proofs.Stored.{stored_bytes, stored_rows}
use Rattle.cycle.proofs.Begin.{drawn}
use Rattle.cycle.proofs.Calls.{keeping_nothing}
use Rattle.form.proofs.Drawn.{stored_in, at_source}
use Rattle.cycle.proofs.cycle_breaking_nodes.Goals as goal

-- what follows 8
abbrev next : ℕ → versions.StoredGraph → Graph → Answer Result
next room s g = listing s.format room (chosen g)

pub returns-in_err-work_room : goal.returns-in_err-work_room
unfolding cycle_broken
returns-in_err-work_room c =
    let a = c.args in
    gives_passed _ _ c.from_residual.ensures.1 (room_short a.src.now room_cycle_breaking_nodes _ (next (length a.list.now)) _ c.in_err-work_room.ensures)

pub returns-in_err-drawing : goal.returns-in_err-drawing
unfolding cycle_broken
returns-in_err-drawing c =
    let a = c.args in
    gives_passed _ _ c.from_residual-in_err-drawing.ensures.1
    (graph_unread a.src.now room_cycle_breaking_nodes _ (next (length a.list.now)) c.in_ok-work_room.ensures _ c.in_err-drawing.ensures.sizes)

pub returns-in_err-unpaired : goal.returns-in_err-unpaired
unfolding cycle_broken
returns-in_err-unpaired c =
    let a = c.args in
    let s = stored_bytes c.in_ok-drawing.ensures.sizes c.type_inv.src in
    gives_passed _ _ c.from_residual-in_err-unpaired.ensures.1
    (graph_paired a.src.now room_cycle_breaking_nodes _ (next (length a.list.now)) c.in_ok-work_room.ensures s _ c.in_err-unpaired.ensures)

pub choose-requires : goal.choose-requires
unfolding span
choose-requires c = record {
  room_choice_in_bounds = room_enough room_cycle_breaking_nodes _ c.in_ok-work_room.ensures;
  kept_ids = (record { wide = (stored_rows (stored_in c.in_ok-drawing.drawing)).low.width; inside = omega arith }, tt);
}

pub returns : goal.returns
unfolding cycle_broken
returns c =
    let a = c.args in
    let d = c.in_ok-drawing.drawing in
    let b = d.src.now in
    let s = stored_in d in
    let is = graph_pairless b room_cycle_breaking_nodes _ (next (length a.list.now)) c.in_ok-work_room.ensures s c.in_ok-unpaired.ensures in
    at_source (λ b. Gives (cycle_breaking_nodes_call b (length a.list.now) (length a.room.now)) c.choose.result a.list.now c.choose.new.list) c.in_ok-drawing.ensures.source
    (subst (λ (x : Answer Result). Gives x c.choose.result a.list.now c.choose.new.list) (keeping_nothing (drawn d) _ _ (format_of b) (length a.list.now) ∙ sym is) c.choose.ensures)
