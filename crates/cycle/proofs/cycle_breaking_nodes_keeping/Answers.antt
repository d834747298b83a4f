-- `cycle::cycle_breaking_nodes_keeping` meets its contract.
-- Assumes nothing.
use mathlib.Core.List.{List}
use mathlib.Core.Path.{sym, subst}
use Prim.Native.Nat.{ℕ}
use lib.ListN.{length}
use Rattle.choice.specs.Calls.{listing, room_cycle_breaking_nodes, cycle_broken_keeping, cycle_breaking_nodes_keeping_call}
use Rattle.choice.specs.Keeping.{chosen_keeping}
use Rattle.form.specs.Form.{Gives}
use Rattle.graph.specs.Answer.{Answer, Result, ◌>>=◌}
use Rattle.graph.specs.Graph.{Graph}
use Rattle.graph.specs.Versions as versions
use Rattle.form.proofs.Answers.{room_enough, gives_passed}
use Rattle.form.proofs.Listed.{ids_given_lem, ids_below}
use Rattle.form.proofs.Spared.{room_short, graph_unread, list_bad, graph_paired, graph_spared}
use Rattle.form.proofs.Stored.{stored_bytes, stored_rows}
use Rattle.form.proofs.Drawn.{stored_in, at_source}
use Rattle.cycle.proofs.cycle_breaking_nodes_keeping.Goals as goal

-- what follows 8
abbrev next : ℕ → versions.StoredGraph → List ℕ → Graph → Answer Result
next room s kept g = chosen_keeping kept g >>= listing s.format room

pub returns-in_err-work_room : goal.returns-in_err-work_room
unfolding cycle_broken_keeping
returns-in_err-work_room c =
    let a = c.args in
    gives_passed _ _ c.from_residual.ensures.1 (room_short a.src.now a.kept.now room_cycle_breaking_nodes _ (next (length a.list.now)) _ c.in_err-work_room.ensures)

pub returns-in_err-drawing : goal.returns-in_err-drawing
unfolding cycle_broken_keeping
returns-in_err-drawing c =
    let a = c.args in
    gives_passed _ _ c.from_residual-in_err-drawing.ensures.1
    (graph_unread a.src.now a.kept.now room_cycle_breaking_nodes _ (next (length a.list.now)) c.in_ok-work_room.ensures _ c.in_err-drawing.ensures.sizes)

pub id_list-requires : goal.id_list-requires
id_list-requires c = (stored_rows (stored_in c.in_ok-drawing.drawing)).low.width

pub returns-in_err-count : goal.returns-in_err-count
unfolding cycle_broken_keeping
returns-in_err-count c =
    let a = c.args in
    let s = stored_bytes c.in_ok-drawing.ensures.sizes c.type_inv.src in
    gives_passed _ _ c.from_residual-in_err-count.ensures.1
    (list_bad a.src.now a.kept.now room_cycle_breaking_nodes _ (next (length a.list.now)) c.in_ok-work_room.ensures s _ c.in_err-count.ensures)

pub returns-in_err-unpaired : goal.returns-in_err-unpaired
unfolding cycle_broken_keeping
returns-in_err-unpaired c =
    let a = c.args in
    let s = stored_bytes c.in_ok-drawing.ensures.sizes c.type_inv.src in
    gives_passed _ _ c.from_residual-in_err-unpaired.ensures.1
    (graph_paired a.src.now a.kept.now room_cycle_breaking_nodes _ (next (length a.list.now)) c.in_ok-work_room.ensures s _ c.in_ok-count.ensures _ c.in_err-unpaired.ensures)

pub choose-requires : goal.choose-requires
choose-requires c =
    let s = stored_in c.in_ok-drawing.drawing in
    let n = c.in_ok-count in
    record {
      room_choice_in_bounds = room_enough room_cycle_breaking_nodes _ c.in_ok-work_room.ensures;
      kept_ids = ((ids_given_lem s _ _ _ n.ensures).there, ids_below s _ _ _ n.ensures);
    }

pub returns : goal.returns
unfolding cycle_broken_keeping
returns c =
    let a = c.args in
    let d = c.in_ok-drawing.drawing in
    let s = stored_in d in
    let is = graph_spared d.src.now a.kept.now room_cycle_breaking_nodes _ (next (length a.list.now)) c.in_ok-work_room.ensures s _ c.in_ok-count.ensures c.in_ok-unpaired.ensures in
    at_source (λ b. Gives (cycle_breaking_nodes_keeping_call b a.kept.now (length a.list.now) (length a.room.now)) c.choose.result a.list.now c.choose.new.list) c.in_ok-drawing.ensures.source
    (subst (λ (x : Answer Result). Gives x c.choose.result a.list.now c.choose.new.list) (sym is) c.choose.ensures)
