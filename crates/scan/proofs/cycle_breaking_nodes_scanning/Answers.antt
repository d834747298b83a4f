-- `scan::cycle_breaking_nodes_scanning` meets its contract.
-- Assumes nothing.
use mathlib.Core.List.{List}
use mathlib.Core.Path.{sym, ap, ◌∙◌, subst}
use Prim.Native.Nat.{ℕ}
use native.Mathlib.Omega.{arith}
use lib.ListN.{length}
use Rattle.choice.specs.Calls.{cycle_breaking_nodes_scanning_call, listing, room_cycle_breaking_nodes_scanning, cycle_broken_keeping}
use Rattle.choice.specs.Keeping.{chosen_keeping}
use Rattle.form.specs.Form.{Gives}
use Rattle.form.specs.Stored.{graph_of, format_of}
use Rattle.form.specs.declared.Sizes.{Sizes}
use Rattle.graph.specs.Answer.{Answer, Result, ◌>>=◌}
use Rattle.graph.specs.Graph.{Graph}
use Rattle.graph.specs.Versions as versions
use Rattle.form.proofs.Answers.{room_enough, gives_passed}
use Rattle.form.proofs.Listed.{ids_given_lem, ids_below}
use Rattle.form.proofs.Spared.{room_short, graph_unread, list_bad, graph_paired, graph_spared}
use Rattle.form.proofs.Drawn.{stored_in, at_source}
use Rattle.form.proofs.Stored.{stored_rows}
use Rattle.sweeps.proofs.Form.{is_nodes, is_edges, is_all, drawn}
use Rattle.scan.proofs.Answering.{keeping_refused, keeping_counted, keeping_listed_lem}
use Rattle.scan.proofs.cycle_breaking_nodes_scanning.Goals as goal

-- what follows 8
abbrev next : ℕ → versions.StoredGraph → List ℕ → Graph → Answer Result
next room s kept g = chosen_keeping kept g >>= listing s.format room

pub returns-in_err-work_room : goal.returns-in_err-work_room
unfolding cycle_broken_keeping
returns-in_err-work_room c =
    let a = c.args in
    gives_passed _ _ c.from_residual.ensures.1 (room_short a.src.now a.kept.now room_cycle_breaking_nodes_scanning _ (next (length a.list.now)) _ c.in_err-work_room.ensures)

pub returns-in_err-drawing : goal.returns-in_err-drawing
unfolding cycle_broken_keeping
returns-in_err-drawing c =
    let a = c.args in
    gives_passed _ _ c.from_residual-in_err-drawing.ensures.1
    (graph_unread a.src.now a.kept.now room_cycle_breaking_nodes_scanning _ (next (length a.list.now)) c.in_ok-work_room.ensures _ c.in_err-drawing.ensures.sizes)

pub id_list-requires : goal.id_list-requires
id_list-requires c = (stored_rows (stored_in c.in_ok-drawing.drawing)).low.width

pub returns-in_err-count : goal.returns-in_err-count
unfolding cycle_broken_keeping
returns-in_err-count c =
    let a = c.args in
    let b = c.in_ok-drawing.drawing.src.now in
    let s = stored_in c.in_ok-drawing.drawing in
    at_source (λ b. Gives (cycle_breaking_nodes_scanning_call b a.kept.now (length a.list.now) (length a.room.now)) c.from_residual-in_err-count.result a.list.now a.list.now) c.in_ok-drawing.ensures.source
    (gives_passed _ _ c.from_residual-in_err-count.ensures.1
    (list_bad b a.kept.now room_cycle_breaking_nodes_scanning _ (next (length a.list.now)) c.in_ok-work_room.ensures s _ c.in_err-count.ensures))

pub returns-in_err-unpaired : goal.returns-in_err-unpaired
unfolding cycle_broken_keeping
returns-in_err-unpaired c =
    let a = c.args in
    let b = c.in_ok-drawing.drawing.src.now in
    let s = stored_in c.in_ok-drawing.drawing in
    at_source (λ b. Gives (cycle_breaking_nodes_scanning_call b a.kept.now (length a.list.now) (length a.room.now)) c.from_residual-in_err-unpaired.result a.list.now a.list.now) c.in_ok-drawing.ensures.source
    (gives_passed _ _ c.from_residual-in_err-unpaired.ensures.1
    (graph_paired b a.kept.now room_cycle_breaking_nodes_scanning _ (next (length a.list.now)) c.in_ok-work_room.ensures s _ c.in_ok-count.ensures _ c.in_err-unpaired.ensures))

pub mark_nodes-requires : goal.mark_nodes-requires
mark_nodes-requires c =
    let s = stored_in c.in_ok-drawing.drawing in
    let n = c.in_ok-count in
    record {
      room_cycle_breaking_nodes_scanning_in_bounds = room_enough room_cycle_breaking_nodes_scanning _ c.in_ok-work_room.ensures;
      stored = ((ids_given_lem s _ _ _ n.ensures).there, ids_below s _ _ _ n.ensures);
    }

pub returns-in_err-free : goal.returns-in_err-free
unfolding cycle_broken_keeping
returns-in_err-free c =
    let a = c.args in
    let b = c.in_ok-drawing.drawing.src.now in
    let s = stored_in c.in_ok-drawing.drawing in
    at_source (λ b. Gives (cycle_breaking_nodes_scanning_call b a.kept.now (length a.list.now) (length a.room.now)) c.from_residual-in_err-free.result a.list.now a.list.now) c.in_ok-drawing.ensures.source
    (gives_passed _ _ c.from_residual-in_err-free.ensures.1
    (graph_spared b a.kept.now room_cycle_breaking_nodes_scanning _ (next (length a.list.now)) c.in_ok-work_room.ensures s _ c.in_ok-count.ensures c.in_ok-unpaired.ensures
    ∙ keeping_refused _ (graph_of b) (drawn s) _ _ (is_nodes s) (is_all s) _ _ c.in_err-free.ensures (format_of b) (length a.list.now)))

pub put_answer-requires : goal.put_answer-requires
put_answer-requires c =
    let s = stored_in c.in_ok-drawing.drawing in
    let d = drawn s in
    let room = room_enough room_cycle_breaking_nodes_scanning _ c.in_ok-work_room.ensures in
    record {
      most_nodes_in_bounds = (omega (arith, room, c.mark_nodes.auto.room), (stored_rows s).low.width, omega (arith, is_nodes s, d.few_nodes), omega (arith, is_nodes s, is_edges s, d.few));
      free_len = keeping_counted _ (graph_of c.in_ok-drawing.drawing.src.now) d _ _ (is_nodes s) (is_all s) _ _ c.in_ok-free.ensures;
    }

pub returns : goal.returns
unfolding cycle_broken_keeping
returns c =
    let a = c.args in
    let b = c.in_ok-drawing.drawing.src.now in
    let s = stored_in c.in_ok-drawing.drawing in
    let is =
    graph_spared b a.kept.now room_cycle_breaking_nodes_scanning _ (next (length a.list.now)) c.in_ok-work_room.ensures s _ c.in_ok-count.ensures c.in_ok-unpaired.ensures
    ∙ keeping_listed_lem _ (graph_of b) (drawn s) _ _ (is_nodes s) (is_all s) _ _ c.in_ok-free.ensures (format_of b) (length a.list.now) in
    at_source (λ b. Gives (cycle_breaking_nodes_scanning_call b a.kept.now (length a.list.now) (length a.room.now)) c.put_answer.result a.list.now c.put_answer.new.list) c.in_ok-drawing.ensures.source
    (subst (λ (x : Answer Result). Gives x c.put_answer.result a.list.now c.put_answer.new.list) (sym is) (c.put_answer.ensures (format_of b) (ap (λ (y : Sizes). y.width) (sym s.sizes))))
