-- `spider::spiderize` meets its contract.
-- Assumes nothing.
use mathlib.Core.List.{[]}
use mathlib.Core.Path.{◌≡◌, ◌∙◌}
use Prim.Native.Nat.{◌≤◌}
use native.Mathlib.Omega.{arith}
use lib.ListN.{length}
use Rattle.form.proofs.Answers.{refused_so, work_short, work_enough, room_enough, gives_passed}
use Rattle.form.proofs.Stored.{unread}
use Rattle.form.specs.Drawn.{graph_in}
use Rattle.graph.specs.Calls.{room_spiderize, spiderize_all_step}
use Rattle.graph.specs.Lists.{among, range}
use Rattle.graph.proofs.Spidered.{spiderize_all_11}
use Rattle.links.specs.Links.{cells, is_listed, Linked}
use Rattle.write.proofs.Calls.{gives_by, graph_unread}
use Rattle.quotient.proofs.Calls.{Told, classes_told}
use Rattle.copying.specs.Merged.{table_of}
use Rattle.copying.proofs.Ready.{classes_few, told_kept, ready, step_all}
use Rattle.spider.proofs.Calls.{words_enough, stopped, given, listed_all}
use Rattle.spider.proofs.spiderize.Goals as goal
use Rattle.spider.proofs.spiderize.Goals.{After-list_every, In_ok-nodes, In_ok-drawing}

-- there is work room enough
roomy : (c : In_ok-drawing) → room_spiderize ≤ length c.args.room.now
roomy c = room_enough room_spiderize _ c.in_ok-work_room.ensures

-- the classes that were found
told : (c : In_ok-nodes) → Told c.in_ok-drawing.drawing.src.now c.in_ok-nodes.nodes c.map_classes.new.room
told c = classes_told c.in_ok-nodes.ensures

-- and with the table behind them, which lists all nodes
behind : (c : After-list_every) → Told c.in_ok-drawing.drawing.src.now c.in_ok-nodes.nodes c.list_every.new.room
behind c = told_kept c.in_ok-drawing.drawing (classes_told c.in_ok-nodes.ensures) c.list_every.ensures

listed : (c : After-list_every) → (is_listed c.in_ok-nodes.nodes (cells (table_of c.list_every.new.room)) ≡ among (range 0 c.in_ok-nodes.nodes))
    × Linked c.in_ok-nodes.nodes (cells (table_of c.list_every.new.room)) c.in_ok-nodes.nodes (λ k x. [])
listed c = listed_all c.in_ok-nodes.nodes (cells (table_of c.list_every.new.room)) c.list_every.ensures.heads

pub returns-in_err-work_room : goal.returns-in_err-work_room
returns-in_err-work_room c = gives_passed _ _ c.from_residual.ensures.1 (work_short room_spiderize _ _ _ c.in_err-work_room.ensures)

pub returns-in_err-drawing : goal.returns-in_err-drawing
returns-in_err-drawing c =
    gives_passed _ _ c.from_residual-in_err-drawing.ensures.1 (work_enough room_spiderize _ _ c.in_ok-work_room.ensures ∙ graph_unread _ _ _ (unread _ _ c.in_err-drawing.ensures.sizes))

pub map_classes-requires : goal.map_classes-requires
map_classes-requires c = words_enough c.in_ok-drawing.drawing (roomy (goal.at.map_classes-requires c).In_ok-drawing)

pub returns-in_err-nodes : goal.returns-in_err-nodes
returns-in_err-nodes c =
    gives_passed _ _ c.from_residual-in_err-nodes.ensures.1
    (work_enough room_spiderize _ _ c.in_ok-work_room.ensures
    ∙ stopped c.in_ok-drawing.drawing c.in_ok-drawing.ensures.source (λ f. spiderize_all_step) _ (spiderize_all_11 (graph_in c.in_ok-drawing.drawing) _ (refused_so _ _ _ c.in_err-nodes.ensures.answer)))

pub list_every-requires : goal.list_every-requires
list_every-requires c =
    let at = goal.at.list_every-requires c in
    (omega (arith, roomy at.In_ok-drawing, c.map_classes.auto.room), classes_few c.in_ok-drawing.drawing (told at.In_ok-nodes))

pub write_spiderized-requires : goal.write_spiderized-requires
write_spiderized-requires c =
    let at = goal.at.write_spiderized-requires c in
    ready c.in_ok-drawing.drawing (behind at.After-list_every) (omega (arith, roomy at.In_ok-drawing, c.map_classes.auto.room, c.list_every.auto.room)) (range 0 c.in_ok-nodes.nodes)
    (listed at.After-list_every)

pub returns : goal.returns
returns c =
    let e = (goal.at.returns c).After-list_every in
    gives_by (work_enough room_spiderize _ _ c.in_ok-work_room.ensures)
    (given c.in_ok-drawing.drawing c.in_ok-drawing.ensures.source (λ f. spiderize_all_step)
    (c.write_spiderized.ensures (λ f. spiderize_all_step) (step_all c.in_ok-drawing.drawing (behind e) (listed e).0)))
