-- `spider::spiderize_nodes` meets its contract.
-- Assumes nothing.
use mathlib.Core.List.{List, []}
use mathlib.Core.Path.{◌≡◌, sym, ap, ◌∙◌}
use Prim.Native.Nat.{ℕ, ◌≤◌}
use native.Mathlib.Omega.{arith}
use lib.ListN.{length}
use Rattle.form.specs.Drawn.{graph_in}
use Rattle.form.specs.Stored.{format_of}
use Rattle.form.specs.declared.Drawing.{Drawing}
use Rattle.form.specs.declared.Sizes.{Sizes}
use Rattle.form.proofs.Drawn.{stored_in}
use Rattle.form.proofs.Answers.{refused_so, work_short, work_enough, room_enough, gives_passed}
use Rattle.form.proofs.Listed.{Given, ids_given_lem, ids_refused, ids_below}
use Rattle.form.proofs.Stored.{unread, stored_rows}
use Rattle.graph.specs.Answer.{answered}
use Rattle.graph.specs.Calls.{id_list, room_spiderize, spiderize_step}
use Rattle.graph.specs.Lists.{among}
use Rattle.graph.specs.Merge.{looked}
use Rattle.graph.proofs.Spidered.{spiderize_7, spiderize_11}
use Rattle.le.specs.Le.{Below, words}
use Rattle.le.specs.Rows.{row_at, span}
use Rattle.le.proofs.Numbers.{below_widen}
use Rattle.links.specs.Links.{cells, is_listed, Linked}
use Rattle.write.proofs.Calls.{gives_by, graph_unread}
use Rattle.quotient.proofs.Calls.{Told, classes_told}
use Rattle.copying.specs.Merged.{table_of}
use Rattle.copying.proofs.Ready.{classes_few, classes_known, classes_looked, told_kept, ready, step_listed}
use Rattle.spider.proofs.Calls.{words_enough, stopped, given, listed_ids}
use Rattle.spider.proofs.spiderize_nodes.Goals as goal
use Rattle.spider.proofs.spiderize_nodes.Goals.{After-list_classes, After-list_nothing, In_ok-n, In_ok-nodes, In_ok-drawing}

-- there is work room enough
roomy : (c : In_ok-drawing) → room_spiderize ≤ length c.args.room.now
roomy c = room_enough room_spiderize _ c.in_ok-work_room.ensures

-- the list that was checked
abbrev chosen : In_ok-n → List ℕ
chosen c = span c.args.ids.now (row_at 0 c.in_ok-drawing.drawing.sizes.width) 0 c.in_ok-n.n

list : (c : In_ok-n) → Given (id_list (format_of c.in_ok-drawing.drawing.src.now) c.in_ok-drawing.drawing.sizes.nodes c.args.ids.now) c.args.ids.now c.in_ok-drawing.drawing.sizes.width c.in_ok-n.n
list c = ids_given_lem (stored_in c.in_ok-drawing.drawing) _ _ _ c.in_ok-n.ensures

nodes : (d : Drawing) → d.sizes.nodes ≡ length (graph_in d).labels
nodes d = ap (λ (y : Sizes). y.nodes) (stored_in d).sizes

is_list : (c : In_ok-n) → id_list (format_of c.in_ok-drawing.drawing.src.now) (length (graph_in c.in_ok-drawing.drawing).labels) c.args.ids.now ≡ answered (chosen c)
is_list c =
    let d = c.in_ok-drawing.drawing in
    ap (λ (n : ℕ). id_list (format_of d.src.now) n c.args.ids.now) (sym (nodes d)) ∙ (list c).answers

known : (c : In_ok-n) → Below c.in_ok-drawing.drawing.sizes.nodes (chosen c)
known c = ids_below (stored_in c.in_ok-drawing.drawing) _ _ _ c.in_ok-n.ensures

-- the classes that were found
told : (c : In_ok-nodes) → Told c.in_ok-drawing.drawing.src.now c.in_ok-nodes.nodes c.map_classes.new.room
told c = classes_told c.in_ok-nodes.ensures

-- with a table behind them that lists nothing
cleared : (c : After-list_nothing) → Told c.in_ok-drawing.drawing.src.now c.in_ok-nodes.nodes c.list_nothing.new.room
cleared c = told_kept c.in_ok-drawing.drawing (classes_told c.in_ok-nodes.ensures) c.list_nothing.ensures

within : (c : After-list_nothing) → Below c.in_ok-nodes.nodes (looked (words c.list_nothing.new.room) (span c.args.ids.now (row_at 0 c.in_ok-drawing.drawing.sizes.width) 0 c.in_ok-n.n))
within c =
    let d = c.in_ok-drawing.drawing in
    classes_known d (cleared c) _ (ids_below (stored_in d) _ _ _ c.in_ok-n.ensures)

-- and with one that lists the classes of the list
behind : (c : After-list_classes) → Told c.in_ok-drawing.drawing.src.now c.in_ok-nodes.nodes c.list_nothing.new.room → Told c.in_ok-drawing.drawing.src.now c.in_ok-nodes.nodes c.list_classes.new.room
behind c t = told_kept c.in_ok-drawing.drawing t (c.list_classes.ensures c.list_nothing.ensures.heads)

listed : (c : After-list_classes) → Below c.in_ok-nodes.nodes (looked (words c.list_nothing.new.room) (span c.args.ids.now (row_at 0 c.in_ok-drawing.drawing.sizes.width) 0 c.in_ok-n.n))
    → (is_listed c.in_ok-nodes.nodes (cells (table_of c.list_classes.new.room)) ≡ among (looked (words c.list_nothing.new.room) (span c.args.ids.now (row_at 0 c.in_ok-drawing.drawing.sizes.width) 0 c.in_ok-n.n)))
    × Linked c.in_ok-nodes.nodes (cells (table_of c.list_classes.new.room)) c.in_ok-nodes.nodes (λ k x. [])
listed c below = listed_ids c.in_ok-nodes.nodes (cells (table_of c.list_classes.new.room)) _ below (c.list_classes.ensures c.list_nothing.ensures.heads).heads

pub returns-in_err-work_room : goal.returns-in_err-work_room
returns-in_err-work_room c = gives_passed _ _ c.from_residual.ensures.1 (work_short room_spiderize _ _ _ c.in_err-work_room.ensures)

pub returns-in_err-drawing : goal.returns-in_err-drawing
returns-in_err-drawing c =
    gives_passed _ _ c.from_residual-in_err-drawing.ensures.1 (work_enough room_spiderize _ _ c.in_ok-work_room.ensures ∙ graph_unread _ _ _ (unread _ _ c.in_err-drawing.ensures.sizes))

pub id_list-requires : goal.id_list-requires
id_list-requires c = (stored_rows (stored_in c.in_ok-drawing.drawing)).low.width

pub returns-in_err-n : goal.returns-in_err-n
returns-in_err-n c =
    let d = c.in_ok-drawing.drawing in
    let f = format_of d.src.now in
    gives_passed _ _ c.from_residual-in_err-n.ensures.1
    (work_enough room_spiderize _ _ c.in_ok-work_room.ensures
    ∙ stopped c.in_ok-drawing.drawing c.in_ok-drawing.ensures.source (λ f. spiderize_step f c.args.ids.now) _
    (spiderize_7 f c.args.ids.now (graph_in d) _ (ap (λ (n : ℕ). id_list f n c.args.ids.now) (sym (nodes d)) ∙ ids_refused (stored_in d) _ _ _ c.in_err-n.ensures)))

pub map_classes-requires : goal.map_classes-requires
map_classes-requires c = words_enough c.in_ok-drawing.drawing (roomy (goal.at.map_classes-requires c).In_ok-drawing)

pub returns-in_err-nodes : goal.returns-in_err-nodes
returns-in_err-nodes c =
    let d = c.in_ok-drawing.drawing in
    gives_passed _ _ c.from_residual-in_err-nodes.ensures.1
    (work_enough room_spiderize _ _ c.in_ok-work_room.ensures
    ∙ stopped c.in_ok-drawing.drawing c.in_ok-drawing.ensures.source (λ f. spiderize_step f c.args.ids.now) _
    (spiderize_11 (format_of d.src.now) c.args.ids.now (graph_in d) _ (is_list (goal.at.returns-in_err-nodes c).In_ok-n) _ (refused_so _ _ _ c.in_err-nodes.ensures.answer)))

pub list_nothing-requires : goal.list_nothing-requires
list_nothing-requires c =
    let at = goal.at.list_nothing-requires c in
    (omega (arith, roomy at.In_ok-drawing, c.map_classes.auto.room), classes_few c.in_ok-drawing.drawing (told at.In_ok-nodes))

pub list_classes-requires : goal.list_classes-requires
list_classes-requires c =
    let at = goal.at.list_classes-requires c in
    let d = c.in_ok-drawing.drawing in (
      omega (arith, roomy at.In_ok-drawing, c.map_classes.auto.room, c.list_nothing.auto.room),
      classes_few d (told at.In_ok-nodes),
      (list at.In_ok-n).there,
      below_widen (chosen at.In_ok-n) (omega (arith, nodes d, (stored_in d).within.counts.nodes)) (known at.In_ok-n),
      within at.After-list_nothing,
    )

pub write_spiderized-requires : goal.write_spiderized-requires
write_spiderized-requires c =
    let at = goal.at.write_spiderized-requires c in
    ready c.in_ok-drawing.drawing (behind at.After-list_classes (cleared at.After-list_nothing))
    (omega (arith, roomy at.In_ok-drawing, c.map_classes.auto.room, c.list_classes.auto.room, c.list_nothing.auto.room))
    (looked (words c.list_nothing.new.room) (chosen at.In_ok-n)) (listed at.After-list_classes (within at.After-list_nothing))

pub returns : goal.returns
returns c =
    let at = goal.at.returns c in
    let d = c.in_ok-drawing.drawing in
    let n = at.In_ok-n in
    let t = cleared at.After-list_nothing in
    gives_by (work_enough room_spiderize _ _ c.in_ok-work_room.ensures)
    (given c.in_ok-drawing.drawing c.in_ok-drawing.ensures.source (λ f. spiderize_step f c.args.ids.now)
    (c.write_spiderized.ensures (λ f. spiderize_step f c.args.ids.now)
    (step_listed d (behind at.After-list_classes t) (format_of d.src.now) c.args.ids.now (chosen n) (is_list n)
    ((listed at.After-list_classes (within at.After-list_nothing)).0 ∙ ap among (classes_looked d t (chosen n) (known n))))))
