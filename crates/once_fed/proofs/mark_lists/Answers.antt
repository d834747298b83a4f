-- `once_fed::mark_lists` meets its contract.
-- Assumes nothing.
use Rattle.form.specs.Drawn.{graph_in}
use Rattle.form.proofs.Drawn.{stored_in}
use mathlib.Core.Logic.{inr}
use mathlib.Core.Path.{refl}
use native.Mathlib.Omega.{arith}
use Rattle.once_fed.specs.Marked.{Marks}
use Rattle.form.proofs.Stored.{stored_rows, stored_known}
use Rattle.le.proofs.Rows.{holds_less}
use Rattle.once_fed.proofs.Marked.{first_stop, second_next}
use Rattle.once_fed.proofs.Whole.{sources_there, targets_there}
use Rattle.once_fed.proofs.mark_lists.Goals as goal
use Rattle.once_fed.proofs.mark_lists.Goals.{After-mark_list}

sources_marked : (c : After-mark_list) → let a = c.args in
    Marks a.room.now c.mark_list.new.room a.drawing.sizes.nodes c.mark_list.result 2 (graph_in a.drawing).sources
sources_marked c = let r = c.body-row in rw (sources_there c.args.drawing r.result r.ensures _ c.lists-sources.ensures.0) at c.mark_list.ensures

pub mark_list-requires : goal.mark_list-requires
mark_list-requires c =
    let s = stored_in c.args.drawing in
    let r = c.body-row in
    (rw r.ensures (holds_less (stored_rows s).body_held _ (omega (arith, c.lists-sources.ensures.0))), rw (sources_there c.args.drawing r.result r.ensures _ c.lists-sources.ensures.0) (stored_known s).sources, c.requires)

pub mark_list-requires-then-mark_list : goal.mark_list-requires-then-mark_list
mark_list-requires-then-mark_list c =
    let s = stored_in c.args.drawing in
    let r = c.body-row in
    (rw r.ensures (holds_less (stored_rows s).body_held _ (omega (arith, c.lists-sources.ensures.0))), rw (targets_there c.args.drawing r.result r.ensures _ c.lists-sources.ensures.0) (stored_known s).targets, omega (arith, c.requires, c.mark_list.auto.room))

pub returns-then-mark_list : goal.returns-then-mark_list
returns-then-mark_list c =
    let r = c.body-row in
    let f = c.mark_list in
    let g = c.mark_list-then-mark_list in
    let targets : Marks f.new.room g.new.room c.args.drawing.sizes.nodes g.result 1 (graph_in c.args.drawing).targets = rw (targets_there c.args.drawing r.result r.ensures _ c.lists-sources.ensures.0) at g.ensures in
    second_next _ f.new.room _ _ 2 (inr refl) _ _ f.result (sources_marked (goal.at.returns-then-mark_list c).After-mark_list) c.if-mark_list.true g.result targets

pub returns-else-mark_list : goal.returns-else-mark_list
returns-else-mark_list c =
    let f = c.mark_list in
    rw c.if-mark_list.false (first_stop _ f.new.room f.new.room _ 2 (inr refl) _ _ f.result (sources_marked (goal.at.returns-else-mark_list c).After-mark_list) c.if-mark_list.false)
