-- `loops::node_step` and `loops::edge_step`, which call each other, meet their contracts.
-- Assumes nothing.
use mathlib.Core.Path.{sym, ◌∙◌}
use native.Mathlib.Omega.{arith}
use Prim.Native.Nat.{◌*◌}
use Rattle.le.specs.Le.{words}
use Rattle.le.specs.Rows.{row_at}
use Rattle.removal.specs.Room.{source}
use Rattle.loops.proofs.Next.{core_low, next_of_node, next_of_edge}
use Rattle.loops.proofs.Steps.{next_low, some_left_lem, node_met, edge_met, edge_next, node_gone, node_next, edge_gone}
use Rattle.loops.proofs.+edge_step_node_step.Goals as goal

-- ---- from the edge: where the walk goes is `next_of_edge`, and it is a node that was not met or the one that was

pub edge_step-lowest_target-v-requires-clause-holds : goal.edge_step-lowest_target-v-requires-clause-holds
edge_step-lowest_target-v-requires-clause-holds t c =
    let a = c.args in
    let u = c.requires.at_edge in
    u.at.told.lists.form_inside (2 * a.e) (omega (arith, u.is_edge)) (omega (arith, core_low _ _ _ _ _ _ u.at.told a.e u.at.inside))

pub edge_step-bounds-seen-v : goal.edge_step-bounds-seen-v
edge_step-bounds-seen-v t c =
    let a = c.args in
    let u = c.requires.at_edge in
    next_low u.at c.lowest_target-v.result (c.lowest_target-v.ensures ∙ sym (next_of_edge (source a.s.now.now (row_at a.at a.width)) (words a.room.now.now) u.at.nodes a.e u.is_edge))

pub edge_step-returns-then-seen-v-ne0 : goal.edge_step-returns-then-seen-v-ne0
edge_step-returns-then-seen-v-ne0 t c = let a = c.args in
    λ u. edge_met u c.lowest_target-v.result (c.lowest_target-v.ensures ∙ sym (next_of_edge (source a.s.now.now (row_at a.at a.width)) (words a.room.now.now) u.at.nodes a.e u.is_edge)) c.if-seen-v-ne0.true

pub edge_step-overflow_sub-left : goal.edge_step-overflow_sub-left
edge_step-overflow_sub-left t c =
    let a = c.args in
    let u = c.requires.at_edge in
    some_left_lem u.at c.lowest_target-v.result (c.lowest_target-v.ensures ∙ sym (next_of_edge (source a.s.now.now (row_at a.at a.width)) (words a.room.now.now) u.at.nodes a.e u.is_edge)) c.if-seen-v-ne0.false

pub edge_step-node_step-requires : goal.edge_step-node_step-requires
edge_step-node_step-requires t c =
    let a = c.args in
    let u = c.requires.at_edge in
    let e = c.lowest_target-v.ensures ∙ sym (next_of_edge (source a.s.now.now (row_at a.at a.width)) (words a.room.now.now) u.at.nodes a.e u.is_edge) in
    let some = some_left_lem u.at c.lowest_target-v.result e c.if-seen-v-ne0.false in
    (omega arith, (c.requires.room_removal_in_bounds, node_next u c.lowest_target-v.result e c.if-seen-v-ne0.false))

pub edge_step-returns : goal.edge_step-returns
edge_step-returns t c =
    let a = c.args in
    let x = c.lowest_target-v.result in
    let fresh = c.if-seen-v-ne0.false in
    λ u.
    let e = c.lowest_target-v.ensures ∙ sym (next_of_edge (source a.s.now.now (row_at a.at a.width)) (words a.room.now.now) u.at.nodes a.e u.is_edge) in
    edge_gone u x e fresh _ _ (c.node_step.ensures (node_next u x e fresh))

-- ---- from the node, likewise

pub node_step-bounds-seen-e : goal.node_step-bounds-seen-e
node_step-bounds-seen-e t c =
    let a = c.args in
    let u = c.requires.at_node in
    next_low u.at c.lowest_edge-e.result (c.lowest_edge-e.ensures ∙ sym (next_of_node (source a.s.now.now (row_at a.at a.width)) (words a.room.now.now) u.at.nodes a.v u.is_node))

pub node_step-returns-then-seen-e-ne0 : goal.node_step-returns-then-seen-e-ne0
node_step-returns-then-seen-e-ne0 t c = let a = c.args in
    λ u. node_met u c.lowest_edge-e.result (c.lowest_edge-e.ensures ∙ sym (next_of_node (source a.s.now.now (row_at a.at a.width)) (words a.room.now.now) u.at.nodes a.v u.is_node)) c.if-seen-e-ne0.true

pub node_step-overflow_sub-left : goal.node_step-overflow_sub-left
node_step-overflow_sub-left t c =
    let a = c.args in
    let u = c.requires.at_node in
    some_left_lem u.at c.lowest_edge-e.result (c.lowest_edge-e.ensures ∙ sym (next_of_node (source a.s.now.now (row_at a.at a.width)) (words a.room.now.now) u.at.nodes a.v u.is_node)) c.if-seen-e-ne0.false

pub node_step-edge_step-requires : goal.node_step-edge_step-requires
node_step-edge_step-requires t c =
    let a = c.args in
    let u = c.requires.at_node in
    let e = c.lowest_edge-e.ensures ∙ sym (next_of_node (source a.s.now.now (row_at a.at a.width)) (words a.room.now.now) u.at.nodes a.v u.is_node) in
    let some = some_left_lem u.at c.lowest_edge-e.result e c.if-seen-e-ne0.false in
    (omega arith, (c.requires.room_removal_in_bounds, edge_next u c.lowest_edge-e.result e c.if-seen-e-ne0.false))

pub node_step-returns : goal.node_step-returns
node_step-returns t c =
    let a = c.args in
    let x = c.lowest_edge-e.result in
    let fresh = c.if-seen-e-ne0.false in
    λ u.
    let e = c.lowest_edge-e.ensures ∙ sym (next_of_node (source a.s.now.now (row_at a.at a.width)) (words a.room.now.now) u.at.nodes a.v u.is_node) in
    node_gone u x e fresh _ _ (c.edge_step.ensures (edge_next u x e fresh))
