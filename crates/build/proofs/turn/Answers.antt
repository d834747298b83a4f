-- `build::turn` meets its contract.
-- Assumes nothing.
use mathlib.Core.Path.{sym, ap, subst}
use Rattle.le.specs.Le.{words}
use Rattle.graph.specs.Answer.{answered}
use Rattle.steps.specs.Steps.{Step, head_numbers}
use Rattle.steps.specs.Calls as calls
use Rattle.ledger.specs.Ledger.{drawing}
use Rattle.build.specs.Turns.{number_of, Turned}
use Rattle.build.specs.declared.Kind.{Kind}
use Rattle.build.proofs.ByKind.{node_kind, edge_kind, operation_kind, pair_kind, source_kind, target_kind, edges_kind, nodes_kind}
use native.Mathlib.Omega.{arith}
use Rattle.build.proofs.turn.Goals as goal

pub new_node-requires : goal.new_node-requires
new_node-requires c = let h = ap (λ (k : Kind). head_numbers (number_of k)) c.in-NewNode.is in (c.requires.0, c.requires.1, omega (arith, h))

pub returns-in-NewNode : goal.returns-in-NewNode
returns-in-NewNode c =
    let a = c.args in
    subst (λ (s : Step). Turned (calls.turn (answered s) (drawing (words a.room.now) a.z)) c.new_node.result (words c.new_node.new.room)) (sym (node_kind a.steps.now c.requires.2.0 a.p c.requires.2.1 (ap number_of c.in-NewNode.is))) c.new_node.ensures

pub new_edge-requires : goal.new_edge-requires
new_edge-requires c = let t = c.requires.2.1 in let h = ap (λ (k : Kind). head_numbers (number_of k)) c.in-NewEdge.is in (c.requires.0, c.requires.1, record { head = omega (arith, h); inside = omega arith; first = t.few; second = t.few_more })

pub returns-in-NewEdge : goal.returns-in-NewEdge
returns-in-NewEdge c =
    let a = c.args in
    subst (λ (s : Step). Turned (calls.turn (answered s) (drawing (words a.room.now) a.z)) c.new_edge.result (words c.new_edge.new.room)) (sym (edge_kind a.steps.now c.requires.2.0 a.p c.requires.2.1 (ap number_of c.in-NewEdge.is))) c.new_edge.ensures

pub new_operation-requires : goal.new_operation-requires
new_operation-requires c = let t = c.requires.2.1 in let h = ap (λ (k : Kind). head_numbers (number_of k)) c.in-NewOperation.is in (c.requires.0, c.requires.1, record { head = omega (arith, h); inside = omega arith; first = t.few; second = t.few_more })

pub returns-in-NewOperation : goal.returns-in-NewOperation
returns-in-NewOperation c =
    let a = c.args in
    subst (λ (s : Step). Turned (calls.turn (answered s) (drawing (words a.room.now) a.z)) c.new_operation.result (words c.new_operation.new.room)) (sym (operation_kind a.steps.now c.requires.2.0 a.p c.requires.2.1 (ap number_of c.in-NewOperation.is))) c.new_operation.ensures

pub unify-requires : goal.unify-requires
unify-requires c = let h = ap (λ (k : Kind). head_numbers (number_of k)) c.in-Unify.is in (c.requires.0, c.requires.1, omega (arith, h))

pub returns-in-Unify : goal.returns-in-Unify
returns-in-Unify c =
    let a = c.args in
    subst (λ (s : Step). Turned (calls.turn (answered s) (drawing (words a.room.now) a.z)) c.unify.result (words c.unify.new.room)) (sym (pair_kind a.steps.now c.requires.2.0 a.p c.requires.2.1 (ap number_of c.in-Unify.is))) c.unify.ensures

pub add_edge_source-requires : goal.add_edge_source-requires
add_edge_source-requires c = let h = ap (λ (k : Kind). head_numbers (number_of k)) c.in-AddEdgeSource.is in (c.requires.0, c.requires.1, omega (arith, h))

pub returns-in-AddEdgeSource : goal.returns-in-AddEdgeSource
returns-in-AddEdgeSource c =
    let a = c.args in
    subst (λ (s : Step). Turned (calls.turn (answered s) (drawing (words a.room.now) a.z)) c.add_edge_source.result (words c.add_edge_source.new.room)) (sym (source_kind a.steps.now c.requires.2.0 a.p c.requires.2.1 (ap number_of c.in-AddEdgeSource.is))) c.add_edge_source.ensures

pub add_edge_target-requires : goal.add_edge_target-requires
add_edge_target-requires c = let h = ap (λ (k : Kind). head_numbers (number_of k)) c.in-AddEdgeTarget.is in (c.requires.0, c.requires.1, omega (arith, h))

pub returns-in-AddEdgeTarget : goal.returns-in-AddEdgeTarget
returns-in-AddEdgeTarget c =
    let a = c.args in
    subst (λ (s : Step). Turned (calls.turn (answered s) (drawing (words a.room.now) a.z)) c.add_edge_target.result (words c.add_edge_target.new.room)) (sym (target_kind a.steps.now c.requires.2.0 a.p c.requires.2.1 (ap number_of c.in-AddEdgeTarget.is))) c.add_edge_target.ensures

pub delete_edges-requires : goal.delete_edges-requires
delete_edges-requires c = let t = c.requires.2.1 in let h = ap (λ (k : Kind). head_numbers (number_of k)) c.in-DeleteEdges.is in (c.requires.0, c.requires.1, record { head = omega (arith, h); inside = omega arith; first = t.few; second = t.few_more })

pub returns-in-DeleteEdges : goal.returns-in-DeleteEdges
returns-in-DeleteEdges c =
    let a = c.args in
    subst (λ (s : Step). Turned (calls.turn (answered s) (drawing (words a.room.now) a.z)) c.delete_edges.result (words c.delete_edges.new.room)) (sym (edges_kind a.steps.now c.requires.2.0 a.p c.requires.2.1 (ap number_of c.in-DeleteEdges.is))) c.delete_edges.ensures

pub delete_nodes-requires : goal.delete_nodes-requires
delete_nodes-requires c = let t = c.requires.2.1 in let h = ap (λ (k : Kind). head_numbers (number_of k)) c.in-DeleteNodes.is in (c.requires.0, c.requires.1, record { head = omega (arith, h); inside = omega arith; first = t.few; second = t.few_more })

pub returns-in-DeleteNodes : goal.returns-in-DeleteNodes
returns-in-DeleteNodes c =
    let a = c.args in
    subst (λ (s : Step). Turned (calls.turn (answered s) (drawing (words a.room.now) a.z)) c.delete_nodes.result (words c.delete_nodes.new.room)) (sym (nodes_kind a.steps.now c.requires.2.0 a.p c.requires.2.1 (ap number_of c.in-DeleteNodes.is))) c.delete_nodes.ensures
