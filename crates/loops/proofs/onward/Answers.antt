-- `loops::onward` meets its contract.
-- Assumes nothing.
use mathlib.Core.Path.{sym, ◌∙◌}
use native.Mathlib.Omega.{arith}
use Rattle.le.specs.Le.{words}
use Rattle.removal.specs.Room.{source}
use Rattle.loops.proofs.Next.{next_of_node, next_of_edge}
use Rattle.loops.proofs.onward.Goals as goal

pub lowest_edge-requires : goal.lowest_edge-requires
lowest_edge-requires c = record { v_lt_most_vertices = (omega arith, omega arith); v_bound = c.requires.v_bound.0 c.if-v-nodes.true }

pub returns-then-v-nodes : goal.returns-then-v-nodes
returns-then-v-nodes c =
    let a = c.args in
    c.lowest_edge.ensures ∙ sym (next_of_node (source a.s.now a.r) (words a.room.now) a.nodes a.v c.if-v-nodes.true)

pub lowest_target-requires : goal.lowest_target-requires
lowest_target-requires c = record { e_lt_most_vertices = (omega arith, omega arith); holds = c.requires.v_bound.1 c.if-v-nodes.false }

pub returns : goal.returns
returns c =
    let a = c.args in
    c.lowest_target.ensures ∙ sym (next_of_edge (source a.s.now a.r) (words a.room.now) a.nodes a.v c.if-v-nodes.false)
