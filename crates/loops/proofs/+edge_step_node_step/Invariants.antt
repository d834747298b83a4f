-- `loops::node_step` and `loops::edge_step` call each other: the number of unvisited vertices left falls.
-- Assumes nothing.
use Rattle.loops.proofs.+edge_step_node_step.Given as goal

abbrev pub decreases-edge_step : goal.decreases-edge_step
decreases-edge_step l = l.left

abbrev pub decreases-node_step : goal.decreases-node_step
decreases-node_step l = l.left
