-- `loops::walk` meets its contract.
-- Assumes nothing.
use Rattle.loops.proofs.Steps.{start_at, start_walk}
use Rattle.loops.proofs.walk.Goals as goal

pub node_step-steps-requires : goal.node_step-steps-requires
node_step-steps-requires c =
    let f = c.lowest_node-v in
    record { room_removal_in_bounds = c.requires.room_removal_in_bounds; at_node = start_at c.requires.starting f.result f.ensures }

pub returns : goal.returns
returns c =
    let f = c.lowest_node-v in
    λ u. start_walk u f.result f.ensures _ _ (c.node_step-steps.ensures (start_at u f.result f.ensures))
