-- What the loops of `scan::best_node` keep.
-- Assumes nothing.
use Prim.Native.Nat.{◌-◌, ◌≤◌}
use Rattle.scan.specs.Stages.{Top}
use Rattle.scan.proofs.best_node.Given as goal

abbrev pub invariant-loop-v : goal.invariant-loop-v
invariant-loop-v l = (l.v ≤ l.nodes) × Top l.room l.v l.best

abbrev pub decreases-loop-v : goal.decreases-loop-v
decreases-loop-v l = l.nodes - l.v
