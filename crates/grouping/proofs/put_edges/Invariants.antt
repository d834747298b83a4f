-- What the loops of `grouping::put_edges` keep.
-- Assumes nothing.
use Prim.Native.Nat.{◌-◌, ◌≤◌}
use lib.ListN.{take}
use Rattle.le.specs.Le.{words}
use Rattle.graph.specs.Form.{edge_row}
use Rattle.graph.specs.Lists.{joined}
use Rattle.write.specs.Write.{Put}
use Rattle.ledger.specs.Ledger.{drawing}
use Rattle.grouping.proofs.put_edges.Given as goal

abbrev pub invariant-loop-e : goal.invariant-loop-e
invariant-loop-e l = (l.e ≤ l.z.edges) × Put l.initial.out l.r 0 (joined edge_row (take l.e (drawing (words l.room) l.z).edges)) l.out l.at

abbrev pub decreases-loop-e : goal.decreases-loop-e
decreases-loop-e l = l.z.edges - l.e
