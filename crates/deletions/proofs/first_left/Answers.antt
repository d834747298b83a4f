-- `deletions::first_left` meets its contract.
-- Assumes nothing.
use Rattle.le.specs.Le.{words}
use Rattle.ledger.specs.Left.{first_left}
use Rattle.deletions.proofs.Turns.{edge_gone, edge_stays}
use native.Mathlib.Omega.{arith}
use Rattle.deletions.proofs.first_left.Goals as goal

pub returns-in-NodeOfPort : goal.returns-in-NodeOfPort
unfolding first_left
returns-in-NodeOfPort c = rw c.in-NodeOfPort.is

pub returns-then-edge-ge-MAP_SIZE : goal.returns-then-edge-ge-MAP_SIZE
returns-then-edge-ge-MAP_SIZE c =
    let a = c.args in
    rw c.in-EdgeOfPort.is (edge_gone (words a.room.now) a.a c.word-edge.result c.word-edge.ensures (omega (arith, c.if-edge-ge-MAP_SIZE.true)))

pub returns-else-edge-ge-MAP_SIZE : goal.returns-else-edge-ge-MAP_SIZE
returns-else-edge-ge-MAP_SIZE c =
    let a = c.args in
    rw c.in-EdgeOfPort.is (edge_stays (words a.room.now) a.a c.word-edge.result c.word-edge.ensures (omega (arith, c.if-edge-ge-MAP_SIZE.false)))

pub returns-in-BothEnds : goal.returns-in-BothEnds
unfolding first_left
returns-in-BothEnds c = rw c.in-BothEnds.is c.word.ensures
