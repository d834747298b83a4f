-- `marks::test_all` meets its contract.
-- Assumes nothing.
use Rattle.std.proofs.Common.{◌≤◌, ◌∙◌, arith}
use Rattle.marks.specs.Tables.{loose}
use Rattle.marks.proofs.Loops.{count_turn, bump_few}
use Rattle.marks.proofs.test_all.Goals as goal
use Rattle.marks.proofs.test_all.Goals.{After-test-gone}

-- at most one goes
few : (c : After-test-gone) → c.test-gone.result ≤ 1
few c = omega (arith, c.test-gone.ensures.0, bump_few (loose c.loop-v.room c.loop-v.v))

pub loop-v-preserved : goal.loop-v-preserved
loop-v-preserved c =
    let a = c.args in
    let l = c.loop-v in
    let o = c.test-gone in
    (omega arith, o.auto.room ∙ l.invariant.1, omega (arith, few (goal.at.loop-v-preserved c).After-test-gone, l.invariant.2), count_turn a.room.now l.room o.new.room l.v l.gone o.result l.invariant.3 o.ensures)
