-- `marks::test_each` meets its contract.
-- Assumes nothing.
use Rattle.std.proofs.Common.{◌≤◌, refl, ◌∙◌, arith}
use Rattle.le.specs.Rows.{span}
use Rattle.marks.specs.Tables.{most_nodes, loose}
use Rattle.marks.proofs.Loops.{read_low, test_turn, bump_few}
use Rattle.marks.proofs.test_each.Goals as goal
use Rattle.marks.proofs.test_each.Goals.{After-test-gone}

-- at most one goes
few : (c : After-test-gone) → c.test-gone.result ≤ 1
few c = omega (arith, c.test-gone.ensures.0, bump_few (loose c.loop-j.room c.number-id.result))

pub loop-j-init : goal.loop-j-init
unfolding span
loop-j-init c = (omega arith, refl, omega arith, (refl, refl))

pub test-gone-requires : goal.test-gone-requires
test-gone-requires c =
    let a = c.args in
    let l = c.loop-j in
    (read_low a.src.now a.r a.first a.count l.j c.number-id.result c.number-id.ensures.0 most_nodes (omega arith) c.requires.1, omega (arith, l.invariant.1))

pub loop-j-preserved : goal.loop-j-preserved
loop-j-preserved c =
    let a = c.args in
    let l = c.loop-j in
    let o = c.test-gone in
    let x = c.number-id in (
      omega arith,
      o.auto.room ∙ l.invariant.1,
      omega (arith, few (goal.at.loop-j-preserved c).After-test-gone, l.invariant.2),
      test_turn a.src.now a.r a.first a.count l.j x.result x.ensures.0 a.room.now l.room o.new.room l.gone o.result l.invariant.3 o.ensures,
    )
