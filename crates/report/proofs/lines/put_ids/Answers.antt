-- `report::lines::put_ids` meets its contract.
-- Assumes nothing.
use native.Mathlib.Omega.{arith}
use Rattle.report.proofs.Texts.{printed_id, printed_none}
use Rattle.report.proofs.lines.put_ids.Goals as goal

pub loop-i-init : goal.loop-i-init
loop-i-init c = (printed_none c.args.out.now c.args.at c.args.list.now c.args.row, omega arith)

pub loop-i-preserved : goal.loop-i-preserved
loop-i-preserved c =
    let l = c.loop-i in
    let p = c.put_id-next.ensures in
    (printed_id c.args.list.now c.args.row l.i c.number-id.result c.number-id.ensures.0 l.invariant.0 p.printed, omega (arith, p.upper_bound, l.invariant.1))
