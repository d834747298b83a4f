-- `parts::put_row` meets its contract.
-- Assumes nothing.
use mathlib.Core.Path.{sym}
use native.Mathlib.Omega.{arith}
use Rattle.le.specs.Rows.{row_at}
use Rattle.le.proofs.Rows.{puts_none}
use Rattle.parts.proofs.Putting.{row_next, row_put}
use Rattle.parts.proofs.put_row.Goals as goal

pub loop-k-init : goal.loop-k-init
loop-k-init c = let a = c.args in sym (puts_none a.out.now (row_at a.at 4) 0)

pub loop-k-preserved : goal.loop-k-preserved
loop-k-preserved c =
    let a = c.args in
    let l = c.loop-k in
    row_next a.at a.out.now l.out c.put_number.new.d a.ns.now l.k (omega arith) l.invariant c.put_number.ensures

pub returns : goal.returns
returns c =
    let a = c.args in
    let l = c.loop-k in
    row_put a.at a.out.now l.out a.ns.now l.k (omega arith) l.invariant
