-- `le::copy` meets its contract.
-- Assumes nothing.
use mathlib.Core.Path.{refl}
use native.Mathlib.Nat.{le_antisymm}
use native.Mathlib.Omega.{arith}
use lib.ListN.{length-set}
use Rattle.le.proofs.Stores.{copy_more}
use Rattle.le.proofs.copy.Goals as goal

pub loop-k-init : goal.loop-k-init
loop-k-init c = (omega arith, refl, refl)

pub loop-k-preserved : goal.loop-k-preserved
loop-k-preserved c = let l = c.loop-k in
    let a = c.args in (
      omega arith,
      rw l.invariant.1 (copy_more a.d.now a.at a.s.now a.from l.k (omega arith)),
      simp length-set l.invariant.2,
    )

pub returns : goal.returns
returns c = let l = c.loop-k in
    let e = le_antisymm l.invariant.0 c.loop-k-test.false in
    rw (← e) l.invariant.1
