-- `scan::put_answer` meets its contract.
-- Assumes nothing.
use Prim.Native.Nat.{◌+◌, ◌-◌}
use native.Mathlib.Omega.{arith}
use Rattle.scan.proofs.Answering.{listing_10, listing_0}
use Rattle.scan.proofs.put_answer.Goals as goal

pub returns-then-list-ids : goal.returns-then-list-ids
returns-then-list-ids c =
    let a = c.args in
    λ f e. listing_10 f a.z.width e _ a.free (a.z.nodes + a.z.edges - a.free) (omega (arith, c.requires.free_len)) a.list.now c.if-list-ids.true

pub returns : goal.returns
returns c =
    let a = c.args in
    λ f e. listing_0 f a.z.width e _ a.free (a.z.nodes + a.z.edges - a.free) (omega (arith, c.requires.free_len)) a.list.now c.put_chosen.new.list c.if-list-ids.false c.put_chosen.ensures
