-- `rewriting::rewrite_lists` meets its contract.
-- Assumes nothing.
use mathlib.Core.Path.{refl}
use Prim.Native.Nat.{◌+◌, ◌<◌}
use Rattle.rewriting.proofs.Passes.{passed_none, passed_ready, passed_more, passed_all}
use native.Mathlib.Omega.{arith}
use Rattle.rewriting.proofs.rewrite_lists.Goals as goal
use Rattle.rewriting.proofs.rewrite_lists.Goals.{In-loop-i}

less : (c : In-loop-i) → c.loop-i.i < c.args.y.sources + c.args.y.targets
less c = omega (arith, c.loop-i-test.true, c.loop-i.invariant.0)

pub loop-i-init : goal.loop-i-init
loop-i-init c = (refl, passed_none c.requires _ 0 3)

pub rewrite_entry-next-requires : goal.rewrite_entry-next-requires
rewrite_entry-next-requires c = passed_ready c.requires _ 0 3 c.loop-i.invariant.1 (less (goal.at.rewrite_entry-next-requires c).In-loop-i)

pub loop-i-preserved : goal.loop-i-preserved
loop-i-preserved c =
    let l = c.loop-i in
    let f = c.rewrite_entry-next in
    (l.invariant.0, passed_more c.requires _ 0 3 l.invariant.1 (less (goal.at.loop-i-preserved c).In-loop-i) c.kind_at-kind.ensures f.ensures f.auto.room f.auto.out)

pub returns : goal.returns
returns c = let l = c.loop-i in passed_all c.requires _ 0 3 l.invariant.1 (omega (arith, l.invariant.0, c.loop-i-test.false))
