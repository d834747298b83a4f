-- `price::range::add_counts` meets its contract.
-- Assumes nothing.
use mathlib.Core.Path.{sym, ◌∙◌}
use native.Mathlib.Omega.{arith}
use Rattle.le.proofs.Numbers.{below_at}
use Rattle.price.proofs.Adding.{half_none, half_next, half_all}
use Rattle.price.proofs.range.add_counts.Goals as goal

pub loop-k-init : goal.loop-k-init
loop-k-init c = half_none c.args.parts c.args.counts

pub overflow_add-both : goal.overflow_add-both
overflow_add-both c =
    let k = c.loop-k.k in
    omega (
      arith,
      c.loop-k.invariant.left k (omega arith),
      below_at 2147483648 c.args.parts k c.requires.2 (omega (arith, c.requires.0)),
      below_at 2147483648 c.args.counts k c.requires.3 (omega (arith, c.requires.1)),
    )

pub loop-k-preserved : goal.loop-k-preserved
loop-k-preserved c = half_next c.args.parts c.args.counts c.loop-k.both c.loop-k.k c.loop-k.invariant (omega (arith, c.requires.0))

pub returns : goal.returns
returns c =
    let l = c.loop-k in
    half_all c.args.parts c.args.counts l.both l.k l.invariant (c.requires.0 ∙ sym c.requires.1) (omega (arith, c.requires.0))
