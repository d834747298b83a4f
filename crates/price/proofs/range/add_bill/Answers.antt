-- `price::range::add_bill` meets its contract.
-- Assumes nothing.
use native.Mathlib.Omega.{arith}
use Rattle.le.proofs.Numbers.{below_widen}
use Rattle.price.proofs.range.add_bill.Goals as goal

pub add_counts-parts-requires : goal.add_counts-parts-requires
add_counts-parts-requires c =
    let t = c.requires.0 in
    let l = c.requires.1.counts in
    (t.twelve, l.twelve, below_widen c.args.t.parts (omega arith) t.parts, below_widen c.args.bill.counts (omega arith) l.few)
