-- `price::range::add_refusal` meets its contract.
-- Assumes nothing.
use Prim.Native.Nat.{◌-◌}
use native.Mathlib.Omega.{arith}
use Rattle.catalogue.proofs.Bounds.{get_d_below}
use Rattle.price.proofs.range.add_refusal.Goals as goal

pub overflow_add-refusals : goal.overflow_add-refusals
overflow_add-refusals c = omega (arith, get_d_below 1000 c.args.t.refusals (omega arith) c.requires.2.refusals (c.args.no - 1))
