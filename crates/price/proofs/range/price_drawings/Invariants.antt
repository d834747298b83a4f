-- What the loop of `price::range::price_drawings` keeps.
-- Assumes nothing.
use Prim.Native.Nat.{◌-◌}
use lib.ListN.{length}
use Rattle.price.specs.Totals.{forms_of}
use Rattle.price.proofs.Along.{Sofar}
use Rattle.price.proofs.range.price_drawings.Given as goal

abbrev pub invariant-loop-at : goal.invariant-loop-at
invariant-loop-at l = Sofar l.src (forms_of l.src) l.t l.at

abbrev pub decreases-loop-at : goal.decreases-loop-at
decreases-loop-at l = length l.src - l.at
