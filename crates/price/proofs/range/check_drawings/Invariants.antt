-- What the loops of `price::range::check_drawings` keep.
-- Assumes nothing.
use Prim.Native.Nat.{◌-◌}
use lib.ListN.{length}
use Rattle.catalogue.proofs.Slices.{Passed}
use Rattle.price.proofs.range.check_drawings.Given as goal

abbrev pub invariant-loop-next : goal.invariant-loop-next
invariant-loop-next l = Passed l.src l.next l.count

abbrev pub decreases-loop-next : goal.decreases-loop-next
decreases-loop-next l = length l.src - l.next
