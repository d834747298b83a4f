-- What the loops of `gone::mark` keep.
-- Assumes nothing.
use mathlib.Core.Path.{◌≡◌}
use Prim.Native.Nat.{◌-◌, ◌≤◌}
use lib.ListN.{length}
use Rattle.gone.specs.Marks.{marked}
use Rattle.graph.specs.Lists.{among}
use Rattle.le.specs.Rows.{span}
use Rattle.gone.proofs.mark.Given as goal

abbrev pub invariant-loop-k : goal.invariant-loop-k
invariant-loop-k l = (l.k ≤ l.n) × (length l.room ≡ length l.initial.room) × (marked l.room l.count ≡ among (span l.ids l.r 0 l.k))

abbrev pub decreases-loop-k : goal.decreases-loop-k
decreases-loop-k l = l.n - l.k
