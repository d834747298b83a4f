-- What the loops of `gone::pairs_left` keep.
-- Assumes nothing.
use mathlib.Core.Path.{◌≡◌}
use Prim.Native.Nat.{ℕ, ◌*◌, ◌-◌, ◌≤◌}
use lib.ListN.{length}
use Rattle.gone.specs.Marks.{marked}
use Rattle.graph.specs.Delete.{renamed_pairs}
use Rattle.graph.specs.Lists.{paired}
use Rattle.le.specs.Le.{Below}
use Rattle.le.specs.Rows.{span}
use Rattle.gone.proofs.pairs_left.Given as goal

abbrev pub invariant-loop-i : goal.invariant-loop-i
invariant-loop-i l = (l.i ≤ l.n) × (l.stay ≤ l.i) × ((m : ℕ) → Below m (span l.src l.r l.k (2 * l.n)) → l.stay ≡ length (renamed_pairs (marked l.room m) (paired (span l.src l.r l.k (2 * l.i)))))

abbrev pub decreases-loop-i : goal.decreases-loop-i
decreases-loop-i l = l.n - l.i
