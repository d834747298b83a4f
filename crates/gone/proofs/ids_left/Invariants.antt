-- What the loops of `gone::ids_left` keep.
-- Assumes nothing.
use mathlib.Core.Path.{◌≡◌}
use Prim.Native.Nat.{ℕ, ◌-◌, ◌≤◌}
use lib.ListN.{length}
use Rattle.gone.specs.Marks.{marked}
use Rattle.graph.specs.Delete.{renamed}
use Rattle.le.specs.Le.{Below}
use Rattle.le.specs.Rows.{span}
use Rattle.gone.proofs.ids_left.Given as goal

abbrev pub invariant-loop-i : goal.invariant-loop-i
invariant-loop-i l = (l.i ≤ l.n) × (l.stay ≤ l.i) × ((m : ℕ) → Below m (span l.src l.r l.k l.n) → l.stay ≡ length (renamed (marked l.room m) (span l.src l.r l.k l.i)))

abbrev pub decreases-loop-i : goal.decreases-loop-i
decreases-loop-i l = l.n - l.i
