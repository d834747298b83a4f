-- What the loops of `classes::agree` keep.
-- Assumes nothing.
use mathlib.Core.Bool.{true}
use mathlib.Core.Path.{◌≡◌}
use Prim.Native.Nat.{ℕ, ◌-◌, ◌≤◌, ◌<◌}
use Rattle.le.specs.Le.{words}
use Rattle.classes.proofs.Labels.{same_at}
use Rattle.classes.proofs.agree.Given as goal

abbrev pub invariant-loop-v : goal.invariant-loop-v
invariant-loop-v l = (l.v ≤ l.n) × ((u : ℕ) → u < l.v → same_at l.n (words l.room) l.src l.r u ≡ true)

abbrev pub decreases-loop-v : goal.decreases-loop-v
decreases-loop-v l = l.n - l.v
