-- What the loops of `lists::highest_of` keep.
-- Assumes nothing.
use mathlib.Core.List.{List}
use mathlib.Core.Path.{◌≡◌}
use Prim.Native.Nat.{ℕ, ◌≤◌, ◌-◌, ◌+◌, ◌*◌}
use Rattle.le.specs.Rows.{row_at, span}
use Rattle.lists.specs.Reach.{highest}
use Rattle.lists.proofs.highest_of.Given as goal

-- k ids are looked at, and the place is that of the next
pub record Looked (s : List ℕ) (at n width most place : ℕ) : Type 0 where
  pub k : ℕ
  pub few : k ≤ n
  pub here : place ≡ at + k * width
  pub found : most ≡ highest (span s (row_at at width) 0 k)

abbrev pub invariant-loop-place : goal.invariant-loop-place
invariant-loop-place l = Looked l.s l.at l.n l.width l.most l.place

abbrev pub decreases-loop-place : goal.decreases-loop-place
decreases-loop-place l = l.end - l.place
