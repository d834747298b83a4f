-- How many numbers an ascending list can have.
-- Assumes nothing.
use mathlib.Core.List.{List, [], ◌∷◌}
use Prim.Native.Nat.{ℕ, ◌+◌, ◌≤◌, ◌<◌}
use native.Mathlib.Omega.{arith}
use lib.ListN.{length}
use Rattle.le.specs.Le.{Below}
use Rattle.choice.specs.Choice.{Above, Ascends}

-- numbers that ascend, all above x and below n, are fewer than n - x
above_few : (n x : ℕ) (xs : List ℕ) → x < n → Above x xs → Below n xs → x + length xs < n
above_few n x [] l a h = omega arith
above_few n x (y ∷ ys) l a h = omega (arith, above_few n y ys h.0 a.1 h.1, a.0)

-- so an ascending list of numbers below n has at most n of them
pub ascending_few : (n : ℕ) (xs : List ℕ) → Ascends xs → Below n xs → length xs ≤ n
ascending_few n [] a h = omega arith
ascending_few n (x ∷ xs) a h = omega (arith, above_few n x xs h.0 a h.1)
