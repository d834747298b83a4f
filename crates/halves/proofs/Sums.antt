-- Sums of the first numbers that a function gives.
-- Assumes nothing.
use mathlib.Core.Path.{◌≡◌, refl, ap}
use mathlib.Core.Bool.{Bool, true, false, ◌&&◌}
use mathlib.Core.List.{List, [], ◌∷◌}
use Prim.Native.Nat.{ℕ, zero, suc, ◌+◌, ◌≤◌, ◌<◌}
use native.Mathlib.Decide.{ℕ_discrete}
use native.Mathlib.Omega.{arith}
use lib.Dec.{eqb}
use lib.ListN.{length}
use borrow.Author.Tests.{ne_eqb}
use Rattle.choice.specs.Arcs.{bump, how_many}
use Rattle.halves.specs.Halves.{times, sum_to}

pub sum_same : (f g : ℕ → ℕ) (k : ℕ) → ((v : ℕ) → v < k → f v ≡ g v) → sum_to f k ≡ sum_to g k
unfolding sum_to
sum_same f g zero h = refl
sum_same f g (suc k) h = omega (arith, sum_same f g k (λ v l. h v (omega arith)), h k (omega arith))

pub sum_add : (f g : ℕ → ℕ) (k : ℕ) → sum_to (λ v. f v + g v) k ≡ sum_to f k + sum_to g k
unfolding sum_to
sum_add f g zero = refl
sum_add f g (suc k) = omega (arith, sum_add f g k)

pub sum_none : (x : ℕ) (t : Bool) (k : ℕ) → k ≤ x → sum_to (λ v. bump (eqb x v && t) 0) k ≡ 0
unfolding sum_to
sum_none x t zero l = refl
sum_none x t (suc k) l = omega (arith, sum_none x t k (omega arith), ap (λ (b : Bool). bump (b && t) 0) (ne_eqb x k (λ e. omega arith)))

pub sum_one : (x : ℕ) (t : Bool) (k : ℕ) → sum_to (λ v. bump (eqb x v && t) 0) k ≤ 1
unfolding sum_to
sum_one x t zero = omega arith
sum_one x t (suc k) = go (ℕ_discrete x k) (sum_one x t k)
  where
    one : (b : Bool) → bump b 0 ≤ 1
    one true = omega arith
    one false = omega arith

    go : Dec (x ≡ k) → sum_to (λ v. bump (eqb x v && t) 0) k ≤ 1 → sum_to (λ v. bump (eqb x v && t) 0) k + bump (eqb x k && t) 0 ≤ 1
    go (yes e) r = omega (arith, sum_none x t k (omega arith), one (eqb x k && t))
    go (no n) r = omega (arith, ap (λ (b : Bool). bump (b && t) 0) (ne_eqb x k n))

pub sum_zero : (f : ℕ → ℕ) (k : ℕ) → ((v : ℕ) → f v ≡ 0) → sum_to f k ≡ 0
unfolding sum_to
sum_zero f zero h = refl
sum_zero f (suc k) h = omega (arith, sum_zero f k h, h k)

pub bump_plus : (b : Bool) (m : ℕ) → bump b m ≡ bump b 0 + m
bump_plus true m = omega arith
bump_plus false m = omega arith

-- what is added before v ends before the sum up to v
pub sum_apart : (f : ℕ → ℕ) (u v : ℕ) → u < v → sum_to f u + f u ≤ sum_to f v
unfolding sum_to
sum_apart f u zero l = absurd (omega arith)
sum_apart f u (suc v) l = go (ℕ_discrete u v) (sum_apart f u v)
  where
    go : Dec (u ≡ v) → (u < v → sum_to f u + f u ≤ sum_to f v) → sum_to f u + f u ≤ sum_to f v + f v
    go (yes e) r = omega (arith, ap f e, ap (sum_to f) e)
    go (no n) r = omega (arith, r (omega arith))

-- each entry of a list is counted once at most
pub sum_times : (ys : List ℕ) (k : ℕ) → sum_to (λ y. times y ys) k ≤ length ys
sum_times [] k = omega (arith, sum_zero (λ y. times y []) k none)
  where
    none : (y : ℕ) → times y [] ≡ 0
    none y = unfold how_many in refl
sum_times (t ∷ ys) k =
    omega (
      arith,
      sum_same (λ y. times y (t ∷ ys)) (λ y. bump (eqb t y && true) 0 + times y ys) k (λ y l. each y),
      sum_add (λ y. bump (eqb t y && true) 0) (λ y. times y ys) k,
      sum_one t true k,
      sum_times ys k,
    )
  where
    and_true : (b : Bool) → bump b 0 ≡ bump (b && true) 0
    and_true true = refl
    and_true false = refl

    each : (y : ℕ) → times y (t ∷ ys) ≡ bump (eqb t y && true) 0 + times y ys
    each y = unfold how_many in omega (arith, bump_plus (eqb t y) (times y ys), and_true (eqb t y))
