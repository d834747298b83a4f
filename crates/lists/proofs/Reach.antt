-- Laws of the reach of ids: over two lists, id by id, and that it decides whether every id is below a bound.
-- Assumes nothing.
use mathlib.Core.Bool.{Bool, true, false, ◌&&◌}
use mathlib.Core.List.{List, [], ◌∷◌, ◌++◌}
use mathlib.Core.Path.{◌≡◌, refl, sym}
use Prim.Native.Nat.{ℕ, suc, ◌+◌, ◌<◌, max}
use native.Mathlib.Omega.{arith}
use lib.Dec.{leb, ltb}
use lib.ListN.{length}
use borrow.Author.Tests.{ltb-true, ltb-false, leb-true, leb-false, le-leb, lt-leb}
use Rattle.lists.specs.Reach.{reach, highest}
use Rattle.graph.specs.Lists.{all_below}

pub reach_append : (xs ys : List ℕ) → reach (xs ++ ys) ≡ max (reach xs) (reach ys)
reach_append [] ys = omega arith
reach_append (x ∷ xs) ys = omega (arith, reach_append xs ys)

-- every id is below the bound exactly when the reach is not above it
pub below_reach : (n : ℕ) (xs : List ℕ) → all_below n xs ≡ leb (reach xs) n
below_reach n [] = sym (le-leb 0 n (omega arith))
below_reach n (x ∷ xs) = rw (below_reach n xs) (go (ltb x n) (leb (reach xs) n) refl refl)
  where
    go : (a b : Bool) → ltb x n ≡ a → leb (reach xs) n ≡ b → (a && b) ≡ leb (max (suc x) (reach xs)) n
    go true true p q = let l = ltb-true x n p in let k = leb-true (reach xs) n q in sym (le-leb (max (suc x) (reach xs)) n (omega arith))
    go true false p q = let k = leb-false (reach xs) n q in sym (lt-leb (max (suc x) (reach xs)) n (omega arith))
    go false b p q = let l = ltb-false x n p in sym (lt-leb (max (suc x) (reach xs)) n (omega arith))

-- one id more
pub highest_next : (most id : ℕ) (xs : List ℕ) → most ≡ highest xs → max most id ≡ highest (xs ++ (id ∷ []))
highest_next most id [] e = omega arith
highest_next most id (x ∷ xs) e = omega (arith, highest_next (highest xs) id xs refl)

-- the reach is just above the highest
pub reach_highest : (xs : List ℕ) → 0 < length xs → reach xs ≡ highest xs + 1
reach_highest [] h = elim h [ ]
reach_highest (x ∷ []) h = omega arith
reach_highest (x ∷ y ∷ xs) h = omega (arith, reach_highest (y ∷ xs) (omega arith))
