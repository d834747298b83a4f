-- What lowering keeps: both halves are 0 or none, and there is room for each live vertex to wait.
-- Assumes nothing.
use mathlib.Core.Path.{◌≡◌, refl, ap, ◌∙◌}
use mathlib.Core.Bool.{Bool, true, false, cond}
use mathlib.Core.List.Memᴰ
use mathlib.Core.List.{List, [], ◌∷◌, ◌++◌}
use mathlib.Core.Logic.{◌⊎◌, inl, inr}
use Prim.Native.Nat.{ℕ, ◌-◌, ◌*◌, ◌<◌}
use native.Mathlib.Omega.{arith}
use lib.Dec.{eqb}
use lib.ListN.{length, get_or, set, length-set, length-append}
use borrow.Author.Tests.{eqb-true, eqb-false}
use Rattle.choice.specs.Arcs.{In, size}
use Rattle.halves.specs.Halves.{mate, Halves, lower, lower_all}
use Rattle.halves.proofs.Lists.{live_same}
use Rattle.halves.proofs.Marks.{keeps_zero, keeps_back, keeps_same, goes_paired, goes_live}
use Rattle.removal.specs.Room.{AllLow, Roomy}

module _ (n : ℕ) (h : Halves) (y : ℕ) (below : y < 2 * n) (r : Roomy n h) where
  -- a half that runs out has a place to wait
  pub roomy_place : get_or h.degrees y 0 ≡ 1 → length h.waiting < n
  roomy_place last = omega (arith, r.room, goes_live n h.degrees y below r.long r.paired last)

  pub roomy_lower : Roomy n (lower y h)
  unfolding lower
  roomy_lower = go (eqb (get_or d y 0) 1) refl
    where
      d : List ℕ
      d = h.degrees

      go : (t : Bool) → eqb (get_or d y 0) 1 ≡ t
          → Roomy n (cond t (record { degrees = set (set d y 0) (mate y) 0; waiting = h.waiting ++ (y ∷ []) }) (record { degrees = set d y (get_or d y 0 - 1); waiting = h.waiting }))
      go true e = record {
        long = length-set (set d y 0) (mate y) 0 ∙ length-set d y 0 ∙ r.long;
        paired = goes_paired n d y below r.long r.paired;
        room = omega (arith, r.room, length-append h.waiting (y ∷ []), goes_live n d y below r.long r.paired (eqb-true (get_or d y 0) 1 e));
        low = λ t m. at t (Memᴰ.append_cases h.waiting m);
      }
        where
          at : (t : ℕ) → In t h.waiting ⊎ In t (y ∷ []) → t < 2 * n
          at t (inl m) = r.low t m
          at t (inr m) = rw (Memᴰ.eq_of_singleton m) below
      go false e = record {
        long = length-set d y (get_or d y 0 - 1) ∙ r.long;
        paired = λ z p. keeps_zero n d y below r.long (mate z) (r.paired z (keeps_back n d y below r.long (eqb-false (get_or d y 0) 1 e) z p));
        room = omega (arith, r.room, ap size (live_same n (set d y (get_or d y 0 - 1)) d (λ x. keeps_same n d y below r.long (eqb-false (get_or d y 0) 1 e) (2 * x))));
        low = r.low;
      }

pub roomy_all : (n : ℕ) (ts : List ℕ) (h : Halves) → AllLow n ts → Roomy n h → Roomy n (lower_all ts h)
unfolding lower_all
roomy_all n [] h low r = r
roomy_all n (y ∷ ts) h low r = roomy_all n ts (lower y h) (λ t m. low t (Memᴰ.tail m)) (roomy_lower n h y (low y (Memᴰ.head refl)) r)

-- one more of a list
pub lower_all_snoc : (ts : List ℕ) (y : ℕ) (h : Halves) → lower_all (ts ++ (y ∷ [])) h ≡ lower y (lower_all ts h)
unfolding lower_all
lower_all_snoc [] y h = refl
lower_all_snoc (t ∷ ts) y h = lower_all_snoc ts y (lower t h)
