-- The degrees after one is lowered, place by place: where it does not run out the same places are 0; where it does, both halves of its vertex.
-- Assumes nothing.
use mathlib.Core.Path.{◌≡◌, refl, sym, ap, ◌∙◌}
use mathlib.Core.List.{List}
use mathlib.Core.Logic.{◌≢◌}
use Prim.Native.Nat.{ℕ, zero, suc, ◌-◌, ◌*◌, ◌<◌}
use native.Mathlib.Decide.{ℕ_discrete}
use native.Mathlib.Omega.{arith}
use lib.Dec.{eqb}
use lib.ListN.{length, get_or, set, length-set}
use lib.Seq.{get_or-set_same, get_or-set_other}
use borrow.Author.Tests.{eq-eqb, ne_eqb}
use Rattle.choice.specs.Arcs.{size}
use Rattle.halves.specs.Halves.{vertex, mate, live}
use Rattle.halves.proofs.Lists.{pos_of, live_gone}

module _ (n : ℕ) (d : List ℕ) (y : ℕ) (low : y < 2 * n) (long : length d ≡ 2 * n) where
  -- ---- half y does not run out

  abbrev pub less_one : List ℕ
  less_one = set d y (get_or d y 0 - 1)

  pub keeps_here : get_or (set d y (get_or d y 0 - 1)) y 0 ≡ get_or d y 0 - 1
  keeps_here = get_or-set_same d y (get_or d y 0 - 1) 0 (omega arith)

  pub keeps_other : (z : ℕ) → z ≢ y → get_or (set d y (get_or d y 0 - 1)) z 0 ≡ get_or d z 0
  keeps_other z p = get_or-set_other d y z (get_or d y 0 - 1) 0 p

  pub keeps_zero : (z : ℕ) → get_or d z 0 ≡ 0 → get_or (set d y (get_or d y 0 - 1)) z 0 ≡ 0
  keeps_zero z p = go (ℕ_discrete z y)
    where
      go : Dec (z ≡ y) → get_or less_one z 0 ≡ 0
      go (yes f) = rw f (omega (arith, keeps_here, sym (ap (λ (k : ℕ). get_or d k 0) f)))
      go (no f) = keeps_other z f ∙ p

  pub keeps_back : get_or d y 0 ≢ 1 → (z : ℕ) → get_or (set d y (get_or d y 0 - 1)) z 0 ≡ 0 → get_or d z 0 ≡ 0
  keeps_back more z p = go (ℕ_discrete z y)
    where
      sub : (k : ℕ) → k ≢ 1 → k - 1 ≡ 0 → k ≡ 0
      sub zero m o = refl
      sub (suc zero) m o = absurd (m refl)
      sub (suc (suc k)) m o = omega arith

      go : Dec (z ≡ y) → get_or d z 0 ≡ 0
      go (yes f) =
          let k : get_or less_one y 0 ≡ 0 = ap (λ (k : ℕ). get_or less_one k 0) (sym f) ∙ p in
          rw f (sub (get_or d y 0) more (omega (arith, keeps_here)))
      go (no f) = sym (keeps_other z f) ∙ p

  pub keeps_same : get_or d y 0 ≢ 1 → (z : ℕ) → eqb (get_or (set d y (get_or d y 0 - 1)) z 0) 0 ≡ eqb (get_or d z 0) 0
  keeps_same more z = go (ℕ_discrete (get_or d z 0) 0)
    where
      go : Dec (get_or d z 0 ≡ 0) → eqb (get_or less_one z 0) 0 ≡ eqb (get_or d z 0) 0
      go (yes f) = eq-eqb (get_or less_one z 0) 0 (keeps_zero z f) ∙ sym (eq-eqb (get_or d z 0) 0 f)
      go (no f) = ne_eqb (get_or less_one z 0) 0 (λ p. f (keeps_back more z p)) ∙ sym (ne_eqb (get_or d z 0) 0 f)

  -- ---- it does

  abbrev pub both_out : List ℕ
  both_out = set (set d y 0) (mate y) 0

  pub goes_other : (z : ℕ) → vertex z ≢ vertex y → get_or (set (set d y 0) (mate y) 0) z 0 ≡ get_or d z 0
  goes_other z p = get_or-set_other (set d y 0) (mate y) z 0 0 (λ f. p (omega arith)) ∙ get_or-set_other d y z 0 0 (λ f. p (omega arith))

  -- a half of y's vertex is y or its mate
  pub goes_none : (z : ℕ) → vertex z ≡ vertex y → get_or (set (set d y 0) (mate y) 0) z 0 ≡ 0
  goes_none z p = go (ℕ_discrete z y)
    where
      here : get_or both_out y 0 ≡ 0
      here = get_or-set_other (set d y 0) (mate y) y 0 0 (λ f. omega arith) ∙ get_or-set_same d y 0 0 (omega arith)

      there : get_or both_out (mate y) 0 ≡ 0
      there = get_or-set_same (set d y 0) (mate y) 0 0 (rw length-set (omega arith))

      go : Dec (z ≡ y) → get_or both_out z 0 ≡ 0
      go (yes f) = ap (λ (k : ℕ). get_or both_out k 0) f ∙ here
      go (no f) = let g : z ≡ mate y = omega arith in ap (λ (k : ℕ). get_or both_out k 0) g ∙ there

  module _ (paired : (z : ℕ) → get_or d z 0 ≡ 0 → get_or d (mate z) 0 ≡ 0) where
    pub goes_paired : (z : ℕ) → get_or (set (set d y 0) (mate y) 0) z 0 ≡ 0 → get_or (set (set d y 0) (mate y) 0) (mate z) 0 ≡ 0
    goes_paired z p = go (ℕ_discrete (vertex z) (vertex y))
      where
        go : Dec (vertex z ≡ vertex y) → get_or both_out (mate z) 0 ≡ 0
        go (yes f) = goes_none (mate z) (omega arith)
        go (no f) = goes_other (mate z) (λ g. f (omega arith)) ∙ paired z (sym (goes_other z f) ∙ p)

    -- both halves were above 0
    pub goes_full : get_or d y 0 ≡ 1 → (z : ℕ) → vertex z ≡ vertex y → 0 < get_or d z 0
    goes_full last z p = pos_of (get_or d z 0) (λ k. go k (ℕ_discrete z y))
      where
        go : get_or d z 0 ≡ 0 → Dec (z ≡ y) → ⊥
        go k (yes f) = omega (arith, ap (λ (k : ℕ). get_or d k 0) f)
        go k (no f) = let g : mate z ≡ y = omega arith in omega (arith, paired z k, ap (λ (k : ℕ). get_or d k 0) g)

    -- one live vertex less
    pub goes_live : get_or d y 0 ≡ 1 → suc (size (live n (set (set d y 0) (mate y) 0))) ≡ size (live n d)
    goes_live last =
        live_gone n d both_out (vertex y) (omega arith) (goes_full last (2 * vertex y) (omega arith)) (goes_none (2 * vertex y) (omega arith))
        (λ u k. goes_other (2 * u) (λ f. k (omega arith)))
