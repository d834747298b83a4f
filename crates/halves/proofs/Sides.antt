-- The two sides as one: what the arcs of a half within S are, and how they change when a vertex leaves S.
-- Assumes nothing.
use mathlib.Core.Path.{◌≡◌, refl, sym, ap, ◌∙◌}
use mathlib.Core.List.{List}
use mathlib.Core.Logic.{◌⊎◌, inl, inr}
use Prim.Native.Nat.{ℕ, ◌+◌, ◌*◌, ◌%◌, ◌≤◌}
use native.Mathlib.Decide.{ℕ_discrete}
use native.Mathlib.Omega.{arith}
use lib.Dec.{T}
use borrow.Author.Tests.{eq-eqb}
use Rattle.choice.specs.Arcs.{Arc, Set, has, without, into, out, Loose}
use Rattle.choice.specs.Degrees.{between}
use Rattle.choice.proofs.Degrees.{into_without, out_without}
use Rattle.halves.specs.Halves.{vertex, mate, within, joins}

-- ---- by sides

abbrev Sides : ℕ → Type 0
Sides y = (y % 2 ≡ 0) ⊎ (y % 2 ≡ 1)

pub side : (y : ℕ) → Sides y
side y = go (ℕ_discrete (y % 2) 0)
  where
    go : Dec (y % 2 ≡ 0) → Sides y
    go (yes e) = inl e
    go (no n) = inr (omega arith)

module _ (arcs : List Arc) where
  within_in : (S : Set) (y : ℕ) → y % 2 ≡ 0 → within arcs S y ≡ into arcs S (vertex y)
  unfolding within
  within_in S y e = rw (eq-eqb (y % 2) 0 e)

  within_out : (S : Set) (y : ℕ) → y % 2 ≡ 1 → within arcs S y ≡ out arcs S (vertex y)
  unfolding within
  within_out S y e = rw (e)

  joins_in : (y z : ℕ) → y % 2 ≡ 0 → z % 2 ≡ 0 → joins arcs y z ≡ between arcs (vertex y) (vertex z)
  unfolding joins
  joins_in y z e f = rw (e, f)

  joins_out : (y z : ℕ) → y % 2 ≡ 1 → z % 2 ≡ 1 → joins arcs y z ≡ between arcs (vertex z) (vertex y)
  unfolding joins
  joins_out y z e f = rw (e, f)

  -- a list has halves of its own side only
  pub joins_other : (y z : ℕ) → (y % 2 ≡ z % 2 → ⊥) → joins arcs y z ≡ 0
  unfolding joins
  joins_other y z n = go (side y) (side z)
    where
      go : Sides y → Sides z → joins arcs y z ≡ 0
      go (inl e) (inl f) = absurd (n (e ∙ sym f))
      go (inl e) (inr f) = rw (e, f)
      go (inr e) (inl f) = rw (e, f)
      go (inr e) (inr f) = absurd (n (e ∙ sym f))

  -- ---- one vertex leaves S

  module _ (S : Set) (x : ℕ) (t : T (has S x)) where
    -- half z loses what stands of it in x's list on z's side: y is x's half there
    pub within_without : (y z : ℕ) → vertex y ≡ x → y % 2 ≡ z % 2 → within arcs S z ≡ within arcs (without x S) z + joins arcs y z
    within_without y z v e = go (side z)
      where
        go : Sides z → within arcs S z ≡ within arcs (without x S) z + joins arcs y z
        go (inl f) =
            rw (within_in S z f, within_in (without x S) z f, joins_in y z (e ∙ f) f, v)
            (into_without arcs S x t (vertex z))
        go (inr f) =
            rw (within_out S z f, within_out (without x S) z f, joins_out y z (e ∙ f) f, v)
            (out_without arcs S x t (vertex z))

    pub within_less : (z : ℕ) → within arcs (without x S) z ≤ within arcs S z
    within_less z = go (side z)
      where
        go : Sides z → within arcs (without x S) z ≤ within arcs S z
        go (inl f) = omega (arith, within_without (2 * x) z (omega arith) (omega arith))
        go (inr f) = omega (arith, within_without (2 * x + 1) z (omega arith) (omega arith))

  -- a half with nothing left within S stands in no list of a vertex of S
  pub nothing_from : (S : Set) (y z : ℕ) → T (has S (vertex z)) → within arcs S y ≡ 0 → (k : ℕ) → vertex k ≡ vertex z → k % 2 ≡ y % 2 → joins arcs k y ≡ 0
  nothing_from S y z t e k v f = omega (arith, within_without S (vertex z) t k y v f)

  -- the arcs from k's vertex to y are, seen from the other side, those from y's vertex to k
  pub joins_mate : (y z : ℕ) → joins arcs (mate z) y ≡ joins arcs (mate y) z
  joins_mate y z = go (side y) (side z)
    where
      v : (k : ℕ) → vertex (mate k) ≡ vertex k
      v k = omega arith

      go : Sides y → Sides z → joins arcs (mate z) y ≡ joins arcs (mate y) z
      go (inl e) (inl f) = joins_other (mate z) y (λ q. omega arith) ∙ sym (joins_other (mate y) z (λ q. omega arith))
      go (inl e) (inr f) =
          joins_in (mate z) y (omega arith) e ∙ (λ i. between arcs (v z i) (vertex y)) ∙ (λ i. between arcs (vertex z) (sym (v y) i))
          ∙ sym (joins_out (mate y) z (omega arith) f)
      go (inr e) (inl f) =
          joins_out (mate z) y (omega arith) e ∙ (λ i. between arcs (vertex y) (v z i)) ∙ (λ i. between arcs (sym (v y) i) (vertex z))
          ∙ sym (joins_in (mate y) z (omega arith) f)
      go (inr e) (inr f) = joins_other (mate z) y (λ q. omega arith) ∙ sym (joins_other (mate y) z (λ q. omega arith))

  -- half y has nothing left: what its vertex takes from half z of a vertex of S, y's list alone says
  pub idle_takes : (S : Set) (y z : ℕ) → T (has S (vertex y)) → T (has S (vertex z)) → within arcs S y ≡ 0
      → within arcs S z ≡ within arcs (without (vertex y) S) z + joins arcs y z
  idle_takes S y z t u e = go (ℕ_discrete (y % 2) (z % 2))
    where
      go : Dec (y % 2 ≡ z % 2) → within arcs S z ≡ within arcs (without (vertex y) S) z + joins arcs y z
      go (yes f) = within_without S (vertex y) t y z refl f
      go (no n) =
          omega (
            arith,
            within_without S (vertex y) t (mate y) z (omega arith) (omega arith),
            joins_mate y z,
            nothing_from S y z u e (mate z) (omega arith) (omega arith),
            joins_other y z n,
          )

  -- ---- what the core asks

  pub idle_loose : (S : Set) (y : ℕ) → within arcs S y ≡ 0 → Loose arcs S (vertex y)
  idle_loose S y e = go (side y)
    where
      go : Sides y → Loose arcs S (vertex y)
      go (inl f) = inl (sym (within_in S y f) ∙ e)
      go (inr f) = inr (sym (within_out S y f) ∙ e)

  pub into_half : (S : Set) (x : ℕ) → within arcs S (2 * x) ≡ into arcs S x
  into_half S x = let v : vertex (2 * x) ≡ x = omega arith in within_in S (2 * x) (omega arith) ∙ ap (into arcs S) v

  pub out_half : (S : Set) (x : ℕ) → within arcs S (2 * x + 1) ≡ out arcs S x
  out_half S x = let v : vertex (2 * x + 1) ≡ x = omega arith in within_out S (2 * x + 1) (omega arith) ∙ ap (out arcs S) v
