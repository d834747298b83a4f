-- The dearest drawing of a range: priced, no other is dearer, and each before it is cheaper.
-- Assumes nothing.
use mathlib.Core.Path.{◌≡◌, refl, sym, ap, ◌∙◌}
use mathlib.Core.Bool.{Bool, true, false, cond}
use mathlib.Core.List.{List, [], ◌∷◌}
use mathlib.Core.Logic.{◌⊎◌, inl, inr}
use Prim.Native.Nat.{ℕ, zero, suc, ◌+◌, ◌≤◌, ◌<◌, suc-le-suc}
use native.Mathlib.Nat.{le_refl, add-zero, not-suc-le-zero, zero-lt-suc}
use native.Mathlib.Omega.{arith}
use lib.Dec.{ltb}
use lib.ListN.{length}
use borrow.Author.Tests.{ltb-true, ltb-false}
use Rattle.graph.specs.Answer.{Answer, refused, answered}
use Rattle.graph.proofs.Steps.{never, same_answer}
use Rattle.catalogue.specs.Dearests.{PricedAt, first, later, FirstDearest}
use Rattle.catalogue.specs.Price.{Priced}
use Rattle.catalogue.specs.Range.{Dearest, none, at, dearest_of}

nothing_priced : {k : ℕ} {p : Priced} → PricedAt [] k p → ⊥
nothing_priced = elim [ ]

-- and k is one of the drawings
pub priced_place : {answers : List (Answer Priced)} {k : ℕ} {p : Priced} → PricedAt answers k p → k < length answers
priced_place (first {more = more}) = zero-lt-suc (length more)
priced_place (later x) = suc-le-suc (priced_place x)

-- no answer is above m, or one that is the dearest
abbrev Cheap : List (Answer Priced) → ℕ → Type 0
Cheap answers m = (j : ℕ) (p : Priced) → PricedAt answers j p → p.total ≤ m

-- going on from a dearest so far of total m, and place i: it stays, or a dearer one is found
abbrev Goes : List (Answer Priced) → ℕ → ℕ → ℕ → Dearest → Type 0
Goes answers i j m d = ((d ≡ at j m) × Cheap answers m) ⊎ ((k n : ℕ) × (d ≡ at (i + k) n) × (m < n) × FirstDearest answers k n)

-- a price stands first, or among the rest
abbrev Split : Answer Priced → List (Answer Priced) → ℕ → Priced → Type 0
Split a more k p = ((k ≡ zero) × (a ≡ answered p)) ⊎ ((l : ℕ) × (k ≡ suc l) × PricedAt more l p)

split : {a : Answer Priced} {more : List (Answer Priced)} {k : ℕ} {p : Priced} → PricedAt (a ∷ more) k p → Split a more k p
split first = inl (refl, refl)
split (later {k = l} x) = inr (l, refl, x)

-- a dearest of the rest is one of all, where the first is refused or cheaper
behind : (a : Answer Priced) (more : List (Answer Priced)) (k n : ℕ) → ((p : Priced) → a ≡ answered p → p.total < n) → FirstDearest more k n → FirstDearest (a ∷ more) (suc k) n
behind a more k n low f = record {
  drawing = f.drawing;
  there = later f.there;
  costs = f.costs;
  most = λ l p x. most l p (split x);
  cheaper = λ l p b x. cheaper l p b (split x);
}
  where
    most : (l : ℕ) (p : Priced) → Split a more l p → p.total ≤ n
    most l p (inl h) = omega (arith, low p h.1)
    most l p (inr h) = f.most h.0 p h.2

    cheaper : (l : ℕ) (p : Priced) → l < suc k → Split a more l p → p.total < n
    cheaper l p b (inl h) = low p h.1
    cheaper l p b (inr h) = f.cheaper h.0 p (omega (arith, h.1)) h.2

-- one refused, or not dearer than m, goes before
skip : (a : Answer Priced) (more : List (Answer Priced)) (i j m : ℕ) (d : Dearest) → ((p : Priced) → a ≡ answered p → p.total ≤ m)
    → Goes more (suc i) j m d → Goes (a ∷ more) i j m d
skip a more i j m d low (inl h) = inl (h.0, λ k p x. go k p (split x))
  where
    go : (k : ℕ) (p : Priced) → Split a more k p → p.total ≤ m
    go k p (inl q) = low p q.1
    go k p (inr q) = h.1 q.0 p q.2
skip a more i j m d low (inr h) =
    let e : suc i + h.0 ≡ i + suc h.0 = omega arith in
    inr (suc h.0, h.1, h.2 ∙ ap (λ (x : ℕ). at x h.1) e, h.3, behind a more h.0 h.1 (λ p q. omega (arith, low p q, h.3)) h.4)

-- one is dearest so far, and goes before
head : (p : Priced) (more : List (Answer Priced)) (i : ℕ) (d : Dearest) → Goes more (suc i) i p.total d
    → (k n : ℕ) × (d ≡ at (i + k) n) × (p.total ≤ n) × FirstDearest (answered p ∷ more) k n
head p more i d (inl h) = (
  zero,
  p.total,
  h.0 ∙ ap (λ (x : ℕ). at x p.total) (sym (add-zero i)),
  le_refl p.total,
  record {
    drawing = p;
    there = first;
    costs = refl;
    most = λ l q x. most l q (split x);
    cheaper = λ l q b x. absurd (not-suc-le-zero b);
  },
)
  where
    most : (l : ℕ) (q : Priced) → Split (answered p) more l q → q.total ≤ p.total
    most l q (inl z) = omega (arith, ap (λ (x : Priced). x.total) (same_answer z.1))
    most l q (inr z) = h.1 z.0 q z.2
head p more i d (inr h) =
    let e : suc i + h.0 ≡ i + suc h.0 = omega arith in (
      suc h.0,
      h.1,
      h.2 ∙ ap (λ (x : ℕ). at x h.1) e,
      omega (arith, h.3),
      behind (answered p) more h.0 h.1 (λ q z. omega (arith, h.3, ap (λ (x : Priced). x.total) (same_answer z))) h.4,
    )

from_one : (answers : List (Answer Priced)) (i j m : ℕ) → Goes answers i j m (dearest_of (at j m) i answers)
unfolding dearest_of
from_one [] i j m = inl (refl, λ k p x. absurd (nothing_priced x))
from_one (refused n ∷ more) i j m = skip (refused n) more i j m _ (λ p e. absurd (never e)) (from_one more (suc i) j m)
from_one (answered p ∷ more) i j m = go (ltb m p.total) refl (from_one more (suc i) j m) (from_one more (suc i) i p.total)
  where
    go : (b : Bool) → ltb m p.total ≡ b → Goes more (suc i) j m (dearest_of (at j m) (suc i) more) → Goes more (suc i) i p.total (dearest_of (at i p.total) (suc i) more)
        → Goes (answered p ∷ more) i j m (dearest_of (cond b (at i p.total) (at j m)) (suc i) more)
    go true e r s =
        let h = head p more i _ s in inr (h.0, h.1, h.2, omega (arith, h.3, ltb-true m p.total e), h.4)
    go false e r s = skip (answered p) more i j m _ (λ q z. omega (arith, ltb-false m p.total e, ap (λ (x : Priced). x.total) (same_answer z))) r

-- no dearest is named where none is priced, and otherwise the first of the dearest is
pub dearest_found : (answers : List (Answer Priced)) (i : ℕ)
    → ((dearest_of none i answers ≡ none) × ((k : ℕ) (p : Priced) → PricedAt answers k p → ⊥)) ⊎ ((k n : ℕ) × (dearest_of none i answers ≡ at (i + k) n) × FirstDearest answers k n)
unfolding dearest_of
dearest_found [] i = inl (refl, λ k p x. nothing_priced x)
dearest_found (answered p ∷ more) i = let h = head p more i _ (from_one more (suc i) i p.total) in inr (h.0, h.1, h.2, h.4)
dearest_found (refused n ∷ more) i = go (dearest_found more (suc i))
  where
    off : ((k : ℕ) (p : Priced) → PricedAt more k p → ⊥) → (k : ℕ) (p : Priced) → Split (refused n) more k p → ⊥
    off h k p (inl z) = never z.1
    off h k p (inr z) = h z.0 p z.2

    go : ((dearest_of none (suc i) more ≡ none) × ((k : ℕ) (p : Priced) → PricedAt more k p → ⊥)) ⊎ ((k m : ℕ) × (dearest_of none (suc i) more ≡ at (suc i + k) m) × FirstDearest more k m)
        → ((dearest_of none (suc i) more ≡ none) × ((k : ℕ) (p : Priced) → PricedAt (refused n ∷ more) k p → ⊥)) ⊎ ((k m : ℕ) × (dearest_of none (suc i) more ≡ at (i + k) m) × FirstDearest (refused n ∷ more) k m)
    go (inl h) = inl (h.0, λ k p x. off h.1 k p (split x))
    go (inr h) =
        let e : suc i + h.0 ≡ i + suc h.0 = omega arith in
        inr (suc h.0, h.1, h.2 ∙ ap (λ (x : ℕ). at x h.1) e, behind (refused n) more h.0 h.1 (λ p z. absurd (never z)) h.3)
