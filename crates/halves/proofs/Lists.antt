-- Laws of lists of halves, of degrees after a write, and of the set of live vertices.
-- Assumes nothing.
use mathlib.Core.Path.{◌≡◌, refl, sym, ap, ◌∙◌, subst}
use mathlib.Core.Bool.{Bool, true, false, ◌&&◌, not}
use mathlib.Core.List.{List, [], ◌∷◌, ◌++◌}
use mathlib.Core.Logic.{◌≢◌, ◌⊎◌, inl, inr}
use Prim.Native.Nat.{ℕ, zero, suc, ◌+◌, ◌*◌, ◌<◌}
use native.Mathlib.Decide.{ℕ_discrete}
use native.Mathlib.Nat.{eq-zero-or-pos}
use native.Mathlib.Omega.{arith}
use lib.Dec.{T, eqb}
use lib.ListN.{get_or, length-set, get_or-replicate}
use borrow.Author.Tests.{eq-eqb, ne_eqb}
use Rattle.choice.specs.Arcs.{bump, how_many, Set, has, vertices, without, size, passing, Subset}
use Rattle.choice.proofs.Sets.{set_ext, length_passing, has_passing, and_right, without_subset, stays, gone, size_without}
use Rattle.halves.specs.Halves.{times, live}

-- ---- counts

pub count_cons : {A : Type 0} (p : A → Bool) (x : A) (xs : List A) → how_many p (x ∷ xs) ≡ bump (p x) (how_many p xs)
unfolding how_many
count_cons p x xs = refl

pub count_append : {A : Type 0} (p : A → Bool) (xs ys : List A) → how_many p (xs ++ ys) ≡ how_many p xs + how_many p ys
unfolding how_many
count_append p [] ys = omega arith
count_append p (x ∷ xs) ys = go (p x) (count_append p xs ys)
  where
    go : (b : Bool) → how_many p (xs ++ ys) ≡ how_many p xs + how_many p ys → bump b (how_many p (xs ++ ys)) ≡ bump b (how_many p xs) + how_many p ys
    go true e = omega arith
    go false e = e

pub count_one : {A : Type 0} (p : A → Bool) (x : A) → how_many p (x ∷ []) ≡ bump (p x) 0
unfolding how_many
count_one p x = refl

pub times_here : (y : ℕ) (ts : List ℕ) → times y (y ∷ ts) ≡ suc (times y ts)
times_here y ts = count_cons (λ t. eqb t y) y ts ∙ ap (λ (b : Bool). bump b (times y ts)) (eq-eqb y y refl)

pub times_other : (y z : ℕ) (ts : List ℕ) → y ≢ z → times z (y ∷ ts) ≡ times z ts
times_other y z ts n = count_cons (λ t. eqb t z) y ts ∙ ap (λ (b : Bool). bump b (times z ts)) (ne_eqb y z n)

-- ---- degrees, of which some are 0

pub pos_of : (k : ℕ) → (k ≡ 0 → ⊥) → 0 < k
pos_of k n = go (eq-zero-or-pos k)
  where
    go : (k ≡ 0) ⊎ (0 < k) → 0 < k
    go (inl e) = absurd (n e)
    go (inr l) = l

-- ---- the live vertices

passing_same : (p q : ℕ → Bool) (S : Set) → ((x : ℕ) → p x ≡ q x) → passing p S ≡ passing q S
unfolding passing
passing_same p q [] h = refl
passing_same p q (b ∷ S) h = λ i. (b && h zero i) ∷ passing_same (λ v. p (suc v)) (λ v. q (suc v)) S (λ v. h (suc v)) i

passing_gone : (p q : ℕ → Bool) (S : Set) (x : ℕ) → q x ≡ false → ((u : ℕ) → u ≢ x → q u ≡ p u) → passing q S ≡ without x (passing p S)
passing_gone p q S x e h = set_ext (passing q S) (without x (passing p S)) (length_passing q S ∙ sym (length-set (passing p S) x false ∙ length_passing p S)) there back
  where
    there : Subset (passing q S) (without x (passing p S))
    there v t = go (ℕ_discrete v x)
      where
        u : T (has S v && q v)
        u = subst T (has_passing q S v) t

        go : Dec (v ≡ x) → T (has (without x (passing p S)) v)
        go (yes f) = absurd (subst T (ap q f ∙ e) (and_right (has S v) (q v) u))
        go (no n) = stays x (passing p S) v n (subst T (ap (λ (b : Bool). has S v && b) (h v n) ∙ sym (has_passing p S v)) u)

    back : Subset (without x (passing p S)) (passing q S)
    back v t = go (ℕ_discrete v x)
      where
        u : T (has S v && p v)
        u = subst T (has_passing p S v) (without_subset x (passing p S) v t)

        go : Dec (v ≡ x) → T (has (passing q S) v)
        go (yes f) = absurd (gone x (passing p S) (subst (λ (k : ℕ). T (has (without x (passing p S)) k)) f t))
        go (no n) = subst T (ap (λ (b : Bool). has S v && b) (sym (h v n)) ∙ sym (has_passing q S v)) u

pub live_same : (n : ℕ) (d e : List ℕ) → ((x : ℕ) → eqb (get_or d (2 * x) 0) 0 ≡ eqb (get_or e (2 * x) 0) 0) → live n d ≡ live n e
unfolding live
live_same n d e h = passing_same (λ x. not (eqb (get_or d (2 * x) 0) 0)) (λ x. not (eqb (get_or e (2 * x) 0) 0)) (vertices n) (λ x. ap not (h x))

pub has_live : (n : ℕ) (d : List ℕ) (x : ℕ) → x < n → has (live n d) x ≡ not (eqb (get_or d (2 * x) 0) 0)
unfolding live
has_live n d x l =
    has_passing (λ u. not (eqb (get_or d (2 * u) 0) 0)) (vertices n) x ∙ ap (λ (b : Bool). b && not (eqb (get_or d (2 * x) 0) 0)) (get_or-replicate n x true false l)

-- vertex x was live, and goes
pub live_gone : (n : ℕ) (d e : List ℕ) (x : ℕ) → x < n → 0 < get_or d (2 * x) 0 → get_or e (2 * x) 0 ≡ 0
    → ((u : ℕ) → u ≢ x → get_or e (2 * u) 0 ≡ get_or d (2 * u) 0) → suc (size (live n e)) ≡ size (live n d)
live_gone n d e x l p z h = ap (λ (U : Set). suc (size U)) w ∙ size_without x (live n d) t
  where
    w : live n e ≡ without x (live n d)
    w = unfold live in
        passing_gone (λ u. not (eqb (get_or d (2 * u) 0) 0)) (λ u. not (eqb (get_or e (2 * u) 0) 0)) (vertices n) x
        (ap not (eq-eqb (get_or e (2 * x) 0) 0 z)) (λ u q. ap (λ (k : ℕ). not (eqb k 0)) (h u q))

    t : T (has (live n d) x)
    t = subst T (sym (has_live n d x l ∙ ap not (ne_eqb (get_or d (2 * x) 0) 0 (λ q. omega arith)))) tt
