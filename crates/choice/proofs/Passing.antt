-- Laws of the numbers that pass a test: the list ascends, has just those, and is the one that ascends and has them.
-- Assumes nothing.
use mathlib.Core.Bool.{Bool, true, false, cond}
use mathlib.Core.List.Memᴰ
use mathlib.Core.List.{List, [], ◌∷◌, ◌++◌, append-nil}
use mathlib.Core.Logic.{⊎_elim, ◌↔◌}
use mathlib.Core.Path.{◌≡◌, refl, sym, ap, ◌∙◌, subst}
use Prim.Native.Nat.{ℕ, zero, suc, ◌+◌, ◌-◌, ◌≤◌, ◌<◌}
use native.Mathlib.Decide.{dec_lt}
use native.Mathlib.Nat.{not-suc-le-zero}
use native.Mathlib.Numerals.{add-one}
use native.Mathlib.Omega.{arith}
use lib.ListN.{length, length-append}
use Rattle.choice.specs.Arcs.{In}
use Rattle.choice.specs.Choice.{Above, Ascends}
use Rattle.choice.specs.Passing.{shown, shown_below}
use Rattle.choice.proofs.Ascending.{ascends_ext}

above_snoc : (y : ℕ) (xs : List ℕ) (k : ℕ) → Above y xs → y < k → ((x : ℕ) → In x xs → x < k) → Above y (xs ++ (k ∷ []))
above_snoc y [] k a l h = (l, tt)
above_snoc y (x ∷ xs) k a l h = (a.0, above_snoc x xs k a.1 (h x (Memᴰ.head refl)) (λ z i. h z (Memᴰ.tail i)))

ascends_snoc : (xs : List ℕ) (k : ℕ) → Ascends xs → ((x : ℕ) → In x xs → x < k) → Ascends (xs ++ (k ∷ []))
ascends_snoc [] k a h = tt
ascends_snoc (x ∷ xs) k a h = above_snoc x xs k a (h x (Memᴰ.head refl)) (λ z i. h z (Memᴰ.tail i))

module _ (p : ℕ → Bool) where
  pub shown_no : (v : ℕ) → p v ≡ false → shown p v ≡ []
  shown_no v e = ap (λ (b : Bool). cond b (v ∷ []) []) e

  pub shown_yes : (v : ℕ) → p v ≡ true → shown p v ≡ v ∷ []
  shown_yes v e = ap (λ (b : Bool). cond b (v ∷ []) []) e

  -- x is shown: it is v, and passes
  shown_in : (v x : ℕ) → In x (shown p v) → (x ≡ v) × (p x ≡ true)
  shown_in v x k = go (p v) refl
    where
      go : (b : Bool) → p v ≡ b → (x ≡ v) × (p x ≡ true)
      go false f = absurd (Memᴰ.not-nil (subst (λ (l : List ℕ). In x l) (shown_no v f) k))
      go true f = let e = Memᴰ.eq_of_singleton (subst (λ (l : List ℕ). In x l) (shown_yes v f) k) in (e, ap p e ∙ f)

  below_in : (k x : ℕ) → In x (shown_below p k) → (x < k) × (p x ≡ true)
  below_in zero x i = absurd (Memᴰ.not-nil i)
  below_in (suc k) x i =
      ⊎_elim (λ h. let r = below_in k x h in (omega (arith, r.0), r.1)) (λ h. let r = shown_in k x h in (omega (arith, r.0), r.1)) (Memᴰ.append_cases (shown_below p k) i)

  in_below : (k x : ℕ) → x < k → p x ≡ true → In x (shown_below p k)
  in_below zero x l f = absurd (not-suc-le-zero l)
  in_below (suc k) x l f = go (λ h. in_below k x h f) (dec_lt x k)
    where
      go : (x < k → In x (shown_below p k)) → Dec (x < k) → In x (shown_below p k ++ shown p k)
      go r (yes h) = Memᴰ.append_left (shown p k) (r h)
      go r (no h) =
          let e : x ≡ k = omega arith in
          Memᴰ.append_right (shown_below p k) (subst (λ (l : List ℕ). In x l) (sym (shown_yes k (ap p (sym e) ∙ f))) (Memᴰ.head e))

  below_ascends : (k : ℕ) → Ascends (shown_below p k)
  below_ascends zero = tt
  below_ascends (suc k) = go (below_ascends k) (p k) refl
    where
      go : Ascends (shown_below p k) → (b : Bool) → p k ≡ b → Ascends (shown_below p k ++ shown p k)
      go r false e = subst Ascends (sym (ap (λ (l : List ℕ). shown_below p k ++ l) (shown_no k e) ∙ append-nil (shown_below p k))) r
      go r true e = subst (λ (l : List ℕ). Ascends (shown_below p k ++ l)) (sym (shown_yes k e)) (ascends_snoc (shown_below p k) k r (λ x i. (below_in k x i).0))

  -- the list that ascends and has just those
  pub shown_are : (k : ℕ) (ids : List ℕ) → Ascends ids → ((x : ℕ) → In x ids → x < k) → ((x : ℕ) → x < k → (p x ≡ true) ↔ In x ids) → shown_below p k ≡ ids
  shown_are k ids up low same =
      ascends_ext (shown_below p k) ids (below_ascends k) up (λ x i. let r = below_in k x i in (same x r.0).0 r.1) (λ x i. let l = low x i in in_below k x l ((same x l).1 i))

  -- ---- one after the other

  pub shown_next : (v : ℕ) → shown_below p (v + 1) ≡ shown_below p v ++ shown p v
  shown_next v = ap (shown_below p) (add-one v)

  fewer : (v d : ℕ) → length (shown_below p v) ≤ length (shown_below p (d + v))
  fewer v zero = let e : 0 + v ≡ v = omega arith in subst (λ (k : ℕ). length (shown_below p v) ≤ length (shown_below p k)) (sym e) (omega arith)
  fewer v (suc d) =
      let e : suc d + v ≡ suc (d + v) = omega arith in
      subst (λ (k : ℕ). length (shown_below p v) ≤ length (shown_below p k)) (sym e) (omega (arith, fewer v d, length-append (shown_below p (d + v)) (shown p (d + v))))

  -- the next has its place among all
  pub shown_fits : (v k : ℕ) → v < k → length (shown_below p v) + length (shown p v) ≤ length (shown_below p k)
  shown_fits v k l =
      let e : k - (v + 1) + (v + 1) ≡ k = omega arith in
      omega (arith, fewer (v + 1) (k - (v + 1)), ap (λ (j : ℕ). length (shown_below p j)) e, ap length (shown_next v), length-append (shown_below p v) (shown p v))
