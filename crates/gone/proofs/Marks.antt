-- The marks in the work room: a byte that is not 0, of one of the first ids.
-- Assumes nothing.
use mathlib.Core.Bool.{Bool, true, false, not, ◌&&◌, ◌||◌, or_assoc}
use mathlib.Core.List.{List, [], ◌∷◌, ◌++◌}
use mathlib.Core.Path.{◌≡◌, refl, sym, ap, ◌∙◌}
use Prim.Native.Nat.{ℕ, ◌+◌, ◌≤◌, ◌<◌}
use native.Mathlib.Nat.{zero-add}
use native.Mathlib.Omega.{arith}
use lib.Dec.{ltb, eqb}
use lib.ListN.{length, get_or, set, replicate, length-replicate, get_or-replicate}
use lib.Seq.{sets, get_or-set_same, get_or-set_other}
use borrow.Author.Tests.{lt-ltb, le-ltb, ltb-true, eqb-true, eqb-false, eq-eqb, ne_eqb}
use Rattle.gone.specs.Marks.{marked}
use Rattle.graph.specs.Lists.{member, among}
use Rattle.le.proofs.Tables.{get_d_sets}

module _ (room : List ℕ) (n id : ℕ) (less : id < n) where
  pub stays : get_or room id 0 ≡ 0 → marked room n id ≡ false
  unfolding marked
  stays e = rw (lt-ltb id n less, eq-eqb (get_or room id 0) 0 e)

  pub goes : (get_or room id 0 ≡ 0 → ⊥) → marked room n id ≡ true
  unfolding marked
  goes h = rw (lt-ltb id n less, ne_eqb (get_or room id 0) 0 h)

pub outside : (room : List ℕ) (n id : ℕ) → n ≤ id → marked room n id ≡ false
unfolding marked
outside room n id h = rw (le-ltb id n h)

-- ---- no mark, and one mark more

pub cleared : (room : List ℕ) (n : ℕ) → n ≤ length room → marked (sets room 0 (replicate n 0)) n ≡ among []
unfolding marked
cleared room n l = λ k i. pick i (ltb i n) refl k
  where
    pick : (i : ℕ) (c : Bool) → ltb i n ≡ c → (ltb i n && not (eqb (get_or (sets room 0 (replicate n 0)) i 0) 0)) ≡ false
    pick i true e =
        let less : i < n = ltb-true i n e in
        let zeros = replicate {A = ℕ} n 0 in
        let there : get_or (sets room 0 zeros) (0 + i) 0 ≡ get_or zeros i 0 =
        get_d_sets room 0 zeros i (omega (arith, length-replicate {A = ℕ} n 0)) (omega (arith, length-replicate {A = ℕ} n 0)) in
        let zero : get_or (sets room 0 zeros) i 0 ≡ 0 =
        ap (λ (j : ℕ). get_or (sets room 0 zeros) j 0) (sym (zero-add i)) ∙ there ∙ get_or-replicate n i 0 0 less in
        rw (e, eq-eqb (get_or (sets room 0 zeros) i 0) 0 zero)
    pick i false e = rw e

or_true : (c : Bool) → (c || true) ≡ true
or_true true = refl
or_true false = refl

or_false : (c : Bool) → (c || false) ≡ c
or_false true = refl
or_false false = refl

among_next : (xs : List ℕ) (x i : ℕ) → among (xs ++ (x ∷ [])) i ≡ (among xs i || eqb i x)
among_next [] x i = or_false (eqb i x)
among_next (y ∷ ys) x i = ap (λ (c : Bool). eqb i y || c) (among_next ys x i) ∙ sym (or_assoc (eqb i y) (member i ys) (eqb i x))

pub marked_more : (room xs : List ℕ) (n id : ℕ) → id < n → id < length room → marked room n ≡ among xs → marked (set room id 1) n ≡ among (xs ++ (id ∷ []))
unfolding marked
marked_more room xs n id less inside h = λ k i. (pick i (eqb i id) refl ∙ sym (among_next xs id i)) k
  where
    pick : (i : ℕ) (c : Bool) → eqb i id ≡ c → marked (set room id 1) n i ≡ (among xs i || eqb i id)
    pick i true e =
        let q : i ≡ id = eqb-true i id e in
        let v : get_or (set room id 1) id 0 ≡ 1 = get_or-set_same room id 1 0 inside in
        ap (marked (set room id 1) n) q ∙ goes (set room id 1) n id less (λ z. omega arith) ∙ sym (ap (λ (c : Bool). among xs i || c) e ∙ or_true (among xs i))
    pick i false e =
        let q : i ≡ id → ⊥ = eqb-false i id e in
        ap (λ (v : ℕ). ltb i n && not (eqb v 0)) (get_or-set_other room id i 1 0 q) ∙ (λ k. h k i) ∙ sym (ap (λ (c : Bool). among xs i || c) e ∙ or_false (among xs i))
