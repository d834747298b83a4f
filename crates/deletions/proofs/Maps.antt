-- The map of new ids: marks, one after the other, and the numbers that follow from them.
-- Assumes nothing.
use mathlib.Core.Bool.{Bool, true, false, not, cond, ◌||◌}
use mathlib.Core.Logic.{inr}
use mathlib.Core.List.{List, [], ◌∷◌, ◌++◌}
use mathlib.Core.Path.{◌≡◌, refl, sym, ap, ◌∙◌, subst}
use Prim.Native.Nat.{ℕ, zero, suc, ◌+◌, ◌≤◌, ◌<◌}
use native.Mathlib.Omega.{arith}
use lib.Dec.{eqb}
use lib.ListN.{length, get_or, set, replicate, length-replicate, get_or-replicate}
use lib.Seq.{sets, get_or-set_same, get_or-set_other}
use borrow.Author.Tests.{eqb-true, eqb-false}
use Rattle.le.specs.Le.{Outside}
use Rattle.le.proofs.Frames.{outside_set, outside_trans, outside_wider}
use Rattle.le.proofs.Tables.{get_d_sets}
use Rattle.graph.specs.Delete.{new_id}
use Rattle.graph.specs.Lists.{among, member}
use Rattle.ledger.specs.Tables.{map_at, gone}
use Rattle.ledger.specs.Left.{Mapped, mapped}
use Rattle.deletions.specs.Sifts.{Marked, is_marked, Numbered}

-- ---- marks

pub none_marked : (W : List ℕ) (n : ℕ) → map_at + n ≤ length W → Marked (sets W map_at (replicate n 0)) n []
none_marked W n h = record {
  each = λ i l. get_d_sets W map_at (replicate n 0) i (omega (arith, length-replicate {A = ℕ} n 0)) (omega (arith, length-replicate {A = ℕ} n 0)) ∙ get_or-replicate n i 0 0 l;
}

member_append : (i : ℕ) (xs : List ℕ) (x : ℕ) → member i (xs ++ (x ∷ [])) ≡ (eqb i x || member i xs)
member_append i [] x = refl
member_append i (y ∷ xs) x = ap (λ (c : Bool). eqb i y || c) (member_append i xs x) ∙ swap (eqb i y) (eqb i x) (member i xs)
  where
    swap : (a b c : Bool) → (a || (b || c)) ≡ (b || (a || c))
    swap true true c = refl
    swap true false c = refl
    swap false true c = refl
    swap false false c = refl

pub marked_next : (W : List ℕ) (n : ℕ) (ids : List ℕ) (id : ℕ) → map_at + n ≤ length W → id < n → Marked W n ids → Marked (set W (map_at + id) 1) n (ids ++ (id ∷ []))
marked_next W n ids id h l m = record { each = λ i k. go i k (eqb i id) refl }
  where
    go : (i : ℕ) → i < n → (c : Bool) → eqb i id ≡ c → get_or (set W (map_at + id) 1) (map_at + i) 0 ≡ cond (member i (ids ++ (id ∷ []))) 1 0
    go i k true e =
        let q : i ≡ id = eqb-true i id e in
        let s : member i (ids ++ (id ∷ [])) ≡ true = member_append i ids id ∙ rw e in
        ap (λ (j : ℕ). get_or (set W (map_at + id) 1) (map_at + j) 0) q ∙ get_or-set_same W (map_at + id) 1 0 (omega arith) ∙ rw s
    go i k false e =
        let q = eqb-false i id e in
        let s : member i (ids ++ (id ∷ [])) ≡ member i ids = member_append i ids id ∙ rw e in
        get_or-set_other W (map_at + id) (map_at + i) 1 0 (λ p. q (omega arith)) ∙ m.each i k ∙ rw s

-- ---- numbers

-- the new ids of the first k, and the marks of the others
pub record Numbering (W X : List ℕ) (n k to : ℕ) : Type 0 where
  pub done : (i : ℕ) → i < k → mapped X i ≡ cond (is_marked W i) gone (new_id (is_marked W) i)
  pub count : to ≡ new_id (is_marked W) k
  pub frame : Outside map_at (map_at + k) W X

pub numbering_turn : (W X Y : List ℕ) (n k to r : ℕ) → map_at + n ≤ length W → k < n → Numbering W X n k to → Numbered X Y k to r → Numbering W Y n (k + 1) r
numbering_turn W X Y n k to r h l N T =
    let here : mapped X k ≡ mapped W k = N.frame.same (map_at + k) (inr (omega arith)) in
    let same : is_marked X k ≡ is_marked W k = ap (λ (x : ℕ). not (eqb x 0)) here in
    let long : length X ≡ length W = N.frame.long in
    let is : Y ≡ set X (map_at + k) (cond (is_marked W k) gone to) = T.words ∙ ap (λ (c : Bool). set X (map_at + k) (cond c gone to)) same in
    let s : k + 1 ≡ suc k = omega arith in
    record {
      done = λ i m. ap (λ (V₁ : List ℕ). mapped V₁ i) is ∙ go i m (eqb i k) refl long;
      count = T.next ∙ ap (λ (c : Bool). to + cond c 0 1) same ∙ ap (λ (t : ℕ). t + cond (is_marked W k) 0 1) N.count ∙ sym (ap (new_id (is_marked W)) s);
      frame = outside_trans (outside_wider (omega arith) (omega arith) N.frame)
          (subst (λ (V₁ : List ℕ). Outside map_at (map_at + (k + 1)) X V₁) (sym is) (outside_set map_at (map_at + (k + 1)) X (map_at + k) (cond (is_marked W k) gone to) (omega arith) (omega arith)));
    }
  where
    go : (i : ℕ) → i < k + 1 → (c : Bool) → eqb i k ≡ c → length X ≡ length W → get_or (set X (map_at + k) (cond (is_marked W k) gone to)) (map_at + i) 0 ≡ cond (is_marked W i) gone (new_id (is_marked W) i)
    go i m true e long =
        let q : i ≡ k = eqb-true i k e in
        ap (λ (j : ℕ). get_or (set X (map_at + k) (cond (is_marked W k) gone to)) (map_at + j) 0) q
        ∙ get_or-set_same X (map_at + k) (cond (is_marked W k) gone to) 0 (omega arith)
        ∙ ap (λ (t : ℕ). cond (is_marked W k) gone t) N.count ∙ sym (ap (λ (j : ℕ). cond (is_marked W j) gone (new_id (is_marked W) j)) q)
    go i m false e long =
        let q = eqb-false i k e in
        get_or-set_other X (map_at + k) (map_at + i) (cond (is_marked W k) gone to) 0 (λ p. q (omega arith)) ∙ N.done i (omega (arith, q))

-- ---- the map by the marks is the map by the list

new_id_same : (a b : ℕ → Bool) (n : ℕ) → ((i : ℕ) → i < n → a i ≡ b i) → new_id a n ≡ new_id b n
new_id_same a b zero h = refl
new_id_same a b (suc n) h =
    let one = new_id_same a b n (λ i l. h i (omega arith)) in
    let two = h n (omega arith) in
    λ k. one k + cond (two k) 0 1

pub mapped_by : (W X : List ℕ) (n : ℕ) (ids : List ℕ) → Marked W n ids → Mapped X (is_marked W) n → Mapped X (among ids) n
mapped_by W X n ids m p = record {
  each = λ i l.
      p.each i l ∙ (λ k. cond (same i l k) gone (new_id_same (is_marked W) (among ids) i (λ j r. same j (omega arith)) k));
}
  where
    by : (c : Bool) → not (eqb (cond {A = ℕ} c 1 0) 0) ≡ c
    by true = refl
    by false = refl

    same : (i : ℕ) → i < n → is_marked W i ≡ among ids i
    same i l = ap (λ (x : ℕ). not (eqb x 0)) (m.each i l) ∙ by (among ids i)
