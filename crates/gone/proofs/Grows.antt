-- What a loop has counted or written after each turn: parts that stay, with their new ids.
-- Assumes nothing.
use mathlib.Core.Bool.{Bool, true, false, not, cond, ◌&&◌}
use mathlib.Core.List.{List, [], ◌∷◌, ◌++◌, map, append-nil}
use mathlib.Core.Path.{◌≡◌, refl, sym, ap, ◌∙◌}
use Prim.Native.Nat.{ℕ, zero, suc, ◌+◌, ◌*◌}
use native.Mathlib.Numerals.{add-one}
use native.Mathlib.Omega.{arith}
use lib.ListN.{length, get_or, take}
use lib.Seq.{length-take-le}
use Rattle.le.specs.Rows.{entry, span, puts}
use Rattle.le.specs.declared.Row.{Row}
use Rattle.le.proofs.Rows.{length_span, span_append, span_next}
use Rattle.graph.specs.Delete.{remaining, new_id, renamed, renamed_edge, renamed_pairs}
use Rattle.graph.specs.Form.{no_edge}
use Rattle.graph.specs.Graph.{Edge}
use Rattle.graph.specs.Lists.{joined, keep, paired, flat}
use Rattle.graph.proofs.Laws.{joined_append}
use Rattle.graph.proofs.Lists.{flat_append}
use Rattle.graph.proofs.Rows.{take_edges}
use Rattle.write.specs.Write.{Put}
use Rattle.write.proofs.Grows.{Grows, remaining_next, each_grow, span_two}

-- ---- a part of a row that is counted or copied unless a test holds

module _ (b : List ℕ) (r : Row) (k n m : ℕ) (c : Bool) (xs : List ℕ) (is : span b r k n ≡ xs) (e : m ≡ cond c 0 n) where
  unless_is : span b r k m ≡ cond c [] xs
  unfolding span
  unless_is = ap (span b r k) e ∙ pick c
    where
      pick : (c : Bool) → span b r k (cond c 0 n) ≡ cond c [] xs
      pick true = refl
      pick false = is

  pub unless_long : m ≡ length (cond c [] xs)
  unless_long = sym (length_span b r k m) ∙ ap length unless_is

  pub put_unless : {out new : List ℕ} {to : Row} {j : ℕ} → new ≡ puts out to j (span b r k m) → Put out to j (cond c [] xs) new (j + m)
  put_unless {out} {new} {to} {j} h = record { stored = h ∙ ap (puts out to j) unless_is; next = ap (λ (n : ℕ). j + n) unless_long }

-- ---- what stays of a list of entries, and of their ids

kept_append : {A B : Type 0} (f : A → B) (test : A → Bool) (xs ys : List A) → map f (keep test (xs ++ ys)) ≡ map f (keep test xs) ++ map f (keep test ys)
kept_append f test [] ys = refl
kept_append {A} {B} f test (x ∷ xs) ys = pick (test x) (kept_append f test xs ys)
  where
    pick : (c : Bool) → map f (keep test (xs ++ ys)) ≡ map f (keep test xs) ++ map f (keep test ys)
        → map f (cond c (x ∷ keep test (xs ++ ys)) (keep test (xs ++ ys))) ≡ map f (cond c (x ∷ keep test xs) (keep test xs)) ++ map f (keep test ys)
    pick true k = ap (λ (r : List B). f x ∷ r) k
    pick false k = k

paired_append : (n : ℕ) (xs ys : List ℕ) → length xs ≡ 2 * n → paired (xs ++ ys) ≡ paired xs ++ paired ys
paired_append n [] ys e = refl
paired_append n (x ∷ []) ys e = absurd (omega arith)
paired_append zero (x ∷ y ∷ xs) ys e = absurd (omega arith)
paired_append (suc n) (x ∷ y ∷ xs) ys e = ap (λ (l : List (ℕ × ℕ)). (x, y) ∷ l) (paired_append n xs ys (omega arith))

-- ---- by a test which ids go

module _ (goes : ℕ → Bool) where
  pub new_id_more : (i : ℕ) → new_id goes (i + 1) ≡ new_id goes i + cond (goes i) 0 1
  new_id_more i = ap (new_id goes) (add-one i)

  pub one_stays : (id : ℕ) → length (renamed goes (id ∷ [])) ≡ cond (goes id) 0 1
  one_stays id = pick (goes id)
    where
      pick : (c : Bool) → length (map (new_id goes) (cond (not c) (id ∷ []) [])) ≡ cond c 0 1
      pick true = refl
      pick false = refl

  pub pair_stays : (v w : ℕ) → length {A = ℕ × ℕ} (renamed_pairs goes ((v, w) ∷ [])) ≡ cond (goes v) 0 (cond (goes w) 0 1)
  pair_stays v w = pick (goes v) (goes w)
    where
      pick : (c d : Bool) → length {A = ℕ × ℕ} (map (λ (p : ℕ × ℕ). (new_id goes p.0, new_id goes p.1)) (cond (not c && not d) ((v, w) ∷ []) [])) ≡ cond c 0 (cond d 0 1)
      pick true d = refl
      pick false true = refl
      pick false false = refl

  -- a pair of the row: its new ids, or none
  pub pair_moved : (b : List ℕ) (r : Row) (k : ℕ) → flat (renamed_pairs goes (paired (span b r k 2)))
      ≡ cond (goes (entry b r k)) [] (cond (goes (entry b r (k + 1))) [] (new_id goes (entry b r k) ∷ new_id goes (entry b r (k + 1)) ∷ []))
  pair_moved b r k = ap (λ (l : List ℕ). flat (renamed_pairs goes (paired l))) (span_two b r k) ∙ pick (entry b r k) (entry b r (k + 1)) (goes (entry b r k)) (goes (entry b r (k + 1)))
    where
      pick : (v w : ℕ) (c d : Bool) → flat (map (λ (p : ℕ × ℕ). (new_id goes p.0, new_id goes p.1)) (cond (not c && not d) ((v, w) ∷ []) []))
          ≡ cond c [] (cond d [] (new_id goes v ∷ new_id goes w ∷ []))
      pick v w true d = refl
      pick v w false true = refl
      pick v w false false = refl

  -- an id that goes, and one that stays
  pub gone : (id : ℕ) → goes id ≡ true → renamed goes (id ∷ []) ≡ []
  gone id e = rw e

  pub kept : (id : ℕ) → goes id ≡ false → renamed goes (id ∷ []) ≡ new_id goes id ∷ []
  kept id e = rw e

  pub edges_grow : {B : Type 0} (part : Edge → List B) (es : List Edge)
      → Grows (λ i. joined part (remaining goes 0 (take i es))) (λ i. cond (goes i) [] (part (get_or es i no_edge))) (length es)
  edges_grow {B} part es = record {
    more = λ i l.
        let first = remaining goes 0 (take i es) in
        ap (λ (l : List Edge). joined part (remaining goes 0 l)) (take_edges es i l)
        ∙ ap (joined part) (remaining_next goes (take i es) (get_or es i no_edge) i (length-take-le i es (omega arith)))
        ∙ joined_append part first (cond (goes i) [] (get_or es i no_edge ∷ [])) ∙ ap (λ (l : List B). joined part first ++ l) (pick (get_or es i no_edge) (goes i));
  }
    where
      pick : (e : Edge) (c : Bool) → joined part (cond c [] (e ∷ [])) ≡ cond c [] (part e)
      pick e true = refl
      pick e false = append-nil (part e)

  pub renamed_append : (xs ys : List ℕ) → renamed goes (xs ++ ys) ≡ renamed goes xs ++ renamed goes ys
  renamed_append = kept_append (new_id goes) (λ id. not (goes id))

  pub ids_grow : (b : List ℕ) (r : Row) (k n : ℕ) → Grows (λ i. renamed goes (span b r k i)) (λ i. renamed goes (entry b r (k + i) ∷ [])) n
  ids_grow b r k n = record { more = λ i l. ap (renamed goes) (span_next b r k i) ∙ renamed_append (span b r k i) (entry b r (k + i) ∷ []) }

  pub moved_grow : {B : Type 0} (part : Edge → List B) (es : List Edge)
      → Grows (λ i. joined part (map (renamed_edge goes) (take i es))) (λ i. part (renamed_edge goes (get_or es i no_edge))) (length es)
  moved_grow = each_grow (renamed_edge goes)

  -- ---- pairs

  module _ (b : List ℕ) (r : Row) (k n : ℕ) where
    pub pairs_grow : Grows (λ i. renamed_pairs goes (paired (span b r k (2 * i)))) (λ i. renamed_pairs goes (paired (span b r (k + 2 * i) 2))) n
    pairs_grow = record {
      more = λ i l.
          let e : 2 * (i + 1) ≡ 2 * i + 2 = omega arith in
          ap (λ (m : ℕ). renamed_pairs goes (paired (span b r k m))) e ∙ ap (λ (l : List ℕ). renamed_pairs goes (paired l)) (span_append b r k (2 * i) 2)
          ∙ ap (renamed_pairs goes) (paired_append i (span b r k (2 * i)) _ (length_span b r k (2 * i)))
          ∙ kept_append (λ (p : ℕ × ℕ). (new_id goes p.0, new_id goes p.1)) (λ p. not (goes p.0) && not (goes p.1)) (paired (span b r k (2 * i)))
          (paired (span b r (k + 2 * i) 2));
    }

    pub flat_grow : Grows (λ i. flat (renamed_pairs goes (paired (span b r k (2 * i))))) (λ i. flat (renamed_pairs goes (paired (span b r (k + 2 * i) 2)))) n
    flat_grow = record { more = λ i l. ap flat (pairs_grow.more i l) ∙ flat_append (renamed_pairs goes (paired (span b r k (2 * i)))) _ }
