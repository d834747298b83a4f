-- Lists that grow part by part: what a loop has counted or written after each turn.
-- Assumes nothing.
use mathlib.Core.Bool.{Bool, true, false, cond}
use mathlib.Core.List.{List, [], ◌∷◌, ◌++◌, map, map-append, append-nil}
use mathlib.Core.Path.{◌≡◌, sym, ap, ◌∙◌, subst}
use Prim.Native.Nat.{ℕ, zero, suc, ◌+◌, ◌-◌, ◌≤◌, ◌<◌}
use native.Mathlib.Nat.{add-zero, zero-add}
use native.Mathlib.Omega.{arith}
use lib.ListN.{length, get_or, take, drop, length-append}
use Rattle.le.specs.Le.{Below}
use Rattle.le.specs.Rows.{Holds, entry, span, puts}
use Rattle.le.specs.declared.Row.{Row}
use Rattle.le.proofs.Numbers.{below_take, below_drop}
use Rattle.le.proofs.Rows.{holds_less, holds_same, length_span, span_one, span_next, span_part, length_puts}
use Rattle.graph.specs.Delete.{remaining, new_id}
use Rattle.graph.specs.Form.{no_edge}
use Rattle.graph.specs.Graph.{Edge}
use Rattle.graph.specs.Lists.{joined}
use Rattle.graph.proofs.Kept.{length_remaining}
use Rattle.graph.proofs.Laws.{joined_append}
use Rattle.graph.proofs.Rows.{take_edges}
use Rattle.write.specs.Write.{Put}
use Rattle.write.proofs.Results.{put_then}

-- the list after i turns, and what turn i adds, for n turns
pub record Grows {A : Type 0} (so piece : ℕ → List A) (n : ℕ) : Type 0 where
  pub more : (i : ℕ) → i < n → so (i + 1) ≡ so i ++ piece i

module _ {A : Type 0} {so piece : ℕ → List A} {n : ℕ} (h : Grows so piece n) where
  pub count_more : (i : ℕ) → i < n → length (so (i + 1)) ≡ length (so i) + length (piece i)
  count_more i l = ap length (h.more i l) ∙ length-append (so i) (piece i)

  within : (i k : ℕ) → i + k ≤ n → length (so i) ≤ length (so (i + k))
  within i zero l = rw add-zero (omega arith)
  within i (suc k) l =
      let e : i + suc k ≡ (i + k) + 1 = omega arith in
      rw e (omega (arith, within i k (omega arith), count_more (i + k) (omega arith)))

  pub count_fits : (i : ℕ) → i < n → length (so i) + length (piece i) ≤ length (so n)
  count_fits i l =
      let e : (i + 1) + (n - (i + 1)) ≡ n = omega arith in
      omega (arith, count_more i l, ap (λ (k : ℕ). length (so k)) e, within (i + 1) (n - (i + 1)) (omega arith))

pub put_length : {old : List ℕ} {r : Row} {k : ℕ} {ns new : List ℕ} {next : ℕ} → Put old r k ns new next → length new ≡ length old
put_length {old} {r} {k} {ns} p = ap length p.stored ∙ length_puts old r k ns

-- a turn of a loop that writes
module _ {so piece : ℕ → List ℕ} {n : ℕ} (h : Grows so piece n) {old out : List ℕ} {r : Row} {first i j : ℕ} (l : i < n) (p : Put old r first (so i) out j) where
  pub put_more : {new : List ℕ} {end : ℕ} → Put out r j (piece i) new end → Put old r first (so (i + 1)) new end
  put_more q =
      let both = put_then p q in
      record { stored = both.stored ∙ ap (puts old r first) (sym (h.more i l)); next = both.next ∙ ap (λ (k : List ℕ). first + length k) (sym (h.more i l)) }

  pub put_fits : Holds old r (first + length (so n)) → Holds out r (j + length (piece i))
  put_fits room =
      holds_same (holds_less room (j + length (piece i)) (omega (arith, p.next, count_fits h i l))) out (put_length p)

-- ---- a part of a row, and its numbers, below a bound

module _ (bound : ℕ) (b : List ℕ) (r : Row) (k n : ℕ) (h : Below bound (span b r k n)) where
  pub part_below : (j m : ℕ) → j + m ≤ n → Below bound (span b r (k + j) m)
  part_below j m l = subst (Below bound) (span_part b r k n j m l) (below_take bound m (drop j (span b r k n)) (below_drop bound j (span b r k n) h))

  pub entry_below : (i v : ℕ) → i < n → v ≡ entry b r (k + i) → v < bound
  entry_below i v l e = rw e (subst (Below bound) (span_one b r (k + i)) (part_below i 1 (omega arith))).0

pub span_two : (b : List ℕ) (r : Row) (k : ℕ) → span b r k 2 ≡ entry b r k ∷ entry b r (k + 1) ∷ []
span_two b r k = span_next b r k 1 ∙ ap (λ (l : List ℕ). l ++ (entry b r (k + 1) ∷ [])) (span_one b r k)

-- ---- what stays by a test which ids go

module _ (goes : ℕ → Bool) where
  remaining_append : {A : Type 0} (id : ℕ) (xs ys : List A) → remaining goes id (xs ++ ys) ≡ remaining goes id xs ++ remaining goes (id + length xs) ys
  remaining_append id [] ys = ap (λ (n : ℕ). remaining goes n ys) (sym (add-zero id))
  remaining_append {A} id (x ∷ xs) ys =
      let q : suc id + length xs ≡ id + suc (length xs) = omega arith in
      pick (goes id) (remaining_append (suc id) xs ys ∙ ap (λ (n : ℕ). remaining goes (suc id) xs ++ remaining goes n ys) q)
    where
      pick : (c : Bool) → remaining goes (suc id) (xs ++ ys) ≡ remaining goes (suc id) xs ++ remaining goes (id + suc (length xs)) ys
          → cond c (remaining goes (suc id) (xs ++ ys)) (x ∷ remaining goes (suc id) (xs ++ ys))
          ≡ cond c (remaining goes (suc id) xs) (x ∷ remaining goes (suc id) xs) ++ remaining goes (id + suc (length xs)) ys
      pick true k = k
      pick false k = ap (λ (r : List A). x ∷ r) k

  -- one entry more
  pub remaining_next : {A : Type 0} (xs : List A) (x : A) (k : ℕ) → length xs ≡ k → remaining goes 0 (xs ++ (x ∷ [])) ≡ remaining goes 0 xs ++ cond (goes k) [] (x ∷ [])
  remaining_next xs x k e =
      remaining_append 0 xs (x ∷ []) ∙ ap (λ (n : ℕ). remaining goes 0 xs ++ cond (goes n) [] (x ∷ [])) (zero-add (length xs) ∙ e)

  -- as many as are numbered
  pub left_count : {A : Type 0} (xs : List A) (n : ℕ) → n ≡ length xs → new_id goes n ≡ length (remaining goes 0 xs)
  left_count xs n e = ap (new_id goes) (e ∙ sym (zero-add (length xs))) ∙ sym (length_remaining goes 0 xs) ∙ zero-add (length (remaining goes 0 xs))

  pub labels_grow : (b : List ℕ) (r : Row) (k n : ℕ) → Grows (λ i. remaining goes 0 (span b r k i)) (λ i. cond (goes i) [] (entry b r (k + i) ∷ [])) n
  labels_grow b r k n = record {
    more = λ i l. ap (remaining goes 0) (span_next b r k i) ∙ remaining_next (span b r k i) (entry b r (k + i)) i (length_span b r k i);
  }

-- what is written of edges that are changed one by one
pub each_grow : {B : Type 0} (change : Edge → Edge) (part : Edge → List B) (es : List Edge)
    → Grows (λ i. joined part (map change (take i es))) (λ i. part (change (get_or es i no_edge))) (length es)
each_grow {B} change part es = record {
  more = λ i l.
      let first = map change (take i es) in
      let e = change (get_or es i no_edge) in
      ap (λ (l : List Edge). joined part (map change l)) (take_edges es i l) ∙ ap (joined part) (map-append change (take i es) (get_or es i no_edge ∷ []))
      ∙ joined_append part first (e ∷ []) ∙ ap (λ (l : List B). joined part first ++ l) (append-nil (part e));
}
