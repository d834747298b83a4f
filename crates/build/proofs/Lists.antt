-- The lists of a step: rows of the list of steps, and what is asked of their ids.
-- Assumes nothing.
use mathlib.Core.Logic.{◌⊎◌, inl, inr}
use mathlib.Core.List.{List, [], ◌∷◌}
use mathlib.Core.Path.{◌≡◌, refl, sym, ap, ◌∙◌}
use Prim.Native.Nat.{ℕ, zero, suc, ◌+◌, ◌*◌, ◌/◌, ◌%◌, ◌≤◌, ◌<◌}
use native.Mathlib.Nat.{div-eq_of_eq-mul_left}
use native.Mathlib.Omega.{arith}
use lib.Dec.{lit<}
use lib.ListN.{length, get_or, take, drop}
use lib.Seq.{length-take-le, take-take, take-nil}
use borrow.Author.Tests.{eq-eqb}
use Rattle.le.specs.Le.{Below, number, number_at, numbers}
use Rattle.le.specs.Rows.{Holds, row_at, span}
use Rattle.le.specs.declared.Row.{Row}
use Rattle.le.proofs.Numbers.{length_numbers}
use Rattle.form.specs.Form.{counted}
use Rattle.form.proofs.Answers.{answered_so}
use Rattle.steps.proofs.Singly.{known_all_same, known_all_below}
use Rattle.le.proofs.Places.{get_d_numbers, number_drop}
use Rattle.graph.specs.Answer.{answered, ◌else◌, ◌>>◌}
use Rattle.graph.specs.Calls.{id_list}
use Rattle.graph.specs.Graph.{Format}
use Rattle.steps.specs.Steps.{head_numbers}
use Rattle.steps.specs.Calls.{known_all}
use Rattle.build.specs.Turns.{number_of}
use Rattle.build.specs.declared.Kind.{Kind}
use Rattle.build.specs.declared.Kind.TheVariants as of

pub span_numbers : (b : List ℕ) (at k n : ℕ) → span b (row_at at 4) k n ≡ numbers 4 n (drop (at + 4 * k) b)
unfolding span
span_numbers b at k n = let e : at + k * 4 ≡ at + 4 * k = omega arith in ap (λ (i : ℕ). numbers 4 n (drop i b)) e

pub list_held : (b : List ℕ) (at n : ℕ) → at + 4 * n ≤ length b → Holds b (row_at at 4) n
list_held b at n h = record { wide = inr refl; inside = omega arith }

-- ---- the numbers that a step begins with

pub head_at_lem : (b : List ℕ) (at n k : ℕ) → k < n → get_or (numbers 4 n (drop at b)) k 0 ≡ number_at 4 b (at + 4 * k)
head_at_lem b at n k h = let e : at + k * 4 ≡ at + 4 * k = omega arith in get_d_numbers 4 n (drop at b) k h ∙ number_drop 4 b at (k * 4) ∙ ap (number_at 4 b) e

-- a count of a step of this kind
counted_as_lem : (so : ℕ → List ℕ → ℕ) (kind known : ℕ) (b : List ℕ) (at v : ℕ) → kind ≡ known → v ≡ so known (numbers 4 (head_numbers known) (drop at b)) → v ≡ so kind (numbers 4 (head_numbers kind) (drop at b))
counted_as_lem so kind known b at v e h = h ∙ ap (λ (k : ℕ). so k (numbers 4 (head_numbers k) (drop at b))) (sym e)

-- entry i of the numbers of a step that makes an edge, where it is this count
pub edge_count : (so : ℕ → List ℕ → ℕ) (i : ℕ) → i < 3 → ((head : List ℕ) → get_or head i 0 ≡ so 2 head) → ((head : List ℕ) → get_or head i 0 ≡ so 3 head)
    → (kind : Kind) → (kind ≡ of.NewEdge) ⊎ (kind ≡ of.NewOperation) → (b : List ℕ) (at v : ℕ) → v ≡ number_at 4 b (at + 4 * i)
    → v ≡ so (number_of kind) (numbers 4 (head_numbers (number_of kind)) (drop at b))
edge_count so i l two three kind e b at v h = go e
  where
    entry : v ≡ get_or (numbers 4 3 (drop at b)) i 0
    entry = h ∙ sym (head_at_lem b at 3 i l)

    go : (kind ≡ of.NewEdge) ⊎ (kind ≡ of.NewOperation) → v ≡ so (number_of kind) (numbers 4 (head_numbers (number_of kind)) (drop at b))
    go (inl e) = counted_as_lem so (number_of kind) 2 b at v (ap number_of e) (entry ∙ two _)
    go (inr e) = counted_as_lem so (number_of kind) 3 b at v (ap number_of e) (entry ∙ three _)

-- ---- a list as a part of the steps

drop_take : {A : Type 0} (m n : ℕ) (l : List A) → drop m (take (m + n) l) ≡ take n (drop m l)
drop_take zero n l = let e : 0 + n ≡ n = omega arith in rw e
drop_take (suc m) n [] = let e : suc m + n ≡ suc (m + n) = omega arith in rw (e, take-nil n)
drop_take (suc m) n (x ∷ l) = let e : suc m + n ≡ suc (m + n) = omega arith in rw e (drop_take m n l)

numbers_take : (n : ℕ) (b : List ℕ) → numbers 4 n (take (4 * n) b) ≡ numbers 4 n b
numbers_take zero b = refl
numbers_take (suc n) b =
    let e : 4 * suc n ≡ 4 + 4 * n = omega arith in
    let first : take 4 (take (4 * suc n) b) ≡ take 4 b = take-take 4 (4 * suc n) b (omega arith) in
    let rest : drop 4 (take (4 * suc n) b) ≡ take (4 * n) (drop 4 b) = ap (λ (k : ℕ). drop 4 (take k b)) e ∙ drop_take 4 (4 * n) b in
    (λ i. number (first i) ∷ numbers 4 n (rest i)) ∙ ap (λ (l : List ℕ). number (take 4 b) ∷ l) (numbers_take n (drop 4 b))

pub ids_part : (f : Format) → f.width ≡ 4 → (count n : ℕ) (b : List ℕ) → 4 * n ≤ length b → id_list f count (take (4 * n) b) ≡ known_all count (numbers 4 n b)
unfolding id_list known_all ◌else◌ ◌>>◌
ids_part f w count n b h =
    let c = take (4 * n) b in
    let long : length c ≡ n * 4 = length-take-le (4 * n) b h ∙ omega arith in
    let many : length c / f.width ≡ n = ap (λ (k : ℕ). length c / k) w ∙ div-eq_of_eq-mul_left (lit< tt) long in
    let whole : length c % f.width ≡ 0 = ap (λ (k : ℕ). length c % k) w ∙ omega (arith, long) in
    let back : numbers f.width n c ≡ numbers 4 n b = ap (λ (k : ℕ). numbers k n c) w ∙ numbers_take n b in
    rw (eq-eqb (length c % f.width) 0 whole, many, back)

-- ---- a list that was asked for

-- ids of the list of steps that are all known, and so many
pub record Known (count : ℕ) (ids : List ℕ) (n m : ℕ) : Type 0 where
  pub answers : known_all count ids ≡ answered ids
  pub below : Below count ids
  pub many : n ≡ m
  pub long : length ids ≡ n

pub ids_known : (count n m : ℕ) (b : List ℕ) → answered n ≡ counted (known_all count (numbers 4 m b)) → Known count (numbers 4 m b) n m
ids_known count n m b e =
    let ids = numbers 4 m b in
    let t = answered_so length (known_all count ids) n e in
    let same : t.0 ≡ ids = known_all_same count ids t.0 t.1 in
    record { answers = t.1 ∙ ap answered same; below = known_all_below count ids t.0 t.1; many = t.2 ∙ ap length same ∙ length_numbers 4 m b; long = sym (t.2 ∙ ap length same) }

-- the row that is handed on has them
pub listed : (b : List ℕ) (r : Row) (at k n m : ℕ) → r ≡ row_at at 4 → n ≡ m → span b r k n ≡ numbers 4 m (drop (at + 4 * k) b)
listed b r at k n m e h = (λ i. span b (e i) k (h i)) ∙ span_numbers b at k m

pub listed_first : (b : List ℕ) (r : Row) (at n m : ℕ) → r ≡ row_at at 4 → n ≡ m → span b r 0 n ≡ numbers 4 m (drop at b)
listed_first b r at n m e h = let z : at + 4 * 0 ≡ at = omega arith in listed b r at 0 n m e h ∙ ap (λ (i : ℕ). numbers 4 m (drop i b)) z
