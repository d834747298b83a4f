-- The step at a place: cut short, or wholly there.
-- Assumes nothing.
use mathlib.Core.Bool.{Bool, true, false, cond, ◌||◌}
use mathlib.Core.List.{List}
use mathlib.Core.Path.{◌≡◌, refl, sym, ap, ◌∙◌}
use Prim.Native.Nat.{ℕ, ◌+◌, ◌*◌, ◌-◌, ◌/◌, ◌≤◌, ◌<◌, ◌^◌}
use native.Mathlib.Omega.{arith}
use lib.Dec.{eqb, lit<}
use lib.ListN.{length, get_or, drop, length-drop}
use lib.Seq.{drop-drop}
use borrow.Author.Tests.{le-leb, lt-ltb, le-ltb, lt-leb}
use Rattle.le.specs.Le.{numbers}
use Rattle.graph.specs.Answer.{refused, answered, refusal, ◌else◌, ◌>>◌}
use Rattle.steps.specs.Steps.{head_numbers, list_numbers, step_of, read_step}
use Rattle.build.specs.Turns.{number_of, first_numbers, second_numbers, step_in, FoundStep}
use Rattle.build.specs.declared.Kind.{Kind}
use Rattle.build.specs.declared.Kind.TheVariants as of

-- both lists together
lists_are : (kind : ℕ) (head : List ℕ) → list_numbers kind head ≡ first_numbers kind head + second_numbers kind head
lists_are kind head = go (eqb kind 2 || eqb kind 3) (cond (eqb kind 7 || eqb kind 8) (get_or head 0 0) 0)
  where
    go : (c : Bool) (x : ℕ) → cond c (get_or head 1 0 + get_or head 2 0) x ≡ cond c (get_or head 1 0) x + cond c (get_or head 2 0) 0
    go true x = refl
    go false x = omega arith

-- ---- 12

pub unknown : (kind : ℕ) (c : List ℕ) → head_numbers kind ≡ 0 → read_step kind c ≡ refused (refusal 12)
unfolding read_step ◌else◌ ◌>>◌
unknown kind c e = rw (le-ltb 0 (head_numbers kind) (omega arith))

-- every step begins with a number
pub some : (k : Kind) → 0 < head_numbers (number_of k)
some of.NewNode = lit< tt
some of.NewEdge = lit< tt
some of.NewOperation = lit< tt
some of.Unify = lit< tt
some of.AddEdgeSource = lit< tt
some of.AddEdgeTarget = lit< tt
some of.DeleteEdges = lit< tt
some of.DeleteNodes = lit< tt

module _ (kind : ℕ) (b : List ℕ) (place : ℕ) (inside : place < length b) (has_head : 0 < head_numbers kind) where
  long : length (drop (place + 1) b) ≡ length b - (place + 1)
  long = length-drop (place + 1) b

  pub head_cut : (length b - (place + 1)) / 4 < head_numbers kind → read_step kind (drop (place + 1) b) ≡ refused (refusal 12)
  unfolding read_step ◌else◌ ◌>>◌
  head_cut h = rw (lt-ltb 0 (head_numbers kind) has_head, lt-leb (head_numbers kind * 4) (length (drop (place + 1) b)) (omega (arith, long)))

  module _ (held : head_numbers kind ≤ (length b - (place + 1)) / 4) (first second : ℕ)
      (is_first : first ≡ first_numbers kind (numbers 4 (head_numbers kind) (drop (place + 1) b))) (is_second : second ≡ second_numbers kind (numbers 4 (head_numbers kind) (drop (place + 1) b))) where
    many : list_numbers kind (numbers 4 (head_numbers kind) (drop (place + 1) b)) ≡ first + second
    many = lists_are kind (numbers 4 (head_numbers kind) (drop (place + 1) b)) ∙ (λ i. sym is_first i + sym is_second i)

    left : length (drop (head_numbers kind * 4) (drop (place + 1) b)) ≡ length b - (place + 1) - head_numbers kind * 4
    left = length-drop (head_numbers kind * 4) (drop (place + 1) b) ∙ ap (λ (n : ℕ). n - head_numbers kind * 4) long

    pub lists_cut : (length b - (place + 1)) / 4 - head_numbers kind < first + second → read_step kind (drop (place + 1) b) ≡ refused (refusal 12)
    unfolding read_step ◌else◌ ◌>>◌
    lists_cut h = rw (
      lt-ltb 0 (head_numbers kind) has_head,
      le-leb (head_numbers kind * 4) (length (drop (place + 1) b)) (omega (arith, long)),
      many,
      lt-leb ((first + second) * 4) (length (drop (head_numbers kind * 4) (drop (place + 1) b))) (omega (arith, left)),
    )

    is_read : first + second ≤ (length b - (place + 1)) / 4 - head_numbers kind → let n = head_numbers kind in let c = drop (place + 1) b in let m = first + second in
        read_step kind c ≡ answered (step_of kind (numbers 4 n c) (numbers 4 m (drop (n * 4) c)), drop (m * 4) (drop (n * 4) c))
    unfolding read_step ◌else◌ ◌>>◌
    is_read h = let n = head_numbers kind in
        let c = drop (place + 1) b in
        let m = first + second in
        rw (lt-ltb 0 n has_head, le-leb (n * 4) (length c) (omega (arith, long)), many, le-leb (m * 4) (length (drop (n * 4) c)) (omega (arith, left)))

-- ---- a step of a known kind, whole

module _ (k : Kind) (b : List ℕ) (place : ℕ) (inside : place < length b) where
  abbrev kind : ℕ
  kind = number_of k

  pub whole : (held : head_numbers kind ≤ (length b - (place + 1)) / 4) (first second : ℕ)
      (is_first : first ≡ first_numbers kind (numbers 4 (head_numbers kind) (drop (place + 1) b))) (is_second : second ≡ second_numbers kind (numbers 4 (head_numbers kind) (drop (place + 1) b)))
      → first < 2 ^ 32 → second < 2 ^ 32 → first + second ≤ (length b - (place + 1)) / 4 - head_numbers kind → FoundStep (read_step kind (drop (place + 1) b)) b place
      (record { kind = k; at = place + 1; first = first; second = second; lists = place + 1 + 4 * head_numbers kind; end = place + 1 + 4 * head_numbers kind + 4 * (first + second) })
  unfolding step_in
  whole held first second is_first is_second lf ls h =
      let n = head_numbers kind in
      let c = drop (place + 1) b in
      let head = numbers 4 n c in
      let m = first + second in
      let e₁ : place + 1 + n * 4 ≡ place + 1 + 4 * n = omega arith in
      let e₂ : place + 1 + 4 * n + m * 4 ≡ place + 1 + 4 * n + 4 * m = omega arith in
      let lists : drop (n * 4) c ≡ drop (place + 1 + 4 * n) b = drop-drop (n * 4) (place + 1) b ∙ ap (λ (i : ℕ). drop i b) e₁ in
      let after : drop (m * 4) (drop (n * 4) c) ≡ drop (place + 1 + 4 * n + 4 * m) b = ap (drop (m * 4)) lists ∙ drop-drop (m * 4) (place + 1 + 4 * n) b ∙ ap (λ (i : ℕ). drop i b) e₂ in
      record {
        step = step_of kind head (numbers 4 m (drop (n * 4) c));
        after = drop (m * 4) (drop (n * 4) c);
        is = is_read kind b place inside (some k) held first second is_first is_second h;
        there = record { at = refl; first = is_first; second = is_second; lists = refl; end = refl; inside = omega arith; few = lf; few_more = ls };
        in_list = ap (λ (l : List ℕ). step_of kind head (numbers 4 m l)) lists;
        next = after;
      }
