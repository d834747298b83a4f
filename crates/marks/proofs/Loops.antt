-- Turns of the loops over a row of ids: what was read is the row's next number, and what is done with it comes after what was done with those before it.
-- Assumes nothing.
use Rattle.std.proofs.Common.{◌≡◌, ℕ, ◌+◌, ◌-◌, ◌%◌, ◌<◌, ◌≤◌, Bool, true, false, ◌||◌, List, [], ◌∷◌, ◌++◌, get_or, drop, set, sym, refl, ap, ◌∙◌, subst, add-one, arith, ne_eqb}
use Rattle.le.specs.Le.{Below}
use Rattle.le.specs.Rows.{entry, span}
use Rattle.le.specs.declared.Row.{Row}
use Rattle.le.proofs.Numbers.{below_at, below_take, below_drop}
use Rattle.le.proofs.Rows.{length_span, span_at, span_next, span_append, span_part}
use Rattle.choice.specs.Arcs.{bump}
use Rattle.marks.specs.Tables.{remains, some_left, kept_in, shifted, shifted_all, loose, tested, tested_all, went_of, up_to}
use Rattle.marks.proofs.Tables.{shifts_next, tests_next, went_next, some_next, some_append, some_behind}

module _ (b : List ℕ) (r : Row) (first count j : ℕ) (x : ℕ) (is : x ≡ entry b r (first + j)) where
  -- it is below what bounds the row
  pub read_low : (n : ℕ) → j < count → Below n (span b r first count) → x < n
  read_low n l h = subst (λ (k : ℕ). k < n) (span_at b r first count j l ∙ sym is) (below_at n (span b r first count) j h (omega (arith, length_span b r first count)))

  next : span b r first (j + 1) ≡ span b r first j ++ (x ∷ [])
  next = span_next b r first j ∙ ap (λ (k : ℕ). span b r first j ++ (k ∷ [])) (sym is)

  pub shift_turn : (delta : ℕ) (old room new : List ℕ) → room ≡ shifted_all delta (span b r first j) old → new ≡ shifted delta x room → new ≡ shifted_all delta (span b r first (j + 1)) old
  shift_turn delta old room new e f = f ∙ ap (shifted delta x) e ∙ sym (ap (λ (l : List ℕ). shifted_all delta l old) next ∙ shifts_next delta (span b r first j) x old)

  pub test_turn : (old room new : List ℕ) (gone k : ℕ) → (gone ≡ went_of (span b r first j) old) × (room ≡ tested_all (span b r first j) old)
      → (k ≡ bump (loose room x) 0) × (new ≡ tested x room) → (gone + k ≡ went_of (span b r first (j + 1)) old) × (new ≡ tested_all (span b r first (j + 1)) old)
  test_turn old room new gone k e f = (
    (λ i. e.0 i + (f.0 ∙ ap (λ (q : List ℕ). bump (loose q x) 0) e.1) i) ∙ sym (ap (λ (l : List ℕ). went_of l old) next ∙ went_next (span b r first j) x old),
    f.1 ∙ ap (tested x) e.1 ∙ sym (ap (λ (l : List ℕ). tested_all l old) next ∙ tests_next (span b r first j) x old),
  )

  -- one that remains
  pub some_found : (room : List ℕ) → j < count → remains (get_or room x 0) ≡ true → some_left room (span b r first count) ≡ true
  some_found room l e =
      let split : j + 1 + (count - (j + 1)) ≡ count = omega arith in
      let here : some_left room (span b r first (j + 1)) ≡ true =
      ap (some_left room) next ∙ some_next room (span b r first j) x ∙ ap (λ (t : Bool). some_left room (span b r first j) || t) e ∙ last (some_left room (span b r first j)) in
      ap (λ (k : ℕ). some_left room (span b r first k)) (sym split) ∙ ap (some_left room) (span_append b r first (j + 1) (count - (j + 1)))
      ∙ some_append room (span b r first (j + 1)) (span b r (first + (j + 1)) (count - (j + 1))) here
    where
      last : (t : Bool) → (t || true) ≡ true
      last true = refl
      last false = refl

  pub none_found : (room : List ℕ) → (get_or room x 0 % 2 ≡ 1 → ⊥) → some_left room (span b r first j) ≡ false → some_left room (span b r first (j + 1)) ≡ false
  none_found room e h = ap (some_left room) next ∙ some_next room (span b r first j) x ∙ (λ i. h i || ne_eqb (get_or room x 0 % 2) 1 e i)

-- a part of a row
module _ (b : List ℕ) (r : Row) (first count start n : ℕ) (inside : start + n ≤ count) where
  pub part_below : (most : ℕ) → Below most (span b r first count) → Below most (span b r (first + start) n)
  part_below most low = subst (Below most) (span_part b r first count start n inside) (below_take most n (drop start (span b r first count)) (below_drop most start (span b r first count) low))

  pub part_left : (room : List ℕ) → some_left room (span b r (first + start) n) ≡ true → some_left room (span b r first count) ≡ true
  part_left room e =
      let split : start + n + (count - (start + n)) ≡ count = omega arith in
      let here : some_left room (span b r first (start + n)) ≡ true =
      ap (some_left room) (span_append b r first start n) ∙ some_behind room (span b r first start) (span b r (first + start) n) e in
      ap (λ (k : ℕ). some_left room (span b r first k)) (sym split) ∙ ap (some_left room) (span_append b r first (start + n) (count - (start + n)))
      ∙ some_append room (span b r first (start + n)) (span b r (first + (start + n)) (count - (start + n))) here

-- the same of the numbers from 0 on
pub count_turn : (old room new : List ℕ) (v gone k : ℕ) → (gone ≡ went_of (up_to v) old) × (room ≡ tested_all (up_to v) old)
    → (k ≡ bump (loose room v) 0) × (new ≡ tested v room) → (gone + k ≡ went_of (up_to (v + 1)) old) × (new ≡ tested_all (up_to (v + 1)) old)
count_turn old room new v gone k e f = (
  (λ i. e.0 i + (f.0 ∙ ap (λ (q : List ℕ). bump (loose q v) 0) e.1) i) ∙ sym (ap (λ (n : ℕ). went_of (up_to n) old) (add-one v) ∙ went_next (up_to v) v old),
  f.1 ∙ ap (tested v) e.1 ∙ sym (ap (λ (n : ℕ). tested_all (up_to n) old) (add-one v) ∙ tests_next (up_to v) v old),
)

pub bump_few : (b : Bool) → bump b 0 ≤ 1
bump_few true = omega arith
bump_few false = omega arith

-- kept nodes, one after the other
pub kept_next : (room vs : List ℕ) (v : ℕ) → kept_in room (vs ++ (v ∷ [])) ≡ set (kept_in room vs) v 3
kept_next room [] v = refl
kept_next room (u ∷ vs) v = kept_next (set room u 3) vs v
