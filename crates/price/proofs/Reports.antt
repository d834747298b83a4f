-- What a report is worth: each drawing is counted once, the sum is what the parts and buffers of the range cost, with none priced all is zero, and each number is read back from its field.
-- Assumes nothing.
use mathlib.Core.Path.{◌≡◌, refl, sym, ap, ◌∙◌, subst}
use mathlib.Core.List.{List, [], ◌∷◌, ◌++◌, map}
use mathlib.Core.Logic.{◌⊎◌, inl, inr}
use Prim.Native.Nat.{ℕ, zero, suc, ◌+◌, ◌-◌, ◌*◌, ◌/◌, ◌%◌, ◌^◌, ◌≤◌, ◌<◌}
use native.Mathlib.Nat.{le_refl, lt_irrefl, not-suc-le-zero, suc-ne-zero, eq-zero-or-pos, zero-add, add-zero, zero-div, zero-mod, mod-lt, div-le_self, div-add-mod'}
use native.Mathlib.Omega.{arith}
use lib.Dec.{eqb}
use lib.ListN.{length, get_or}
use borrow.Author.Tests.{eq-eqb, ne_eqb}
use Rattle.le.specs.Le.{bytes, row}
use Rattle.le.proofs.Numbers.{below_widen, number_bytes, numbers_row}
use Rattle.graph.specs.Lists.{range}
use Rattle.graph.specs.Answer.{Answer, refused, answered}
use Rattle.choice.specs.Arcs.{bump, how_many}
use Rattle.catalogue.specs.Dearests.{PricedAt, first, later, FirstDearest}
use Rattle.catalogue.specs.Price.{Kind, catalogue, buffer_price, Priced}
use Rattle.catalogue.specs.Promises.{cost, sum}
use Rattle.catalogue.specs.Range.{sum_of, is_priced, refused_by, none, at, dearest_of, index_of, nth_count, refusal_numbers, report_of, report_bytes}
use Rattle.catalogue.specs.ToldRange.{report_in}
use Rattle.price.specs.Totals.{totals_of, Upto}
use Rattle.price.proofs.Adding.{AllGood, totals_upto, sum_of_none}
use Rattle.catalogue.proofs.Dearests.{dearest_found, priced_place}

-- ---- each drawing is priced, or refused by one of the numbers

sum_same : (c d : ℕ → ℕ) (from n : ℕ) → ((k : ℕ) → from ≤ k → c k ≡ d k) → sum (map c (range from n)) ≡ sum (map d (range from n))
unfolding sum
sum_same c d from zero h = refl
sum_same c d from (suc n) h = λ i. h from (le_refl from) i + sum_same c d (suc from) n (λ k l. h k (omega arith)) i

sum_hit : (c : ℕ → ℕ) (m from i n : ℕ) → m ≡ from + i → i < n → sum (map (λ k. bump (eqb m k) (c k)) (range from n)) ≡ suc (sum (map c (range from n)))
unfolding sum
sum_hit c m from i zero e l = absurd (not-suc-le-zero l)
sum_hit c m from zero (suc n) e l =
    rw (eq-eqb m from (omega arith)) (omega (arith, sum_same (λ k. bump (eqb m k) (c k)) c (suc from) n (λ k q. let d : m ≡ k → ⊥ = λ z. lt_irrefl k (omega arith) in rw (ne_eqb m k d) refl)))
sum_hit c m from (suc i) (suc n) e l =
    let d : m ≡ from → ⊥ = λ z. lt_irrefl from (omega arith) in
    rw (ne_eqb m from d) (omega (arith, sum_hit c m (suc from) i n (omega arith) (omega arith)))

pub all_counted : (answers : List (Answer Priced)) → AllGood answers → (report_of answers).priced + sum (report_of answers).refusals ≡ length answers
unfolding report_of how_many sum
all_counted [] s = refl
all_counted (refused r ∷ more) s =
    let h = s.0.number r refl in
    let q : r.no ≡ 1 + (r.no - 1) = omega arith in
    omega (arith, all_counted more s.1, sum_hit (λ n. how_many (refused_by n) more) r.no 1 (r.no - 1) 17 q (omega arith))
all_counted (answered p ∷ more) s = omega (arith, all_counted more s.1)

-- ---- the sum is what the parts of the range and its buffers cost

cost_sum : (c d : ℕ → ℕ) (from : ℕ) (ks : List Kind)
    → cost (map (λ k. c k + d k) (range from (length ks))) ks ≡ cost (map c (range from (length ks))) ks + cost (map d (range from (length ks))) ks
unfolding cost
cost_sum c d from [] = refl
cost_sum c d from (k ∷ ks) = omega (arith, cost_sum c d (suc from) ks)

cost_none : (from : ℕ) (ks : List Kind) → cost (map (λ k. 0) (range from (length ks))) ks ≡ 0
unfolding cost
cost_none from [] = refl
cost_none from (k ∷ ks) = omega (arith, cost_none (suc from) ks)

-- a list by its entries
by_entries : (xs : List ℕ) (c : ℕ → ℕ) (from : ℕ) → ((k : ℕ) → c (from + k) ≡ get_or xs k 0) → map c (range from (length xs)) ≡ xs
by_entries [] c from h = refl
by_entries (x ∷ xs) c from h =
    λ i. (ap c (sym (add-zero from)) ∙ h 0) i ∷ by_entries xs c (suc from) (λ k. let e : suc from + k ≡ from + suc k = omega arith in ap c e ∙ h (suc k)) i

own_cost : (p : Priced) → length p.counts ≡ 12 → cost (map (λ k. nth_count k p) (range 0 12)) catalogue ≡ cost p.counts catalogue
own_cost p e = ap (λ (l : List ℕ). cost l catalogue)
    (subst (λ (n : ℕ). map (λ k. nth_count k p) (range 0 n) ≡ p.counts) e (by_entries p.counts (λ k. nth_count k p) 0 (λ k. ap (λ (j : ℕ). get_or {A = ℕ} p.counts j 0) (zero-add k))))

sums_cost : (answers : List (Answer Priced)) → AllGood answers
    → sum_of (λ p. p.total) answers ≡ cost (map (λ k. sum_of (nth_count k) answers) (range 0 12)) catalogue + buffer_price * sum_of (λ p. p.buffers) answers
unfolding sum_of
sums_cost [] s = sym (omega (arith, cost_none 0 catalogue))
sums_cost (refused r ∷ more) s =
    omega (arith, sums_cost more s.1, cost_sum (λ k. 0) (λ k. sum_of (nth_count k) more) 0 catalogue, cost_none 0 catalogue)
sums_cost (answered p ∷ more) s =
    omega (arith, sums_cost more s.1, cost_sum (λ k. nth_count k p) (λ k. sum_of (nth_count k) more) 0 catalogue, own_cost p (s.0.twelve p refl), s.0.billed p refl)

pub sum_is_cost : (answers : List (Answer Priced)) → AllGood answers → (report_of answers).sum ≡ cost (report_of answers).parts catalogue + buffer_price * (report_of answers).buffers
unfolding report_of
sum_is_cost answers s = sums_cost answers s

-- ---- "With none priced the sum, mean and remainder are zero and no dearest is named."

dearest_of_none : (i : ℕ) (answers : List (Answer Priced)) → how_many is_priced answers ≡ 0 → dearest_of none i answers ≡ none
unfolding dearest_of how_many
dearest_of_none i [] e = refl
dearest_of_none i (refused r ∷ more) e = dearest_of_none (suc i) more e
dearest_of_none i (answered p ∷ more) e = absurd (suc-ne-zero (how_many is_priced more) e)

pub none_priced : (answers : List (Answer Priced)) → (report_of answers).priced ≡ 0
    → ((report_of answers).sum ≡ 0) × ((report_of answers).mean ≡ 0) × ((report_of answers).remainder ≡ 0) × ((report_of answers).dearest ≡ 4294967295)
unfolding report_of
none_priced answers e = (
  z,
  ap (λ (n : ℕ). n / how_many is_priced answers) z ∙ zero-div (how_many is_priced answers),
  ap (λ (n : ℕ). n % how_many is_priced answers) z ∙ zero-mod (how_many is_priced answers),
  ap index_of (dearest_of_none 0 answers e),
)
  where
    z : sum_of (λ p. p.total) answers ≡ 0
    z = sum_of_none (λ p. p.total) answers e

-- the mean's whole part and remainder give the sum back
pub mean_and_remainder : (answers : List (Answer Priced)) → (report_of answers).mean * (report_of answers).priced + (report_of answers).remainder ≡ (report_of answers).sum
unfolding report_of
mean_and_remainder answers = div-add-mod' (sum_of (λ p. p.total) answers) (how_many is_priced answers)

pub remainder_below : (answers : List (Answer Priced)) → 0 < (report_of answers).priced → (report_of answers).remainder < (report_of answers).priced
unfolding report_of
remainder_below answers l = mod-lt (sum_of (λ p. p.total) answers) l

-- ---- the dearest, where one is priced

one_priced : (answers : List (Answer Priced)) → 0 < how_many is_priced answers → ((k : ℕ) (p : Priced) → PricedAt answers k p → ⊥) → ⊥
unfolding how_many
one_priced [] l h = not-suc-le-zero l
one_priced (refused r ∷ more) l h = one_priced more l (λ k p x. h (suc k) p (later x))
one_priced (answered p ∷ more) l h = h 0 p first

pub dearest_named : (answers : List (Answer Priced)) → 0 < (report_of answers).priced → (m : ℕ) × FirstDearest answers (report_of answers).dearest m
unfolding report_of
dearest_named answers l = go (dearest_found answers 0)
  where
    go : ((dearest_of none 0 answers ≡ none) × ((k : ℕ) (p : Priced) → PricedAt answers k p → ⊥)) ⊎ ((k m : ℕ) × (dearest_of none 0 answers ≡ at (0 + k) m) × FirstDearest answers k m)
        → (m : ℕ) × FirstDearest answers (index_of (dearest_of none 0 answers)) m
    go (inl h) = absurd (one_priced answers l h.1)
    go (inr h) = (h.1, subst (λ (k : ℕ). FirstDearest answers k h.1) (sym (ap index_of h.2 ∙ zero-add h.0)) h.3)

-- ---- each number of a report over at most 1,000 drawings fits its field, and is read back from it

module _ (answers : List (Answer Priced)) (s : AllGood answers) (few : length answers ≤ 1000) (rest : List ℕ) where
  abbrev n : ℕ
  n = how_many is_priced answers

  abbrev t : ℕ
  t = sum_of (λ p. p.total) answers

  abbrev d : ℕ
  d = index_of (dearest_of none 0 answers)

  u : Upto 1000 (totals_of answers)
  u = totals_upto answers s 1000 few

  low : t % n < 256 ^ 4
  low = go (eq-zero-or-pos n)
    where
      go : (n ≡ 0) ⊎ (0 < n) → t % n < 256 ^ 4
      go (inl e) = let z : t ≡ 0 = sum_of_none (λ p. p.total) answers e in rw (z, zero-mod n) (omega arith)
      go (inr h) = omega (arith, mod-lt t h, u.priced)

  named : d < 256 ^ 4
  named = go (dearest_found answers 0)
    where
      go : ((dearest_of none 0 answers ≡ none) × ((k : ℕ) (p : Priced) → PricedAt answers k p → ⊥)) ⊎ ((k m : ℕ) × (dearest_of none 0 answers ≡ at (0 + k) m) × FirstDearest answers k m) → d < 256 ^ 4
      go (inl h) = rw h.0 (omega arith)
      go (inr h) = rw h.2 (omega (arith, priced_place h.3.there))

  abbrev rs : List ℕ
  rs = map (λ k. how_many (refused_by k) answers) refusal_numbers

  abbrev ps : List ℕ
  ps = map (λ k. sum_of (nth_count k) answers) (range 0 12)

  abbrev tail : List ℕ
  tail = bytes 4 (sum_of (λ p. p.buffers) answers) ++ (bytes 8 t ++ (bytes 4 d ++ (bytes 8 (t / n) ++ (bytes 4 (t % n) ++ rest))))

  pub report_back : report_in (report_bytes (report_of answers) ++ rest) ≡ report_of answers
  unfolding report_of
  report_back = λ i. record {
    priced = number_bytes 4 n (omega (arith, u.priced)) i;
    refusals = numbers_row 4 rs (row 4 ps ++ tail) (below_widen rs (omega arith) u.refusals) i;
    parts = numbers_row 4 ps tail (below_widen ps (omega arith) u.parts) i;
    buffers = number_bytes 4 (sum_of (λ p. p.buffers) answers) (omega (arith, u.buffers)) i;
    sum = number_bytes 8 t (omega (arith, u.sum)) i;
    dearest = number_bytes 4 d named i;
    mean = number_bytes 8 (t / n) (omega (arith, u.sum, div-le_self t n)) i;
    remainder = number_bytes 4 (t % n) low i;
  }
