-- The totals of a range, one drawing after the other.
-- Assumes nothing.
use mathlib.Core.Path.{◌≡◌, refl, sym, ap, ◌∙◌, subst}
use mathlib.Core.Bool.{Bool, true, false}
use mathlib.Core.List.{List, [], ◌∷◌, ◌++◌, map}
use Prim.Native.Nat.{ℕ, zero, suc, ◌+◌, ◌-◌, ◌*◌, ◌≤◌, ◌<◌, zero-le}
use native.Mathlib.Nat.{le_refl, lt_irrefl, not-suc-le-zero, suc-ne-zero, zero-add, add-zero}
use native.Mathlib.Omega.{arith}
use lib.Dec.{leb}
use lib.ListN.{length, get_or, set, length-append, length-set}
use lib.Seq.{get_or-set_same, get_or-set_other, ext_get_or}
use borrow.Author.Count.{below_more}
use borrow.Author.Tests.{leb-true}
use Rattle.le.specs.Le.{Below}
use Rattle.graph.specs.Answer.{Answer, refused, answered, Refusal, reply}
use Rattle.graph.specs.Lists.{range}
use Rattle.graph.proofs.Refuses.{member_passes}
use Rattle.graph.proofs.Verdicts.{in_room}
use Rattle.choice.specs.Arcs.{bump, how_many}
use Rattle.choice.proofs.Degrees.{how_many_length}
use Rattle.parts.specs.Parts.{bill_of}
use Rattle.catalogue.specs.Price.{catalogue, buffer_price, Priced, price, room_price}
use Rattle.catalogue.specs.Promises.{cost, Small}
use Rattle.catalogue.specs.Range.{sum_of, is_priced, refused_by, Dearest, none, at, dearer, dearer_of, dearest_of, nth_count, refusal_numbers}
use Rattle.catalogue.specs.RefusedBy.{price_refusals}
use Rattle.price.specs.Totals.{dearest_in, dearest_meant, totals_of, sums, added, Listed, Upto, nothing}
use Rattle.catalogue.proofs.Bounds.{get_d_below}
use Rattle.catalogue.proofs.Calls.{call_refused}
use Rattle.catalogue.proofs.Counters.{raise}
use Rattle.catalogue.proofs.RefusedBy.{price_by}
use Rattle.catalogue.proofs.Slices.{Clean}
use Rattle.catalogue.proofs.Stored.{price_answer_lem, price_small}

-- ---- two rows of counts, entry by entry

-- the first k entries have both counts
pub record Half (parts counts both : List ℕ) (k : ℕ) : Type 0 where
  pub long : length both ≡ length parts
  pub done : (j : ℕ) → j < k → get_or both j 0 ≡ get_or parts j 0 + get_or counts j 0
  pub left : (j : ℕ) → k ≤ j → get_or both j 0 ≡ get_or parts j 0

module _ (parts counts : List ℕ) where
  pub half_none : Half parts counts parts 0
  half_none = record { long = refl; done = λ j l. absurd (not-suc-le-zero l); left = λ j l. refl }

  pub half_next : (both : List ℕ) (k : ℕ) → Half parts counts both k → k < length parts → Half parts counts (set both k (get_or both k 0 + get_or counts k 0)) (k + 1)
  half_next both k h l = record {
    long = length-set both k v ∙ h.long;
    done = below_more (λ j. get_or next j 0 ≡ get_or parts j 0 + get_or counts j 0) k (λ j m. other j (λ e. lt_irrefl k (omega arith)) ∙ h.done j m) here;
    left = λ j m. other j (λ e. lt_irrefl k (omega arith)) ∙ h.left j (omega arith);
  }
    where
      v : ℕ
      v = get_or both k 0 + get_or counts k 0

      next : List ℕ
      next = set both k v

      other : (j : ℕ) → (j ≡ k → ⊥) → get_or next j 0 ≡ get_or both j 0
      other j d = get_or-set_other both k j v 0 d

      here : get_or next k 0 ≡ get_or parts k 0 + get_or counts k 0
      here = get_or-set_same both k v 0 (omega (arith, h.long)) ∙ ap (λ (n : ℕ). n + get_or counts k 0) (h.left k (le_refl k))

length_sums : (xs ys : List ℕ) → length xs ≡ length ys → length (sums xs ys) ≡ length xs
length_sums [] ys e = refl
length_sums (x ∷ xs) [] e = absurd (suc-ne-zero (length xs) e)
length_sums (x ∷ xs) (y ∷ ys) e = ap suc (length_sums xs ys (omega arith))

get_d_sums : (xs ys : List ℕ) (j : ℕ) → length xs ≡ length ys → j < length xs → get_or (sums xs ys) j 0 ≡ get_or xs j 0 + get_or ys j 0
get_d_sums [] ys j e l = absurd (not-suc-le-zero l)
get_d_sums (x ∷ xs) [] j e l = absurd (suc-ne-zero (length xs) e)
get_d_sums (x ∷ xs) (y ∷ ys) zero e l = refl
get_d_sums (x ∷ xs) (y ∷ ys) (suc j) e l = get_d_sums xs ys j (omega arith) (omega arith)

pub half_all : (parts counts both : List ℕ) (k : ℕ) → Half parts counts both k → length parts ≡ length counts → length parts ≤ k → both ≡ sums parts counts
half_all parts counts both k h e l =
    ext_get_or 0 both (sums parts counts) (h.long ∙ sym (length_sums parts counts e))
    (λ j m. h.done j (omega (arith, h.long)) ∙ sym (get_d_sums parts counts j e (omega (arith, h.long))))

-- ---- what is known of a single answer

pub record Good (a : Answer Priced) : Type 0 where
  pub number : (r : Refusal) → a ≡ refused r → (1 ≤ r.no) × (r.no ≤ 17)
  pub twelve : (p : Priced) → a ≡ answered p → length p.counts ≡ 12
  pub billed : (p : Priced) → a ≡ answered p → p.total ≡ cost p.counts catalogue + buffer_price * p.buffers
  pub small : (p : Priced) → a ≡ answered p → Small p

-- where the room is lent, pricing refuses by these numbers
pub price_number : (b : List ℕ) (r : Refusal) → price b ≡ refused r → (1 ≤ r.no) × (r.no ≤ 17)
price_number b r e =
    let h = (price_by b 60 room_price).each r (call_refused b 60 room_price r (in_room room_price room_price (price b) (le_refl room_price) ∙ e)) in
    (leb-true _ _ (member_passes (leb 1) price_refusals r.no refl h), leb-true _ _ (member_passes (λ n. leb n 17) price_refusals r.no refl h))

pub price_good : (b : List ℕ) → Below 256 b → Good (price b)
price_good b clean = record {
  number = price_number b;
  twelve = λ p e. (price_answer_lem b p e).1.twelve;
  billed = λ p e. (price_answer_lem b p e).1.billed;
  small = λ p e. price_small b p clean e;
}

abbrev pub AllGood : List (Answer Priced) → Type 0
AllGood [] = Unit {0}
AllGood (a ∷ more) = Good a × AllGood more

pub prices_good : (forms : List (List ℕ)) → Clean forms → AllGood (map price forms)
prices_good [] c = tt
prices_good (b ∷ forms) c = (price_good b c.0, prices_good forms c.1)

-- ---- one answer after the other

pub sum_of_next : (part : Priced → ℕ) (answers : List (Answer Priced)) (a : Answer Priced) → sum_of part (answers ++ (a ∷ [])) ≡ sum_of part answers + reply 0 part a
unfolding sum_of
sum_of_next part [] a = omega arith
sum_of_next part (x ∷ more) a = omega (arith, sum_of_next part more a)

pub how_many_next : {A : Type 0} (p : A → Bool) (xs : List A) (x : A) → how_many p (xs ++ (x ∷ [])) ≡ how_many p xs + bump (p x) 0
unfolding how_many
how_many_next p [] x = sym (zero-add (bump (p x) 0))
how_many_next p (y ∷ xs) x = go (p y) (how_many_next p xs x)
  where
    go : (b : Bool) → how_many p (xs ++ (x ∷ [])) ≡ how_many p xs + bump (p x) 0 → bump b (how_many p (xs ++ (x ∷ []))) ≡ bump b (how_many p xs) + bump (p x) 0
    go true e = omega arith
    go false e = e

pub dearest_next : (d : Dearest) (i : ℕ) (answers : List (Answer Priced)) (a : Answer Priced)
    → dearest_of d i (answers ++ (a ∷ [])) ≡ dearer_of (dearest_of d i answers) (i + length answers) a
unfolding dearest_of
dearest_next d i [] a = ap (λ (k : ℕ). dearer_of d k a) (sym (add-zero i))
dearest_next d i (x ∷ more) a =
    let e : suc i + length more ≡ i + suc (length more) = omega arith in
    dearest_next (dearer_of d i x) (suc i) more a ∙ ap (λ (k : ℕ). dearer_of (dearest_of (dearer_of d i x) (suc i) more) k a) e

pub meant_back : (d : Dearest) → dearest_meant (dearest_in d) ≡ d
meant_back none = refl
meant_back (at i m) = refl

-- a row with an entry of another added to each
sums_by : (c d : ℕ → ℕ) (xs : List ℕ) (from : ℕ) → ((k : ℕ) → d (from + k) ≡ get_or xs k 0) → map (λ k. c k + d k) (range from (length xs)) ≡ sums (map c (range from (length xs))) xs
sums_by c d [] from h = refl
sums_by c d (x ∷ xs) from h =
    λ i. (c from + (ap d (sym (add-zero from)) ∙ h 0) i) ∷ sums_by c d xs (suc from) (λ k. let e : suc from + k ≡ from + suc k = omega arith in ap d e ∙ h (suc k)) i

module _ (answers : List (Answer Priced)) where
  one_longer : (a : Answer Priced) → length answers + 1 ≡ length (answers ++ (a ∷ []))
  one_longer a = sym (length-append answers (a ∷ []))

  parts_next : (p : Priced) → length p.counts ≡ 12
      → sums (map (λ k. sum_of (nth_count k) answers) (range 0 12)) p.counts ≡ map (λ k. sum_of (nth_count k) (answers ++ (answered p ∷ []))) (range 0 12)
  parts_next p e =
      subst (λ (n : ℕ). sums (map (λ k. sum_of (nth_count k) answers) (range 0 n)) p.counts ≡ map (λ k. sum_of (nth_count k) answers + nth_count k p) (range 0 n)) e
      (sym (sums_by (λ k. sum_of (nth_count k) answers) (λ k. nth_count k p) p.counts 0 (λ k. ap (λ (j : ℕ). get_or {A = ℕ} p.counts j 0) (zero-add k))))
      ∙ sym (λ i. map (λ k. sum_of_next (nth_count k) answers (answered p) i) (range 0 12))

  nothing_more : (part : Priced → ℕ) (r : Refusal) → sum_of part answers ≡ sum_of part (answers ++ (refused r ∷ []))
  nothing_more part r = sym (sum_of_next part answers (refused r) ∙ add-zero (sum_of part answers))

  refusals_next : (r : Refusal) → (1 ≤ r.no) × (r.no ≤ 17)
      → set (map (λ n. how_many (refused_by n) answers) refusal_numbers) (r.no - 1) (get_or (map (λ n. how_many (refused_by n) answers) refusal_numbers) (r.no - 1) 0 + 1)
      ≡ map (λ n. how_many (refused_by n) (answers ++ (refused r ∷ []))) refusal_numbers
  refusals_next r h =
      let e : r.no ≡ 1 + (r.no - 1) = omega arith in
      let l : r.no - 1 < 17 = omega arith in
      sym (raise (λ n. how_many (refused_by n) answers) r.no 1 (r.no - 1) 17 e l) ∙ sym (λ i. map (λ n. how_many_next (refused_by n) answers (refused r) i) refusal_numbers)

  refusals_same : (p : Priced) → map (λ n. how_many (refused_by n) answers) refusal_numbers ≡ map (λ n. how_many (refused_by n) (answers ++ (answered p ∷ []))) refusal_numbers
  refusals_same p =
      sym ((λ i. map (λ n. how_many_next (refused_by n) answers (answered p) i) refusal_numbers) ∙ (λ i. map (λ n. add-zero (how_many (refused_by n) answers) i) refusal_numbers))

  priced_same : (r : Refusal) → how_many is_priced answers ≡ how_many is_priced (answers ++ (refused r ∷ []))
  priced_same r = sym (how_many_next is_priced answers (refused r) ∙ add-zero (how_many is_priced answers))

  pub added_next : (a : Answer Priced) → Good a → added (totals_of answers) a ≡ totals_of (answers ++ (a ∷ []))
  added_next (refused r) g = λ i. record {
    drawings = one_longer (refused r) i;
    priced = priced_same r i;
    refusals = refusals_next r (g.number r refl) i;
    parts = map (λ k. nothing_more (nth_count k) r i) (range 0 12);
    buffers = nothing_more (λ p. p.buffers) r i;
    sum = nothing_more (λ p. p.total) r i;
    dearest = dearest_in (sym (dearest_next none 0 answers (refused r)) i);
  }
  added_next (answered p) g = λ i. record {
    drawings = one_longer (answered p) i;
    priced = sym (how_many_next is_priced answers (answered p)) i;
    refusals = refusals_same p i;
    parts = parts_next p (g.twelve p refl) i;
    buffers = sym (sum_of_next (λ q. q.buffers) answers (answered p)) i;
    sum = sym (sum_of_next (λ q. q.total) answers (answered p)) i;
    dearest = dearest i;
  }
    where
      dearest : dearest_in (dearer (dearest_meant (dearest_in (dearest_of none 0 answers))) (length answers) p.total) ≡ dearest_in (dearest_of none 0 (answers ++ (answered p ∷ [])))
      dearest =
          (λ i. dearest_in (dearer (meant_back (dearest_of none 0 answers) i) (sym (zero-add (length answers)) i) p.total))
          ∙ ap dearest_in (sym (dearest_next none 0 answers (answered p)))

pub nothing_totals : nothing ≡ totals_of []
unfolding how_many sum_of dearest_of
nothing_totals = refl

-- ---- each number is far from the end of its field

-- a sum of parts that are m at most
pub sum_few : (part : Priced → ℕ) (m : ℕ) → ((p : Priced) → Small p → part p ≤ m) → (answers : List (Answer Priced)) → AllGood answers → sum_of part answers ≤ m * length answers
unfolding sum_of
sum_few part m h [] s = zero-le
sum_few part m h (refused r ∷ more) s = omega (arith, sum_few part m h more s.1)
sum_few part m h (answered p ∷ more) s = omega (arith, sum_few part m h more s.1, h p (s.0.small p refl))

pub map_below : (m : ℕ) (c : ℕ → ℕ) → ((k : ℕ) → c k < m) → (ks : List ℕ) → Below m (map c ks)
map_below m c h [] = tt
map_below m c h (k ∷ ks) = (h k, map_below m c h ks)

pub sum_of_none : (part : Priced → ℕ) (answers : List (Answer Priced)) → how_many is_priced answers ≡ 0 → sum_of part answers ≡ 0
unfolding sum_of how_many
sum_of_none part [] e = refl
sum_of_none part (refused r ∷ more) e = omega (arith, sum_of_none part more e)
sum_of_none part (answered p ∷ more) e = absurd (suc-ne-zero (how_many is_priced more) e)

pub totals_upto : (answers : List (Answer Priced)) → AllGood answers → (n : ℕ) → length answers ≤ n → Upto n (totals_of answers)
totals_upto answers s n l = record {
  drawings = l;
  priced = omega (arith, how_many_length is_priced answers);
  seventeen = refl;
  refusals = map_below (1 + n) (λ k. how_many (refused_by k) answers) (λ k. omega (arith, how_many_length (refused_by k) answers)) refusal_numbers;
  twelve = refl;
  parts = map_below (1 + 16384 * n) (λ k. sum_of (nth_count k) answers)
      (λ k. omega (arith, sum_few (nth_count k) 16384 (λ p h. omega (arith, get_d_below 16385 p.counts (omega arith) h.counts k)) answers s)) (range 0 12);
  buffers = omega (arith, sum_few (λ p. p.buffers) 16384 (λ p h. h.buffers) answers s);
  sum = omega (arith, sum_few (λ p. p.total) 73072640 (λ p h. h.total) answers s);
  none_priced = sum_of_none (λ p. p.total) answers;
}

pub listed : (p : Priced) → length p.counts ≡ 12 → Small p → Listed (bill_of p)
listed p e s = record { counts = record { twelve = e; few = s.counts }; buffers = s.buffers; total = s.total }
