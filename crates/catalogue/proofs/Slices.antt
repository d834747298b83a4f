-- The slice of a range: it is cut into drawings exactly if it is forms, each with its length before it, and no more than the limit; and the two walks over it.
-- Assumes nothing.
use mathlib.Core.Path.{◌≡◌, refl, sym, ap, ◌∙◌, subst}
use mathlib.Core.Bool.{Bool, true, false, cond}
use mathlib.Core.List.{List, [], ◌∷◌, ◌++◌, append_assoc}
use mathlib.Core.Logic.{◌↔◌}
use Prim.Native.Nat.{ℕ, zero, suc, ◌+◌, ◌-◌, ◌^◌, ◌≤◌, ◌<◌}
use native.Mathlib.Nat.{not-suc-le-zero}
use native.Mathlib.Omega.{arith}
use lib.Dec.{eqb, leb}
use lib.ListN.{length, get_or, take, drop, length-append, length-take, length-drop, take-append-drop}
use lib.Seq.{take-append_seam, drop-append_seam, drop-drop, drop-cons}
use borrow.Author.Tests.{leb-true, le-leb, lt-leb, eqb-true, eq-eqb, ne_eqb}
use Rattle.le.specs.Le.{Below, bytes, number_at}
use Rattle.le.proofs.Numbers.{below_drop, below_front, below_back, number_take, number_take_below, rejoin_one}
use Rattle.graph.specs.Lists.{joined}
use Rattle.graph.specs.Answer.{Answer, refused, answered, Refusal, refusal, ◌else◌, ◌>>=◌, ◌>>◌}
use Rattle.graph.proofs.Steps.{never, same_answer, passed, came, stops, goes}
use Rattle.form.specs.Form.{tested}
use Rattle.catalogue.specs.Range.{first_length, drawings_in, most_drawings}
use Rattle.catalogue.specs.Slices.{prefixed, Short, SliceOf}

-- ---- the first drawing's length

module _ (b : List ℕ) where
  pub first_short : length b < 4 → first_length b ≡ refused (refusal 17)
  unfolding first_length ◌else◌ ◌>>◌
  first_short l = rw (lt-leb 4 (length b) l)

  pub first_past : 4 ≤ length b → length (drop 4 b) < number_at 4 b 0 → first_length b ≡ refused (refusal 17)
  unfolding first_length ◌else◌ ◌>>◌
  first_past l m = rw (le-leb 4 (length b) l, lt-leb (number_at 4 b 0) (length (drop 4 b)) m)

  pub first_whole : 4 ≤ length b → number_at 4 b 0 ≤ length (drop 4 b) → first_length b ≡ answered (number_at 4 b 0)
  unfolding first_length ◌else◌ ◌>>◌
  first_whole l m = rw (le-leb 4 (length b) l, le-leb (number_at 4 b 0) (length (drop 4 b)) m)

  pub first_answered : (n : ℕ) → first_length b ≡ answered n → (4 ≤ length b) × (n ≤ length (drop 4 b)) × (n ≡ number_at 4 b 0)
  unfolding first_length
  first_answered n e =
      let p = passed (leb 4 (length b)) (refusal 17) _ e in
      let q = passed (leb (number_at 4 b 0) (length (drop 4 b))) (refusal 17) _ p.1 in
      let is : n ≡ number_at 4 b 0 = sym (same_answer q.1) in
      (leb-true _ _ p.0, subst (λ (k : ℕ). k ≤ length (drop 4 b)) (sym is) (leb-true _ _ q.0), is)

  pub first_17 : (r : Refusal) → first_length b ≡ refused r → r ≡ refusal 17
  unfolding first_length ◌else◌ ◌>>◌
  first_17 r e = go (leb 4 (length b)) (leb (number_at 4 b 0) (length (drop 4 b))) e
    where
      go : (c d : Bool) → ((c else refusal 17) >> ((d else refusal 17) >> answered (number_at 4 b 0))) ≡ refused r → r ≡ refusal 17
      go true true q = absurd (never (sym q))
      go true false q = let z : refusal 17 ≡ r = cc in sym z
      go false d q = let z : refusal 17 ≡ r = cc in sym z

-- ---- one drawing after the other

-- what follows the first length
abbrev pub onward : ℕ → List ℕ → ℕ → Answer (List (List ℕ))
onward k b n = drawings_in k (drop n (drop 4 b)) >>= λ rest. answered (take n (drop 4 b) ∷ rest)

module _ (b : List ℕ) where
  pub drawings_end : (k : ℕ) → length b ≡ 0 → drawings_in k b ≡ answered []
  unfolding drawings_in ◌else◌ ◌>>◌
  drawings_end zero e = rw (eq-eqb (length b) 0 e)
  drawings_end (suc k) e = rw (eq-eqb (length b) 0 e)

  some : 0 < length b → length b ≡ 0 → ⊥
  some l e = not-suc-le-zero (subst (λ (n : ℕ). 0 < n) e l)

  pub drawings_full : 0 < length b → drawings_in zero b ≡ refused (refusal 17)
  unfolding drawings_in ◌else◌ ◌>>◌
  drawings_full l = rw (ne_eqb (length b) 0 (some l))

  pub drawings_step : (k : ℕ) → 0 < length b → drawings_in (suc k) b ≡ (first_length b >>= onward k b)
  unfolding drawings_in
  drawings_step k l = rw (ne_eqb (length b) 0 (some l))

no_bytes : (b : List ℕ) → length b ≡ 0 → b ≡ []
no_bytes [] e = refl
no_bytes (x ∷ xs) e = absurd (some (x ∷ xs) (omega arith) e)

-- ---- a slice is taken apart as these drawings exactly if it is them

pub drawings_back : (k : ℕ) (b : List ℕ) (forms : List (List ℕ)) → Below 256 b → drawings_in k b ≡ answered forms → SliceOf k b forms
unfolding drawings_in
drawings_back zero b forms clean p =
    let q = passed (eqb (length b) 0) (refusal 17) (answered []) p in
    subst (SliceOf zero b) (same_answer q.1) (record { whole = sym (no_bytes b (eqb-true _ _ q.0)); short = tt; few = omega arith })
drawings_back (suc k) b forms clean p = go (eqb (length b) 0) refl p (λ d rest c q. drawings_back k d rest c q)
  where
    of_none : (forms : List (List ℕ)) → length b ≡ 0 → [] ≡ forms → SliceOf (suc k) b forms
    of_none forms e q = subst (SliceOf (suc k) b) q (record { whole = sym (no_bytes b e); short = tt; few = omega arith })

    of_some : (n : ℕ) (rest : List (List ℕ)) → 4 ≤ length b → n ≤ length (drop 4 b) → n ≡ number_at 4 b 0 → SliceOf k (drop n (drop 4 b)) rest → SliceOf (suc k) b (take n (drop 4 b) ∷ rest)
    of_some n rest l m is s =
        let e : length (take n (drop 4 b)) ≡ n = omega (arith, length-take n (drop 4 b)) in
        let small : n < 256 ^ 4 = subst (λ (x : ℕ). x < 256 ^ 4) (sym is) (number_take_below 4 b clean) in
        record {
          whole = (λ i. bytes 4 ((e ∙ is) i) ++ take n (drop 4 b) ++ s.whole i) ∙ append_assoc (bytes 4 (number_at 4 b 0)) (take n (drop 4 b)) (drop n (drop 4 b))
              ∙ ap (λ (x : List ℕ). bytes 4 (number_at 4 b 0) ++ x) (take-append-drop n (drop 4 b)) ∙ rejoin_one 4 b clean l;
          short = (subst (λ (x : ℕ). x < 256 ^ 4) (sym e) small, s.short);
          few = omega (arith, s.few);
        }

    go : (t : Bool) → eqb (length b) 0 ≡ t → cond t (answered []) (first_length b >>= onward k b) ≡ answered forms
        → ((d : List ℕ) (rest : List (List ℕ)) → Below 256 d → drawings_in k d ≡ answered rest → SliceOf k d rest) → SliceOf (suc k) b forms
    go true e q r = of_none forms (eqb-true _ _ e) (same_answer q)
    go false e q r =
        let q₁ = came (first_length b) _ q in
        let n = q₁.0 in
        let h = first_answered b n q₁.1 in
        let q₂ = came (drawings_in k (drop n (drop 4 b))) _ q₁.2 in
        subst (SliceOf (suc k) b) (same_answer q₂.2)
        (of_some n q₂.0 h.0 h.1 h.2 (r (drop n (drop 4 b)) q₂.0 (below_drop 256 n (drop 4 b) (below_drop 256 4 b clean)) q₂.1))

pub drawings_forth : (k : ℕ) (forms : List (List ℕ)) → Short forms → length forms ≤ k → drawings_in k (joined prefixed forms) ≡ answered forms
drawings_forth k [] s l = drawings_end [] k refl
drawings_forth zero (f ∷ fs) s l = absurd (not-suc-le-zero l)
drawings_forth (suc k) (f ∷ fs) s l =
    drawings_step b k (omega arith) ∙ goes (onward k b) first ∙ goes (λ rest. answered (take (length f) (f ++ more) ∷ rest)) (ap (drawings_in k) (drop-append_seam f more) ∙ drawings_forth k fs s.1 (omega arith))
    ∙ ap (λ (x : List ℕ). answered (x ∷ fs)) (take-append_seam f more)
  where
    more : List ℕ
    more = joined prefixed fs

    b : List ℕ
    b = prefixed f ++ more

    e : number_at 4 b 0 ≡ length f
    e = number_take 4 (length f) (f ++ more) s.0

    first : first_length b ≡ answered (length f)
    first =
        let fits : number_at 4 b 0 ≤ length (drop 4 b) = omega (arith, e, length-append f more) in
        first_whole b (omega arith) fits ∙ ap answered e

pub drawings_iff : (k : ℕ) (b : List ℕ) (forms : List (List ℕ)) → Below 256 b → (drawings_in k b ≡ answered forms) ↔ SliceOf k b forms
drawings_iff k b forms clean = (drawings_back k b forms clean, λ s. ap (drawings_in k) (sym s.whole) ∙ drawings_forth k forms s.short s.few)

-- and where it is none, 17 is given, without a place
pub drawings_17 : (k : ℕ) (b : List ℕ) (r : Refusal) → drawings_in k b ≡ refused r → r ≡ refusal 17
unfolding drawings_in ◌else◌ ◌>>◌ ◌>>=◌
drawings_17 zero b r e = go (eqb (length b) 0) e
  where
    go : (t : Bool) → ◌>>◌ {B = List (List ℕ)} (t else refusal 17) (answered []) ≡ refused r → r ≡ refusal 17
    go true q = absurd (never (sym q))
    go false q = let z : refusal 17 ≡ r = cc in sym z
drawings_17 (suc k) b r e = go (eqb (length b) 0) e (λ d. drawings_17 k d r)
  where
    go : (t : Bool) → cond t (answered []) (first_length b >>= onward k b) ≡ refused r → ((d : List ℕ) → drawings_in k d ≡ refused r → r ≡ refusal 17) → r ≡ refusal 17
    go true q h = absurd (never (sym q))
    go false q h = first (first_length b) refl q
      where
        then_rest : (n : ℕ) (m : Answer (List (List ℕ))) → drawings_in k (drop n (drop 4 b)) ≡ m → (m >>= λ rest. answered (take n (drop 4 b) ∷ rest)) ≡ refused r → r ≡ refusal 17
        then_rest n (refused x) is p = h (drop n (drop 4 b)) (is ∙ (let z : x ≡ r = cc in ap refused z))
        then_rest n (answered y) is p = absurd (never (sym p))

        first : (m : Answer ℕ) → first_length b ≡ m → (m >>= onward k b) ≡ refused r → r ≡ refusal 17
        first (refused x) is p = first_17 b r (is ∙ (let z : x ≡ r = cc in ap refused z))
        first (answered n) is p = then_rest n (drawings_in k (drop n (drop 4 b))) refl p

-- ---- the walk that checks

tested_more : {A B : Type 0} (m : Answer A) (f : A → B) → tested (m >>= λ x. answered (f x)) ≡ tested m
unfolding ◌>>=◌
tested_more (refused r) f = refl
tested_more (answered x) f = refl

-- the first lengths are in order, and at the rest it is decided
pub record Passed (b : List ℕ) (at count : ℕ) : Type 0 where
  pub within : at ≤ length b
  pub few : count ≤ most_drawings
  pub decided : tested (drawings_in most_drawings b) ≡ tested (drawings_in (most_drawings - count) (drop at b))

pub none_passed : (b : List ℕ) → Passed b 0 0
none_passed b = record { within = omega arith; few = omega arith; decided = refl }

module _ {b : List ℕ} {at count : ℕ} (p : Passed b at count) where
  pub all_passed : length b ≤ at → answered tt ≡ tested (drawings_in most_drawings b)
  all_passed l =
      let e : length (drop at b) ≡ 0 = simp length-drop (omega arith) in
      sym (p.decided ∙ ap tested (drawings_end (drop at b) (most_drawings - count) e))

  module _ (l : at < length b) where
    more : 0 < length (drop at b)
    more = simp length-drop (omega arith)

    pub too_many : count ≡ most_drawings → refused (refusal 17) ≡ tested (drawings_in most_drawings b)
    too_many e =
        let z : most_drawings - count ≡ 0 = omega arith in
        sym (p.decided ∙ ap (λ (k : ℕ). tested (drawings_in k (drop at b))) z ∙ ap tested (drawings_full (drop at b) more))

    module _ (d : count ≡ most_drawings → ⊥) where
      fewer : count + 1 ≤ most_drawings
      fewer = omega (arith, p.few)

      one_more : tested (drawings_in most_drawings b) ≡ tested (first_length (drop at b) >>= onward (most_drawings - (count + 1)) (drop at b))
      one_more =
          let z : most_drawings - count ≡ suc (most_drawings - (count + 1)) = omega (arith, fewer) in
          p.decided ∙ ap (λ (k : ℕ). tested (drawings_in k (drop at b))) z ∙ ap tested (drawings_step (drop at b) (most_drawings - (count + 1)) more)

      pub length_refused : (r : Refusal) → first_length (drop at b) ≡ refused r → refused r ≡ tested (drawings_in most_drawings b)
      length_refused r e = sym (one_more ∙ ap tested (stops (onward (most_drawings - (count + 1)) (drop at b)) e))

      pub one_passed : (n : ℕ) → first_length (drop at b) ≡ answered n → Passed b (at + 4 + n) (count + 1)
      one_passed n e =
          let h = first_answered (drop at b) n e in
          let k = most_drawings - (count + 1) in
          record {
            within = omega (arith, h.0, h.1, length-drop 4 (drop at b), length-drop at b);
            few = fewer;
            decided = one_more ∙ ap tested (goes (onward k (drop at b)) e) ∙ tested_more (drawings_in k (drop n (drop 4 (drop at b)))) (λ rest. take n (drop 4 (drop at b)) ∷ rest)
                ∙ ap (λ (x : List ℕ). tested (drawings_in k x)) (drop-drop n 4 (drop at b) ∙ drop-drop (4 + n) at b ∙ ap (λ (x : ℕ). drop x b) (let z : at + (4 + n) ≡ at + 4 + n = omega arith in z));
          }

-- ---- the walk that prices

-- i drawings are behind, and the next one's length stands at `at`
pub record Walked (b : List ℕ) (forms : List (List ℕ)) (i at : ℕ) : Type 0 where
  pub within : at ≤ length b
  pub most : ℕ
  pub ahead : drawings_in most (drop at b) ≡ answered (drop i forms)

-- where the next drawing stands
pub record Standing (b : List ℕ) (forms : List (List ℕ)) (i at : ℕ) : Type 0 where
  pub four : at + 4 ≤ length b
  pub inside : at + 4 + number_at 4 b at ≤ length b
  pub less : i < length forms
  pub form : take (number_at 4 b at) (drop (at + 4) b) ≡ get_or forms i []
  pub next : Walked b forms (i + 1) (at + 4 + number_at 4 b at)

pub none_walked : (b : List ℕ) (forms : List (List ℕ)) → drawings_in most_drawings b ≡ answered forms → Walked b forms 0 0
none_walked b forms e = record { within = omega arith; most = most_drawings; ahead = e }

module _ {b : List ℕ} {forms : List (List ℕ)} {i at : ℕ} (w : Walked b forms i at) where
  pub all_walked : length b ≤ at → length forms ≤ i
  all_walked l =
      let e : length (drop at b) ≡ 0 = simp length-drop (omega arith) in
      let none : drop i forms ≡ [] = same_answer (sym w.ahead ∙ drawings_end (drop at b) w.most e) in
      omega (arith, length-drop i forms, ap length none)

  pub standing : at < length b → Standing b forms i at
  standing l = go w.most w.ahead
    where
      d : List ℕ
      d = drop at b

      more : 0 < length d
      more = simp length-drop (omega arith)

      go : (k : ℕ) → drawings_in k d ≡ answered (drop i forms) → Standing b forms i at
      go zero e = absurd (never (sym (drawings_full d more) ∙ e))
      go (suc k) e =
          let q₁ = came (first_length d) (onward k d) (sym (drawings_step d k more) ∙ e) in
          let n = q₁.0 in
          let h = first_answered d n q₁.1 in
          let q₂ = came (drawings_in k (drop n (drop 4 d))) _ q₁.2 in
          let rest = q₂.0 in
          let split : take n (drop 4 d) ∷ rest ≡ drop i forms = same_answer q₂.2 in
          let less : i < length forms = omega (arith, ap length split, length-drop i forms) in
          let both : take n (drop 4 d) ∷ rest ≡ get_or forms i [] ∷ drop (suc i) forms = split ∙ drop-cons forms i [] less in
          let one : take n (drop 4 d) ≡ get_or forms i [] = cc in
          let others : rest ≡ drop (suc i) forms = cc in
          let is : n ≡ number_at 4 b at = h.2 in
          let i' : suc i ≡ i + 1 = omega arith in
          let a : at + (4 + n) ≡ at + 4 + number_at 4 b at = omega arith in
          record {
            four = omega (arith, h.0, length-drop at b);
            inside = omega (arith, h.0, h.1, length-drop 4 d, length-drop at b);
            less = less;
            form = (λ j. take (sym is j) (sym (drop-drop 4 at b) j)) ∙ one;
            next = record {
              within = omega (arith, h.0, h.1, length-drop 4 d, length-drop at b);
              most = k;
              ahead = ap (drawings_in k) (sym (drop-drop n 4 d ∙ drop-drop (4 + n) at b ∙ ap (λ (x : ℕ). drop x b) a)) ∙ q₂.1 ∙ ap answered (others ∙ ap (λ (x : ℕ). drop x forms) i');
            };
          }

-- ---- its drawings are bytes

abbrev pub Clean : List (List ℕ) → Type 0
Clean [] = Unit {0}
Clean (form ∷ forms) = Below 256 form × Clean forms

pub forms_clean : (forms : List (List ℕ)) → Below 256 (joined prefixed forms) → Clean forms
forms_clean [] c = tt
forms_clean (f ∷ fs) c =
    (below_back 256 (bytes 4 (length f)) f (below_front 256 (prefixed f) (joined prefixed fs) c), forms_clean fs (below_back 256 (prefixed f) (joined prefixed fs) c))

pub clean_take : (i : ℕ) (forms : List (List ℕ)) → Clean forms → Clean (take i forms)
clean_take zero forms c = tt
clean_take (suc i) [] c = tt
clean_take (suc i) (f ∷ fs) c = (c.0, clean_take i fs c.1)
