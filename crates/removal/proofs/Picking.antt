-- A node goes by choice: both its halves are set to 0, then both its lists are walked, as the model does; and what the steps keep of the room.
-- Assumes nothing.
use mathlib.Core.Path.{◌≡◌, refl, sym, ap, ◌∙◌, subst}
use mathlib.Core.Bool.{Bool, true, false, ◌&&◌, cond, not}
use mathlib.Core.List.{List, [], ◌∷◌}
use mathlib.Core.Logic.{◌≢◌}
use Prim.Native.Nat.{ℕ, zero, suc, ◌+◌, ◌*◌, ◌≤◌, ◌<◌, zero-le, suc-le-suc}
use native.Mathlib.Decide.{ℕ_discrete}
use native.Mathlib.Omega.{arith}
use lib.Dec.{T, eqb, ltb}
use lib.ListN.{length, get_or, set, take, length-set}
use lib.Seq.{get_or-set_same, get_or-set_other, take-set-lt}
use borrow.Author.Tests.{eq-eqb, ne_eqb, ltb-true}
use Rattle.choice.specs.Arcs.{bump, how_many, Set, vertices, size, passing}
use Rattle.halves.specs.Halves.{vertex, mate, live, Halves, lower_all, peel_from, drop_both, pick}
use Rattle.halves.proofs.Less.{set_less}
use Rattle.tables.specs.Tables.{most_vertices, waiting_at, picked_at}
use Rattle.removal.specs.Room.{Source, part, halves_in, list_in, AllLow, Roomy, Went, Lists}
use Rattle.removal.proofs.Rooms.{roomy_all}
use Rattle.removal.proofs.Tables.{part_ext, steady_trans, steady_degree, list_steady}
use Rattle.removal.proofs.Walks.{in_get_d}

-- ---- fewer are live where degrees are lower

passing_less : (p q : ℕ → Bool) (S : Set) → ((x : ℕ) → T (q x) → T (p x)) → size (passing q S) ≤ size (passing p S)
unfolding size how_many passing
passing_less p q [] h = zero-le
passing_less p q (b ∷ S) h = go b (p zero) (q zero) (h zero) (passing_less (λ v. p (suc v)) (λ v. q (suc v)) S (λ v. h (suc v)))
  where
    l : ℕ
    l = size (passing (λ v. q (suc v)) S)

    r : ℕ
    r = size (passing (λ v. p (suc v)) S)

    go : (a c d : Bool) → (T d → T c) → l ≤ r → bump (a && d) l ≤ bump (a && c) r
    go true true true f k = suc-le-suc k
    go true true false f k = omega arith
    go true false true f k = absurd (f tt)
    go true false false f k = k
    go false c d f k = k

pub live_less : (n : ℕ) (d e : List ℕ) → ((y : ℕ) → get_or e y 0 ≤ get_or d y 0) → size (live n e) ≤ size (live n d)
unfolding live
live_less n d e h = passing_less (λ x. not (eqb (get_or d (2 * x) 0) 0)) (λ x. not (eqb (get_or e (2 * x) 0) 0)) (vertices n) (λ x t. at x t (ℕ_discrete (get_or d (2 * x) 0) 0))
  where
    at : (x : ℕ) → T (not (eqb (get_or e (2 * x) 0) 0)) → Dec (get_or d (2 * x) 0 ≡ 0) → T (not (eqb (get_or d (2 * x) 0) 0))
    at x t (yes z) = absurd (subst T (ap not (eq-eqb (get_or e (2 * x) 0) 0 (omega (arith, h (2 * x))))) t)
    at x t (no f) = subst T (sym (ap not (ne_eqb (get_or d (2 * x) 0) 0 f))) tt

-- ---- what the steps keep of the room

pub roomy_drop : (n : ℕ) (h : Halves) (x : ℕ) → x < n → Roomy n h → Roomy n (record { degrees = drop_both x h.degrees; waiting = h.waiting })
unfolding drop_both
roomy_drop n h x l r = record {
  long = length-set (set d (2 * x) 0) (2 * x + 1) 0 ∙ length-set d (2 * x) 0 ∙ r.long;
  paired = λ z p. paired z p (ℕ_discrete (vertex z) x);
  room = omega (arith, r.room, live_less n d e (λ y. omega (arith, set_less (set d (2 * x) 0) (2 * x + 1) 0 y (omega arith), set_less d (2 * x) 0 y (omega arith))));
  low = r.low;
}
  where
    d : List ℕ
    d = h.degrees

    e : List ℕ
    e = set (set d (2 * x) 0) (2 * x + 1) 0

    other : (z : ℕ) → vertex z ≢ x → get_or e z 0 ≡ get_or d z 0
    other z p = get_or-set_other (set d (2 * x) 0) (2 * x + 1) z 0 0 (λ f. p (omega arith)) ∙ get_or-set_other d (2 * x) z 0 0 (λ f. p (omega arith))

    none : (z : ℕ) → vertex z ≡ x → get_or e z 0 ≡ 0
    none z p = go (ℕ_discrete z (2 * x))
      where
        go : Dec (z ≡ 2 * x) → get_or e z 0 ≡ 0
        go (yes f) = ap (λ (k : ℕ). get_or e k 0) f ∙ get_or-set_other (set d (2 * x) 0) (2 * x + 1) (2 * x) 0 0 (λ f. omega arith) ∙ get_or-set_same d (2 * x) 0 0 (omega (arith, r.long))
        go (no f) = let g : z ≡ 2 * x + 1 = omega arith in ap (λ (k : ℕ). get_or e k 0) g ∙ get_or-set_same (set d (2 * x) 0) (2 * x + 1) 0 0 (rw length-set (omega (arith, r.long)))

    paired : (z : ℕ) → get_or e z 0 ≡ 0 → Dec (vertex z ≡ x) → get_or e (mate z) 0 ≡ 0
    paired z p (yes f) = none (mate z) (omega arith)
    paired z p (no f) = other (mate z) (λ g. f (omega arith)) ∙ r.paired z (sym (other z f) ∙ p)

pub roomy_pick : (n : ℕ) (lists : ℕ → List ℕ) (h : Halves) (x : ℕ) → x < n → ((y : ℕ) → y < 2 * n → AllLow n (lists y)) → Roomy n h → Roomy n (pick lists x h)
unfolding pick
roomy_pick n lists h x l low r =
    roomy_all n (lists (2 * x + 1)) (lower_all (lists (2 * x)) k) (low (2 * x + 1) (omega arith)) (roomy_all n (lists (2 * x)) k (low (2 * x) (omega arith)) (roomy_drop n h x l r))
  where
    k : Halves
    k = record { degrees = drop_both x h.degrees; waiting = h.waiting }

pub roomy_peel : (k n : ℕ) (lists : ℕ → List ℕ) (first : ℕ) (h : Halves) → ((y : ℕ) → y < 2 * n → AllLow n (lists y)) → Roomy n h → Roomy n (peel_from k lists first h)
unfolding peel_from
roomy_peel zero n lists first h low r = r
roomy_peel (suc k) n lists first h low r = go (ltb first (length h.waiting)) refl (λ s. roomy_peel k n lists (suc first) l low s)
  where
    l : Halves
    l = lower_all (lists (get_or h.waiting first 0)) h

    go : (t : Bool) → ltb first (length h.waiting) ≡ t → (Roomy n l → Roomy n (peel_from k lists (suc first) l)) → Roomy n (cond t (peel_from k lists (suc first) l) h)
    go true e s =
        s (roomy_all n (lists (get_or h.waiting first 0)) h
        (low (get_or h.waiting first 0) (r.low (get_or h.waiting first 0) (in_get_d h.waiting first (ltb-true first (length h.waiting) e)))) r)
    go false e s = r

-- ---- in words

module _ (W : List ℕ) (n end x : ℕ) (few : n ≤ most_vertices) (fits : end ≤ n) (low : x < n) (long : picked_at ≤ length W) where
  pub zeroed : Went W (set (set W (2 * x) 0) (2 * x + 1) 0) n end (record { degrees = drop_both x (halves_in W n end).degrees; waiting = (halves_in W n end).waiting })
  unfolding halves_in drop_both
  zeroed = record {
    few = fits;
    frame = steady_trans (steady_degree W (2 * x) 0 (omega arith)) (steady_degree (set W (2 * x) 0) (2 * x + 1) 0 (omega arith));
    is = λ i. record { degrees = degrees i; waiting = waiting i };
  }
    where
      X : List ℕ
      X = set (set W (2 * x) 0) (2 * x + 1) 0

      degrees : take (2 * n) X ≡ set (set (take (2 * n) W) (2 * x) 0) (2 * x + 1) 0
      degrees = take-set-lt (2 * n) (set W (2 * x) 0) (2 * x + 1) 0 (omega arith) ∙ ap (λ (l : List ℕ). set l (2 * x + 1) 0) (take-set-lt (2 * n) W (2 * x) 0 (omega arith))

      waiting : part X waiting_at end ≡ part W waiting_at end
      waiting =
          part_ext W X waiting_at end (length-set (set W (2 * x) 0) (2 * x + 1) 0 ∙ length-set W (2 * x) 0) (omega arith)
          (λ i k. get_or-set_other (set W (2 * x) 0) (2 * x + 1) (waiting_at + i) 0 0 (λ e. omega arith) ∙ get_or-set_other W (2 * x) (waiting_at + i) 0 0 (λ e. omega arith))

-- one list more is walked
pub went_list : (s : Source) (W X Y : List ℕ) (nodes n y e f : ℕ) (h : Halves) → n ≤ most_vertices → y < 2 * n → picked_at ≤ length W → Lists s W nodes n
    → Went W X n e h → Went X Y n f (lower_all (list_in s X nodes y) (halves_in X n e)) → Went W Y n f (lower_all (list_in s W nodes y) h)
went_list s W X Y nodes n y e f h few low long l w v = record {
  few = v.few;
  is = v.is ∙ (λ i. lower_all (list_steady s W X nodes y (omega arith) w.frame (omega arith) (l.room_inside y) i) (w.is i));
  frame = steady_trans w.frame v.frame;
}
