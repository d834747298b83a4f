-- The first removal's two parts in words: arcs out are put in and lowered again, as the model does.
-- Assumes nothing.
use mathlib.Core.Path.{◌≡◌, refl, sym, ap, ◌∙◌, subst}
use mathlib.Core.Bool.{Bool, true, false, cond}
use mathlib.Core.List.Memᴰ
use mathlib.Core.List.{List, [], ◌∷◌, ◌++◌}
use mathlib.Core.Logic.{◌≢◌, ◌⊎◌, inl, inr}
use Prim.Native.Nat.{ℕ, zero, suc, ◌+◌, ◌*◌, ◌%◌, ◌≤◌, ◌<◌}
use native.Mathlib.Decide.{dec_lt}
use native.Mathlib.Numerals.{add-one}
use native.Mathlib.Omega.{arith}
use lib.Dec.{eqb}
use lib.ListN.{length, get_or, set, take}
use lib.Seq.{get_or-take, take-set-lt}
use borrow.Author.Tests.{eq-eqb, ne_eqb}
use Rattle.choice.specs.Arcs.{In}
use Rattle.choice.specs.Drawing.{arcs}
use Rattle.graph.specs.Graph.{Graph}
use Rattle.halves.specs.Halves.{Halves, lower, lower_all, raise_to, ends_to}
use Rattle.halves.proofs.Waiting.{lower_all_front}
use Rattle.incidence.specs.Incidence.{neighbours}
use Rattle.tables.specs.Tables.{most_vertices, lists_at, picked_at}
use Rattle.removal.specs.Room.{Source, part, halves_in, count_of, start_of, list_in, AllLow, Roomy, Steady, Went}
use Rattle.removal.proofs.Rooms.{roomy_all}
use Rattle.removal.proofs.Tables.{steady_none, steady_trans, steady_degree}
use Rattle.removal.proofs.Walks.{listed_length, formed_length}
use Rattle.removal.proofs.Peeling.{list_room_lem, list_form}
use Rattle.reasons.specs.Told.{raised, end_at, ends_in, Tabled}
use Rattle.reasons.proofs.Rooms.{waited_long}

-- ---- arcs out are put in

pub raised_kept : (x : ℕ) (W : List ℕ) → get_or W (2 * x + 1) 0 ≢ 0 → W ≡ raised x W
unfolding raised
raised_kept x W n = sym (ap (λ (b : Bool). cond b (set W (2 * x + 1) 1) W) (ne_eqb (get_or W (2 * x + 1) 0) 0 n))

pub raised_set : (x : ℕ) (W : List ℕ) → get_or W (2 * x + 1) 0 ≡ 0 → set W (2 * x + 1) 1 ≡ raised x W
unfolding raised
raised_set x W e = sym (ap (λ (b : Bool). cond b (set W (2 * x + 1) 1) W) (eq-eqb (get_or W (2 * x + 1) 0) 0 e))

-- of the first k vertices so far
abbrev pub raised_by : List ℕ → ℕ → ℕ → Halves
raised_by W n k = record { degrees = raise_to k (halves_in W n 0).degrees; waiting = [] }

pub raises_start : (W : List ℕ) (n : ℕ) → Went W W n 0 (raised_by W n 0)
unfolding raise_to halves_in part
raises_start W n = record { few = omega arith; is = refl; frame = steady_none W }

pub raises_turn : (W X Y : List ℕ) (n x : ℕ) → x < n → n ≤ most_vertices → Went W X n 0 (raised_by W n x) → Y ≡ raised x X → Went W Y n 0 (raised_by W n (x + 1))
unfolding raise_to halves_in part raised
raises_turn W X Y n x l few w e = record {
  few = omega arith;
  is = λ i. record { degrees = degrees i; waiting = [] };
  frame = steady_trans w.frame (subst (Steady X) (sym e) (frame (eqb (get_or X (2 * x + 1) 0) 0)));
}
  where
    so : take (2 * n) X ≡ raise_to x (take (2 * n) W)
    so = ap (λ (h : Halves). h.degrees) w.is

    frame : (b : Bool) → Steady X (cond b (set X (2 * x + 1) 1) X)
    frame true = steady_degree X (2 * x + 1) 1 (omega arith)
    frame false = steady_none X

    here : get_or X (2 * x + 1) 0 ≡ get_or (raise_to x (take (2 * n) W)) (2 * x + 1) 0
    here = sym (get_or-take (2 * n) X (2 * x + 1) 0 (omega arith)) ∙ ap (λ (d : List ℕ). get_or d (2 * x + 1) 0) so

    step : (b : Bool) → take (2 * n) (cond b (set X (2 * x + 1) 1) X) ≡ cond b (set (raise_to x (take (2 * n) W)) (2 * x + 1) 1) (raise_to x (take (2 * n) W))
    step true = take-set-lt (2 * n) X (2 * x + 1) 1 (omega arith) ∙ ap (λ (d : List ℕ). set d (2 * x + 1) 1) so
    step false = so

    degrees : take (2 * n) Y ≡ raise_to (x + 1) (take (2 * n) W)
    degrees =
        ap (take (2 * n)) e ∙ step (eqb (get_or X (2 * x + 1) 0) 0)
        ∙ ap (λ (v : ℕ). cond (eqb v 0) (set (raise_to x (take (2 * n) W)) (2 * x + 1) 1) (raise_to x (take (2 * n) W))) here
        ∙ ap (λ (k : ℕ). raise_to k (take (2 * n) W)) (sym (add-one x))

-- ---- and lowered again

pub end_none : (W : List ℕ) (x : ℕ) (h : Halves) → count_of W (2 * x) ≢ 0 → h ≡ lower_all (end_at W x) h
unfolding lower_all
end_none W x h n = ap (λ (b : Bool). lower_all (cond b ((2 * x + 1) ∷ []) []) h) (sym (ne_eqb (count_of W (2 * x)) 0 n))

pub end_one : (W : List ℕ) (x : ℕ) (h : Halves) → count_of W (2 * x) ≡ 0 → lower (2 * x + 1) h ≡ lower_all (end_at W x) h
unfolding lower_all
end_one W x h e = ap (λ (b : Bool). lower_all (cond b ((2 * x + 1) ∷ []) []) h) (sym (eq-eqb (count_of W (2 * x)) 0 e))

pub ends_low : (W : List ℕ) (n k : ℕ) → k ≤ n → AllLow n (ends_in W k)
ends_low W n zero l t m = absurd (Memᴰ.not-nil m)
ends_low W n (suc k) l t m = go (eqb (count_of W (2 * k)) 0) (Memᴰ.append_cases (ends_in W k) m) (ends_low W n k (omega arith) t)
  where
    go : (b : Bool) → In t (ends_in W k) ⊎ In t (cond b ((2 * k + 1) ∷ []) []) → (In t (ends_in W k) → t < 2 * n) → t < 2 * n
    go b (inl j) r = r j
    go true (inr j) r = let e = Memᴰ.eq_of_singleton j in omega arith
    go false (inr j) r = absurd (Memᴰ.not-nil j)

lower_all_append : (xs ys : List ℕ) (h : Halves) → lower_all (xs ++ ys) h ≡ lower_all ys (lower_all xs h)
unfolding lower_all
lower_all_append [] ys h = refl
lower_all_append (x ∷ xs) ys h = lower_all_append xs ys (lower x h)

module _ (W X : List ℕ) (n end : ℕ) (few : n ≤ most_vertices) where
  pub ends_start : end ≤ n → Went W W n end (lower_all (ends_in W 0) (halves_in W n end))
  unfolding lower_all
  ends_start l = record { few = l; is = refl; frame = steady_none W }

  pub ends_roomy : (k last : ℕ) → k ≤ n → Roomy n (halves_in W n end) → Went W X n last (lower_all (ends_in W k) (halves_in W n end)) → Roomy n (halves_in X n last)
  ends_roomy k last l r w = subst (Roomy n) (sym w.is) (roomy_all n (ends_in W k) (halves_in W n end) (ends_low W n k l) r)

  pub ends_turn : (Y : List ℕ) (k last r : ℕ) → k < n → Went W X n last (lower_all (ends_in W k) (halves_in W n end)) → Went X Y n r (lower_all (end_at X k) (halves_in X n last))
      → Went W Y n r (lower_all (ends_in W (k + 1)) (halves_in W n end))
  ends_turn Y k last r l w v = record {
    few = v.few;
    is = v.is ∙ (λ i. lower_all (same i) (w.is i)) ∙ sym (lower_all_append (ends_in W k) (end_at W k) (halves_in W n end)) ∙ ap (λ (j : ℕ). lower_all (ends_in W j) (halves_in W n end)) (sym (add-one k));
    frame = steady_trans w.frame v.frame;
  }
    where
      same : end_at X k ≡ end_at W k
      same = ap (λ (c : ℕ). cond (eqb c 0) ((2 * k + 1) ∷ []) []) (w.frame.same (lists_at + 2 * (2 * k) + 1) (omega arith) (inl (omega arith)))

-- nobody leaves the waiting list
pub ends_later : (W X : List ℕ) (n end last : ℕ) → n ≤ most_vertices → picked_at ≤ length W → end ≤ n → Went W X n last (lower_all (ends_in W n) (halves_in W n end)) → end ≤ last
ends_later W X n end last few long l w =
    omega (
      arith,
      waited_long W n end l few long,
      waited_long X n last w.few few (omega (arith, w.frame.long)),
      ap (λ (h : Halves). length h.waiting) w.is,
      (lower_all_front (ends_in W n) (halves_in W n end)).longer,
    )

-- ---- they are the ends of the drawing

module _ (s : Source) (g : Graph) (X : List ℕ) (nodes n : ℕ) (few : n ≤ most_vertices) (long : picked_at ≤ length X) (t : Tabled s g X nodes n) where
  count_is : (y : ℕ) → y < 2 * n → count_of X y ≡ length (neighbours (arcs g) y)
  count_is y l = go (dec_lt y (2 * nodes)) ∙ ap length (t.are y l)
    where
      go : Dec (y < 2 * nodes) → count_of X y ≡ length (list_in s X nodes y)
      go (yes k) = sym (ap length (list_room_lem s X nodes y k) ∙ listed_length X (start_of X y) (count_of X y) (t.lists.room_inside y k) long)
      go (no k) = sym (ap length (list_form s X nodes y (omega arith)) ∙ formed_length s (start_of X y) (count_of X y) (y % 2))

  ends_to_lem : (k : ℕ) → k ≤ n → ends_in X k ≡ ends_to (neighbours (arcs g)) k
  unfolding ends_to
  ends_to_lem zero l = refl
  ends_to_lem (suc k) l = λ i. ends_to_lem k (omega arith) i ++ cond (eqb (count_is (2 * k) (omega arith) i) 0) ((2 * k + 1) ∷ []) []

  pub ends_are : ends_in X n ≡ ends_to (neighbours (arcs g)) n
  ends_are = ends_to_lem n (omega arith)
