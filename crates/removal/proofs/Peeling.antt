-- The loop that walks the halves that wait, as the model does: start, turn and done.
-- Assumes nothing.
use mathlib.Core.Path.{◌≡◌, refl, sym, ap, ◌∙◌, subst}
use mathlib.Core.Bool.{Bool, true, false, cond}
use mathlib.Core.List.{List, [], ◌∷◌, ◌++◌}
use mathlib.Core.Logic.{inl}
use Prim.Native.Nat.{ℕ, zero, suc, ◌+◌, ◌-◌, ◌*◌, ◌%◌, ◌≤◌, ◌<◌}
use native.Mathlib.Nat.{le_refl}
use native.Mathlib.Numerals.{add-one}
use native.Mathlib.Omega.{arith}
use lib.Dec.{eqb}
use lib.ListN.{length, get_or, set, length-append}
use borrow.Author.Tests.{lt-ltb, le-ltb}
use Rattle.le.specs.Rows.{Holds}
use Rattle.halves.specs.Halves.{mate, Halves, lower, lower_all, peel_from}
use Rattle.tables.specs.Tables.{most_vertices, lists_at, waiting_at, picked_at}
use Rattle.removal.specs.Room.{Source, halves_in, start_of, count_of, room_list, form_list, list_in, AllLow, Steady, Roomy, Went, Lists}
use Rattle.removal.proofs.Rooms.{roomy_all}
use Rattle.removal.proofs.Tables.{part_length, part_at, steady_none, steady_trans, list_same, list_steady}
use Rattle.removal.proofs.Walks.{in_get_d}

-- ---- the list of a half, where it stands

pub list_room_lem : (s : Source) (W : List ℕ) (nodes y : ℕ) → y < 2 * nodes → list_in s W nodes y ≡ room_list W (start_of W y) (count_of W y)
unfolding list_in
list_room_lem s W nodes y l = rw (lt-ltb y (2 * nodes) l)

pub list_form : (s : Source) (W : List ℕ) (nodes y : ℕ) → 2 * nodes ≤ y → list_in s W nodes y ≡ form_list s (start_of W y) (count_of W y) (y % 2)
unfolding list_in
list_form s W nodes y l = rw (le-ltb y (2 * nodes) l)

-- what walks a list where it stands walks the list of its half
module _ (s : Source) (W X : List ℕ) (nodes n y start count end last : ℕ) (e : start ≡ start_of W y) (f : count ≡ count_of W y) where
  is_room : y < 2 * nodes → list_in s W nodes y ≡ room_list W start count
  is_room l = list_room_lem s W nodes y l ∙ (λ i. room_list W (sym e i) (sym f i))

  is_form : 2 * nodes ≤ y → list_in s W nodes y ≡ form_list s start count (y % 2)
  is_form l = list_form s W nodes y l ∙ (λ i. form_list s (sym e i) (sym f i) (y % 2))

  pub low_listed : y < 2 * nodes → AllLow n (list_in s W nodes y) → AllLow n (room_list W start count)
  low_listed l = subst (AllLow n) (is_room l)

  pub low_formed : 2 * nodes ≤ y → AllLow n (list_in s W nodes y) → AllLow n (form_list s start count (y % 2))
  low_formed l = subst (AllLow n) (is_form l)

  pub went_listed : y < 2 * nodes → Went W X n last (lower_all (room_list W start count) (halves_in W n end)) → Went W X n last (lower_all (list_in s W nodes y) (halves_in W n end))
  went_listed l = subst (λ (ts : List ℕ). Went W X n last (lower_all ts (halves_in W n end))) (sym (is_room l))

  pub went_formed : 2 * nodes ≤ y → Went W X n last (lower_all (form_list s start count (y % 2)) (halves_in W n end)) → Went W X n last (lower_all (list_in s W nodes y) (halves_in W n end))
  went_formed l = subst (λ (ts : List ℕ). Went W X n last (lower_all ts (halves_in W n end))) (sym (is_form l))

-- the places of the lists are as they were
pub lists_same : (s : Source) (W X : List ℕ) (nodes n : ℕ) → n ≤ most_vertices → nodes ≤ n → picked_at ≤ length W → length X ≡ length W
    → ((i : ℕ) → lists_at ≤ i → i < waiting_at → get_or X i 0 ≡ get_or W i 0) → Lists s W nodes n → Lists s X nodes n
lists_same s W X nodes n few less long e t l = record {
  room_inside = λ y k. omega (arith, l.room_inside y k, start y (omega arith), count y (omega arith));
  form_inside = λ y a k. subst (Holds s.bytes s.row) (λ i. sym (start y (omega arith)) i + sym (count y (omega arith)) i) (l.form_inside y a k);
  low = λ y k. subst (AllLow n) (sym (list_same s W X nodes y (omega arith) e t (omega arith) (l.room_inside y))) (l.low y k);
}
  where
    start : (y : ℕ) → y < lists_at → start_of X y ≡ start_of W y
    start y k = t (lists_at + 2 * y) (omega arith) (omega arith)

    count : (y : ℕ) → y < lists_at → count_of X y ≡ count_of W y
    count y k = t (lists_at + 2 * y + 1) (omega arith) (omega arith)

pub lists_steady : (s : Source) (W X : List ℕ) (nodes n : ℕ) → n ≤ most_vertices → nodes ≤ n → picked_at ≤ length W → Steady W X → Lists s W nodes n → Lists s X nodes n
lists_steady s W X nodes n few less long t l = lists_same s W X nodes n few less long t.long (λ i a b. t.same i a (inl b)) l

-- ---- nobody leaves the waiting list

lower_grows : (y : ℕ) (h : Halves) → length h.waiting ≤ length (lower y h).waiting
unfolding lower
lower_grows y h = go (eqb (get_or h.degrees y 0) 1)
  where
    go : (t : Bool) → length h.waiting ≤ length (cond {A = Halves} t (record { degrees = set (set h.degrees y 0) (mate y) 0; waiting = h.waiting ++ (y ∷ []) }) (record { degrees = set h.degrees y (get_or h.degrees y 0 - 1); waiting = h.waiting })).waiting
    go true = omega (arith, length-append h.waiting (y ∷ []))
    go false = le_refl (length h.waiting)

pub lower_all_grows : (ts : List ℕ) (h : Halves) → length h.waiting ≤ length (lower_all ts h).waiting
unfolding lower_all
lower_all_grows [] h = le_refl (length h.waiting)
lower_all_grows (y ∷ ts) h = omega (arith, lower_grows y h, lower_all_grows ts (lower y h))

-- ---- the loop

-- what is left to be done is what was to be done
pub record Peeling (s : Source) (W X : List ℕ) (nodes n from end first last : ℕ) : Type 0 where
  pub ordered : first ≤ last
  pub few : last ≤ n
  pub frame : Steady W X
  pub roomy : Roomy n (halves_in X n last)
  pub same : peel_from (n - first) (list_in s W nodes) first (halves_in X n last) ≡ peel_from (n - from) (list_in s W nodes) from (halves_in W n end)

peel_one : (k : ℕ) (lists : ℕ → List ℕ) (first : ℕ) (h : Halves) → first < length h.waiting
    → peel_from (suc k) lists first h ≡ peel_from k lists (suc first) (lower_all (lists (get_or h.waiting first 0)) h)
unfolding peel_from
peel_one k lists first h l = rw (lt-ltb first (length h.waiting) l)

peel_none : (k : ℕ) (lists : ℕ → List ℕ) (first : ℕ) (h : Halves) → length h.waiting ≤ first → peel_from k lists first h ≡ h
unfolding peel_from
peel_none zero lists first h l = refl
peel_none (suc k) lists first h l = rw (le-ltb first (length h.waiting) l)

module _ (s : Source) (W : List ℕ) (nodes n from end : ℕ) (few : n ≤ most_vertices) (long : picked_at ≤ length W) where
  module _ (X : List ℕ) (first last : ℕ) (p : Peeling s W X nodes n from end first last) where
    waiting_long : length (halves_in X n last).waiting ≡ last
    unfolding halves_in
    waiting_long = part_length X waiting_at last (omega (arith, p.few, p.frame.long))

    pub waiting_read : first < last → get_or (halves_in X n last).waiting first 0 ≡ get_or X (waiting_at + first) 0
    unfolding halves_in
    waiting_read l = part_at X waiting_at last first l

    -- the half that is read is one of n vertices
    pub next_low : first < last → get_or X (waiting_at + first) 0 < 2 * n
    next_low l =
        subst (λ (y : ℕ). y < 2 * n) (waiting_read l)
        (p.roomy.low (get_or (halves_in X n last).waiting first 0) (in_get_d (halves_in X n last).waiting first (omega (arith, waiting_long))))

    pub peeling_turn : first < last → Lists s W nodes n → (y : ℕ) → y ≡ get_or X (waiting_at + first) 0 → (Y : List ℕ) (r : ℕ)
        → Went X Y n r (lower_all (list_in s X nodes y) (halves_in X n last)) → Peeling s W Y nodes n from end (first + 1) r
    peeling_turn l lists y e Y r w = record {
      ordered = omega (arith, waiting_long, ap (λ (k : Halves). length k.waiting) is, lower_all_grows (list_in s W nodes y) h, waiting_Y);
      few = w.few;
      frame = steady_trans p.frame w.frame;
      roomy = subst (Roomy n) (sym is) (roomy_all n (list_in s W nodes y) h (lists.low y low) p.roomy);
      same = again ∙ p.same;
    }
      where
        h : Halves
        h = halves_in X n last

        low : y < 2 * n
        low = omega (arith, next_low l)

        is : halves_in Y n r ≡ lower_all (list_in s W nodes y) h
        is = w.is ∙ ap (λ (ts : List ℕ). lower_all ts h) (list_steady s W X nodes y (omega (arith, low)) p.frame (omega arith) (lists.room_inside y))

        waiting_Y : length (halves_in Y n r).waiting ≡ r
        waiting_Y = unfold halves_in in part_length Y waiting_at r (omega (arith, w.few, w.frame.long, p.frame.long))

        k : ℕ
        k = n - (first + 1)

        more : n - first ≡ suc k
        more = omega (arith, p.few)

        again : peel_from (n - (first + 1)) (list_in s W nodes) (first + 1) (halves_in Y n r) ≡ peel_from (n - first) (list_in s W nodes) first h
        again =
            sym (ap (λ (m : ℕ). peel_from m (list_in s W nodes) first h) more
            ∙ peel_one k (list_in s W nodes) first h (omega (arith, waiting_long))
            ∙ (λ i. peel_from k (list_in s W nodes) (sym (add-one first) i) (lower_all (list_in s W nodes ((waiting_read l ∙ sym e) i)) h))
            ∙ ap (peel_from k (list_in s W nodes) (first + 1)) (sym is))

    pub peeling_done : last ≤ first → Went W X n last (peel_from (n - from) (list_in s W nodes) from (halves_in W n end))
    peeling_done l = record {
      few = p.few;
      is = sym (peel_none (n - first) (list_in s W nodes) first (halves_in X n last) (omega (arith, waiting_long))) ∙ p.same;
      frame = p.frame;
    }
