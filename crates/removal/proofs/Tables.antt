-- The model's state in the words of the room: reads, the three writes of one lowered arc, and what a change leaves alone.
-- Assumes nothing.
use mathlib.Core.Path.{◌≡◌, refl, sym, ap, ◌∙◌}
use mathlib.Core.Bool.{Bool, true, false, cond}
use mathlib.Core.List.{List, [], ◌∷◌, ◌++◌}
use mathlib.Core.Logic.{◌≢◌, inl, ⊎_elim}
use Prim.Native.Nat.{ℕ, ◌+◌, ◌-◌, ◌*◌, ◌%◌, ◌≤◌, ◌<◌}
use native.Mathlib.Numerals.{add-one}
use native.Mathlib.Omega.{arith}
use lib.Dec.{ltb}
use lib.ListN.{length, get_or, set, take, drop, length-set, length-take, length-drop}
use lib.Seq.{get_or-set_same, get_or-set_other, get_or-take, get_or-drop, ext_get_or, take-suc, take-set-lt, take-set-le}
use borrow.Author.Tests.{eq-eqb, ne_eqb, ltb-true}
use Rattle.halves.specs.Halves.{mate, lower}
use Rattle.tables.specs.Tables.{most_vertices, most_ports, lists_at, entries_at, waiting_at, picked_at}
use Rattle.removal.specs.Room.{Source, part, halves_in, start_of, count_of, room_list, form_list, list_in, Steady, Went}

-- ---- parts

pub part_length : (W : List ℕ) (off n : ℕ) → off + n ≤ length W → length (part W off n) ≡ n
unfolding part
part_length W off n h = simp (length-take, length-drop) (omega arith)

pub part_at : (W : List ℕ) (off n i : ℕ) → i < n → get_or (part W off n) i 0 ≡ get_or W (off + i) 0
unfolding part
part_at W off n i h = get_or-take n (drop off W) i 0 h ∙ get_or-drop off W i 0

pub part_ext : (W X : List ℕ) (off n : ℕ) → length X ≡ length W → off + n ≤ length W
    → ((i : ℕ) → i < n → get_or X (off + i) 0 ≡ get_or W (off + i) 0) → part X off n ≡ part W off n
part_ext W X off n l h s =
    let lx = part_length X off n (omega arith) in
    let lw = part_length W off n h in
    ext_get_or 0 (part X off n) (part W off n) (lx ∙ sym lw)
    (λ i k. let j : i < n = omega arith in part_at X off n i j ∙ s i j ∙ sym (part_at W off n i j))

pub part_snoc : (W : List ℕ) (off k : ℕ) → off + k < length W → part W off (k + 1) ≡ part W off k ++ (get_or W (off + k) 0 ∷ [])
unfolding part
part_snoc W off k h =
    let i : k < length (drop off W) = omega (arith, length-drop off W) in
    rw add-one (take-suc (drop off W) k 0 i ∙ ap (λ (v : ℕ). take k (drop off W) ++ (v ∷ [])) (get_or-drop off W k 0))

-- ---- what stays

pub steady_none : (W : List ℕ) → Steady W W
steady_none W = record { long = refl; same = λ i a b. refl }

pub steady_trans : {W X Y : List ℕ} → Steady W X → Steady X Y → Steady W Y
steady_trans a b = record { long = b.long ∙ a.long; same = λ i p q. b.same i p q ∙ a.same i p q }

pub steady_degree : (W : List ℕ) (i v : ℕ) → i < lists_at → Steady W (set W i v)
steady_degree W i v l = record { long = length-set W i v; same = λ j p q. get_or-set_other W i j v 0 (λ e. omega arith) }

pub steady_waiting : (W : List ℕ) (i v : ℕ) → i < most_vertices → Steady W (set W (waiting_at + i) v)
steady_waiting W i v l = record {
  long = length-set W (waiting_at + i) v;
  same = λ j p q. get_or-set_other W (waiting_at + i) j v 0 (⊎_elim (λ s e. omega arith) (λ s e. omega arith) q);
}

-- the lists are as they were
pub list_same : (s : Source) (W X : List ℕ) (nodes y : ℕ) → y < lists_at → length X ≡ length W → ((i : ℕ) → lists_at ≤ i → i < waiting_at → get_or X i 0 ≡ get_or W i 0) → waiting_at ≤ length W
    → (y < 2 * nodes → start_of W y + count_of W y ≤ most_ports) → list_in s X nodes y ≡ list_in s W nodes y
unfolding list_in room_list
list_same s W X nodes y l t_long t long inside = go (ltb y (2 * nodes)) refl
  where
    start : start_of X y ≡ start_of W y
    start = t (lists_at + 2 * y) (omega arith) (omega arith)

    count : count_of X y ≡ count_of W y
    count = t (lists_at + 2 * y + 1) (omega arith) (omega arith)

    go : (b : Bool) → ltb y (2 * nodes) ≡ b
        → cond b (part X (entries_at + start_of X y) (count_of X y)) (form_list s (start_of X y) (count_of X y) (y % 2))
        ≡ cond b (part W (entries_at + start_of W y) (count_of W y)) (form_list s (start_of W y) (count_of W y) (y % 2))
    go true e = rw (start, count) (part_ext W X (entries_at + start_of W y) (count_of W y) t_long (omega (arith, inside (ltb-true y (2 * nodes) e))) (λ i k. t (entries_at + start_of W y + i) (omega arith) (omega (arith, inside (ltb-true y (2 * nodes) e)))))
    go false e = rw (start, count) refl

pub list_steady : (s : Source) (W X : List ℕ) (nodes y : ℕ) → y < lists_at → Steady W X → waiting_at ≤ length W → (y < 2 * nodes → start_of W y + count_of W y ≤ most_ports)
    → list_in s X nodes y ≡ list_in s W nodes y
list_steady s W X nodes y l t long inside = list_same s W X nodes y l t.long (λ i a b. t.same i a (inl b)) long inside

-- ---- one lowered arc

module _ (W : List ℕ) (n y end : ℕ) (low : y < 2 * n) (few : n ≤ most_vertices) (fits : end ≤ n) (long : picked_at ≤ length W) where
  pub degree_read : get_or (halves_in W n end).degrees y 0 ≡ get_or W y 0
  unfolding halves_in
  degree_read = get_or-take (2 * n) W y 0 low

  pub waiting_length : length (halves_in W n end).waiting ≡ end
  unfolding halves_in
  waiting_length = part_length W waiting_at end (omega arith)

  same_waiting : (X : List ℕ) → length X ≡ length W → ((i : ℕ) → waiting_at ≤ i → i < waiting_at + end → get_or X i 0 ≡ get_or W i 0) → part X waiting_at end ≡ part W waiting_at end
  same_waiting X l s = part_ext W X waiting_at end l (omega arith) (λ i k. s (waiting_at + i) (omega arith) (omega arith))

  -- it does not run out
  pub lowered_more : get_or W y 0 ≢ 1 → Went W (set W y (get_or W y 0 - 1)) n end (lower y (halves_in W n end))
  unfolding lower halves_in
  lowered_more more = record {
    few = fits;
    frame = steady_degree W y (get_or W y 0 - 1) (omega arith);
    is = rw (get_or-take (2 * n) W y 0 low, ne_eqb (get_or W y 0) 1 more)
        (λ i. record {
          degrees = take-set-lt (2 * n) W y (get_or W y 0 - 1) low i;
          waiting = same_waiting (set W y (get_or W y 0 - 1)) (length-set W y (get_or W y 0 - 1)) (λ j a b. get_or-set_other W y j (get_or W y 0 - 1) 0 (λ e. omega arith)) i;
        });
  }

  -- it does, and waits
  pub lowered_last : get_or W y 0 ≡ 1 → end < n → Went W (set (set (set W y (get_or W y 0 - 1)) (mate y) 0) (waiting_at + end) y) n (end + 1) (lower y (halves_in W n end))
  unfolding lower halves_in
  lowered_last last place = record {
    few = omega arith;
    frame = steady_trans (steady_trans (steady_degree W y (get_or W y 0 - 1) (omega arith)) (steady_degree (set W y (get_or W y 0 - 1)) (mate y) 0 (omega arith)))
        (steady_waiting (set (set W y (get_or W y 0 - 1)) (mate y) 0) end y (omega arith));
    is = rw (get_or-take (2 * n) W y 0 low, eq-eqb (get_or W y 0) 1 last) (λ i. record { degrees = degrees i; waiting = waiting i });
  }
    where
      M : List ℕ
      M = set (set W y (get_or W y 0 - 1)) (mate y) 0

      X : List ℕ
      X = set M (waiting_at + end) y

      zero_left : get_or W y 0 - 1 ≡ 0
      zero_left = omega arith

      M_long : length M ≡ length W
      M_long = length-set (set W y (get_or W y 0 - 1)) (mate y) 0 ∙ length-set W y (get_or W y 0 - 1)

      X_long : length X ≡ length W
      X_long = length-set M (waiting_at + end) y ∙ M_long

      degrees : take (2 * n) X ≡ set (set (take (2 * n) W) y 0) (mate y) 0
      degrees =
          take-set-le (2 * n) M (waiting_at + end) y (omega arith)
          ∙ take-set-lt (2 * n) (set W y (get_or W y 0 - 1)) (mate y) 0 (omega arith)
          ∙ ap (λ (l : List ℕ). set l (mate y) 0) (take-set-lt (2 * n) W y (get_or W y 0 - 1) low ∙ ap (set (take (2 * n) W) y) zero_left)

      old : (j : ℕ) → waiting_at ≤ j → j < waiting_at + end → get_or X j 0 ≡ get_or W j 0
      old j a b =
          get_or-set_other M (waiting_at + end) j y 0 (λ e. omega arith)
          ∙ get_or-set_other (set W y (get_or W y 0 - 1)) (mate y) j 0 0 (λ e. omega arith)
          ∙ get_or-set_other W y j (get_or W y 0 - 1) 0 (λ e. omega arith)

      waiting : part X waiting_at (end + 1) ≡ part W waiting_at end ++ (y ∷ [])
      waiting =
          part_snoc X waiting_at end (omega (arith, X_long))
          ∙ (λ i. same_waiting X X_long old i ++ (get_or-set_same M (waiting_at + end) y 0 (omega (arith, M_long)) i ∷ []))
