-- A list is walked, its first j halves lowered so far: start, turn and done; and what the two kinds of lists have at place j.
-- Assumes nothing.
use mathlib.Core.Path.{◌≡◌, refl, sym, ap, ◌∙◌, subst}
use mathlib.Core.List.Memᴰ
use mathlib.Core.List.{List, [], ◌∷◌, map}
use mathlib.Core.Logic.{inl, ⊎_elim}
use Prim.Native.Nat.{ℕ, zero, suc, ◌+◌, ◌*◌, ◌≤◌, ◌<◌}
use native.Mathlib.Numerals.{add-one}
use native.Mathlib.Omega.{arith}
use lib.ListN.{length-map, length, get_or, take}
use lib.Seq.{take-suc, take_all}
use Rattle.le.specs.Rows.{entry, span}
use Rattle.le.proofs.Rows.{length_span, span_at}
use Rattle.choice.specs.Arcs.{In}
use Rattle.halves.specs.Halves.{lower, lower_all}
use Rattle.tables.specs.Tables.{most_ports, entries_at, picked_at}
use Rattle.removal.specs.Room.{Source, halves_in, room_list, form_list, AllLow, Steady, Roomy, Went}
use Rattle.removal.proofs.Rooms.{roomy_all, lower_all_snoc}
use Rattle.removal.proofs.Tables.{part_length, part_at, steady_none, steady_trans}

-- ---- entries

pub in_get_d : (ts : List ℕ) (j : ℕ) → j < length ts → In (get_or ts j 0) ts
in_get_d [] j l = absurd (omega arith)
in_get_d (t ∷ ts) zero l = Memᴰ.head refl
in_get_d (t ∷ ts) (suc j) l = Memᴰ.tail (in_get_d ts j (omega arith))

pub in_take : (j : ℕ) (ts : List ℕ) (t : ℕ) → In t (take j ts) → In t ts
in_take zero ts t m = absurd (Memᴰ.not-nil m)
in_take (suc j) [] t m = m
in_take (suc j) (x ∷ ts) t m = ⊎_elim (λ e. Memᴰ.head e) (λ k. Memᴰ.tail (in_take j ts t k)) (Memᴰ.cases_cons m)

-- ---- the walk

module _ (W : List ℕ) (n end : ℕ) (ts : List ℕ) where
  pub walk_start : end ≤ n → Went W W n end (lower_all (take 0 ts) (halves_in W n end))
  unfolding lower_all
  walk_start few = record { few = few; is = refl; frame = steady_none W }

  module _ (X : List ℕ) (j last : ℕ) (w : Went W X n last (lower_all (take j ts) (halves_in W n end))) where
    pub walk_roomy : AllLow n ts → Roomy n (halves_in W n end) → Roomy n (halves_in X n last)
    walk_roomy low r = subst (Roomy n) (sym w.is) (roomy_all n (take j ts) (halves_in W n end) (λ t m. low t (in_take j ts t m)) r)

    pub walk_turn : (y : ℕ) → j < length ts → y ≡ get_or ts j 0 → (Y : List ℕ) (r : ℕ) → Went X Y n r (lower y (halves_in X n last))
        → Went W Y n r (lower_all (take (j + 1) ts) (halves_in W n end))
    walk_turn y l e Y r v = record {
      few = v.few;
      is = v.is ∙ (λ i. lower (e i) (w.is i)) ∙ sym (lower_all_snoc (take j ts) (get_or ts j 0) (halves_in W n end))
          ∙ ap (λ (l : List ℕ). lower_all l (halves_in W n end)) (sym (rw add-one (take-suc ts j 0 l)));
      frame = steady_trans w.frame v.frame;
    }

    pub walk_done : length ts ≤ j → Went W X n last (lower_all ts (halves_in W n end))
    walk_done l = subst (λ (l : List ℕ). Went W X n last (lower_all l (halves_in W n end))) (take_all j ts l) w

-- ---- a list in the room

module _ (W : List ℕ) (start count : ℕ) (inside : start + count ≤ most_ports) (long : picked_at ≤ length W) where
  pub listed_length : length (room_list W start count) ≡ count
  unfolding room_list
  listed_length = part_length W (entries_at + start) count (omega arith)

  -- also after some of it was lowered
  pub listed_at : (X : List ℕ) → Steady W X → (j : ℕ) → j < count → get_or X (entries_at + start + j) 0 ≡ get_or (room_list W start count) j 0
  unfolding room_list
  listed_at X t j l = t.same (entries_at + start + j) (omega arith) (inl (omega arith)) ∙ sym (part_at W (entries_at + start) count j l)

-- ---- a list in the form

get_d_map : (f : ℕ → ℕ) (l : List ℕ) (j : ℕ) → j < length l → get_or (map f l) j 0 ≡ f (get_or l j 0)
get_d_map f [] j h = absurd (omega arith)
get_d_map f (x ∷ l) zero h = refl
get_d_map f (x ∷ l) (suc j) h = get_d_map f l j (omega arith)

module _ (s : Source) (start count side : ℕ) where
  pub formed_length : length (form_list s start count side) ≡ count
  unfolding form_list
  formed_length = length-map (span s.bytes s.row start count) (λ id. 2 * id + side) ∙ length_span s.bytes s.row start count

  pub formed_at : (j : ℕ) → j < count → 2 * entry s.bytes s.row (start + j) + side ≡ get_or (form_list s start count side) j 0
  unfolding form_list
  formed_at j l =
      sym (get_d_map (λ id. 2 * id + side) (span s.bytes s.row start count) j (rw length_span l)
      ∙ ap (λ (v : ℕ). 2 * v + side) (span_at s.bytes s.row start count j l))
