-- What a walk leaves in the room, one after the other, as the model has it.
-- Assumes nothing.
use mathlib.Core.Path.{◌≡◌, sym, ap, ◌∙◌, subst}
use mathlib.Core.List.{List}
use Prim.Native.Nat.{ℕ, ◌+◌, ◌-◌, ◌*◌, ◌≤◌, ◌<◌}
use native.Mathlib.Omega.{arith}
use lib.ListN.{length, get_or, drop, length-drop}
use lib.Seq.{ext_get_or, get_or-drop}
use Rattle.tables.specs.Tables.{most_vertices, waiting_at, picked_at}
use Rattle.halves.specs.Halves.{Halves, lower_all, peel_from}
use Rattle.halves.proofs.Waiting.{peel_front, lower_all_front}
use Rattle.choice.specs.Drawing.{arcs}
use Rattle.graph.specs.Graph.{Graph}
use Rattle.incidence.specs.Incidence.{neighbours}
use Rattle.removal.specs.Room.{Source, part, halves_in, list_in, AllLow, Roomy, Lists, Steady, Went}
use Rattle.removal.proofs.Tables.{part_length, part_at, steady_trans, list_steady}
use Rattle.removal.proofs.Picking.{roomy_peel}
use Rattle.removal.proofs.Rooms.{roomy_all}
use Rattle.removal.proofs.Peeling.{lists_steady}
use Rattle.cycle.proofs.Staging.{peel_same}
use Rattle.reasons.specs.Told.{Settled, waited_from, Tabled}

-- so many have waited
pub waited_long : (X : List ℕ) (n last : ℕ) → last ≤ n → n ≤ most_vertices → picked_at ≤ length X → length (halves_in X n last).waiting ≡ last
waited_long X n last l few long = unfold halves_in in part_length X waiting_at last (omega arith)

-- those from a place on, as they are read
pub waited_part : (X : List ℕ) (n from last : ℕ) → from ≤ last → last ≤ n → n ≤ most_vertices → picked_at ≤ length X → part X (waiting_at + from) (last - from) ≡ waited_from X n from last
unfolding halves_in
waited_part X n from last a b few long =
    let all = part X waiting_at last in
    let l : length (part X (waiting_at + from) (last - from)) ≡ last - from = part_length X (waiting_at + from) (last - from) (omega arith) in
    let m : length (drop from all) ≡ last - from = omega (arith, length-drop from all, part_length X waiting_at last (omega arith)) in
    ext_get_or 0 (part X (waiting_at + from) (last - from)) (drop from all) (l ∙ sym m)
    (λ i k. let j : i < last - from = omega arith in let h : from + i < last = omega arith in let e : waiting_at + from + i ≡ waiting_at + (from + i) = omega arith in
    part_at X (waiting_at + from) (last - from) i j ∙ ap (λ (p : ℕ). get_or X p 0) e ∙ sym (get_or-drop from all i 0 ∙ part_at X waiting_at last (from + i) h))

module _ (s : Source) (W X : List ℕ) (nodes n : ℕ) (few : n ≤ most_vertices) (long : picked_at ≤ length W) where
  -- nobody leaves the waiting list
  pub settled_later : (from end last : ℕ) → from ≤ end → end ≤ n → Went W X n last (peel_from (n - from) (list_in s W nodes) from (halves_in W n end)) → end ≤ last
  settled_later from end last a b w =
      omega (
        arith,
        waited_long W n end b few long,
        waited_long X n last w.few few (omega (arith, w.frame.long)),
        ap (λ (h : Halves). length h.waiting) w.is,
        (peel_front (n - from) (list_in s W nodes) from (halves_in W n end)).longer,
      )

  pub walked_later : (y end last : ℕ) → end ≤ n → Went W X n last (lower_all (list_in s W nodes y) (halves_in W n end)) → end ≤ last
  walked_later y end last b w =
      omega (
        arith,
        waited_long W n end b few long,
        waited_long X n last w.few few (omega (arith, w.frame.long)),
        ap (λ (h : Halves). length h.waiting) w.is,
        (lower_all_front (list_in s W nodes y) (halves_in W n end)).longer,
      )

-- one walk after another
module _ (s : Source) (W M X : List ℕ) (nodes n : ℕ) (less : nodes ≤ n) (few : n ≤ most_vertices) (long : picked_at ≤ length W) (l : Lists s W nodes n) (h : Halves) (roomy : Roomy n h) (e : ℕ)
    (w : Went W M n e h) where
  M_lists : (y : ℕ) → y < 2 * n → list_in s M nodes y ≡ list_in s W nodes y
  M_lists y k = list_steady s W M nodes y (omega arith) w.frame (omega arith) (l.room_inside y)

  pub after_roomy : Roomy n (halves_in M n e)
  after_roomy = subst (Roomy n) (sym w.is) roomy

  pub after_lists : Lists s M nodes n
  after_lists = lists_steady s W M nodes n few less long w.frame l

  pub after_peel : (k from f : ℕ) → Went M X n f (peel_from k (list_in s M nodes) from (halves_in M n e)) → Went W X n f (peel_from k (list_in s W nodes) from h)
  after_peel k from f v = record {
    few = v.few;
    is = v.is ∙ peel_same k n (list_in s M nodes) (list_in s W nodes) from (halves_in M n e) M_lists l.low after_roomy ∙ ap (peel_from k (list_in s W nodes) from) w.is;
    frame = steady_trans w.frame v.frame;
  }

  pub after_walked : (y from last : ℕ) → y < 2 * n → Settled s M X nodes n from last (lower_all (list_in s M nodes y) (halves_in M n e)) → Settled s W X nodes n from last (lower_all (list_in s W nodes y) h)
  after_walked y from last k t = record {
    went = record {
      few = t.went.few;
      is = t.went.is ∙ (λ i. peel_from (n - from) (list_in s M nodes) from (lower_all (M_lists y k i) (w.is i)))
          ∙ peel_same (n - from) n (list_in s M nodes) (list_in s W nodes) from (lower_all (list_in s W nodes y) h) M_lists l.low (roomy_all n (list_in s W nodes y) h (l.low y k) roomy);
      frame = steady_trans w.frame t.went.frame;
    };
    later = t.later;
  }

  pub after_settled : (from last : ℕ) → Settled s M X nodes n from last (halves_in M n e) → Settled s W X nodes n from last h
  after_settled from last t = record { went = after_peel (n - from) from last t.went; later = t.later }

-- what is settled has room for all
pub settled_roomy : (s : Source) (W X : List ℕ) (nodes n from last : ℕ) (h : Halves) → Lists s W nodes n → Roomy n h → Settled s W X nodes n from last h → Roomy n (halves_in X n last)
settled_roomy s W X nodes n from last h l r t = subst (Roomy n) (sym t.went.is) (roomy_peel (n - from) n (list_in s W nodes) from h l.low r)

-- the lists are those of the drawing, wherever they are not touched
pub tabled_steady : (s : Source) (g : Graph) (W X : List ℕ) (nodes n : ℕ) → nodes ≤ n → n ≤ most_vertices → picked_at ≤ length W → Steady W X → Tabled s g W nodes n → Tabled s g X nodes n
tabled_steady s g W X nodes n less few long t k = record {
  lists = lists_steady s W X nodes n few less long t k.lists;
  are = λ y l. list_steady s W X nodes y (omega arith) t (omega arith) (k.lists.room_inside y) ∙ k.are y l;
}

-- so what is settled is what the model settles by the drawing's lists
pub settled_is : (s : Source) (g : Graph) (W X : List ℕ) (nodes n from last : ℕ) (h : Halves) → Tabled s g W nodes n → Roomy n h → Settled s W X nodes n from last h
    → halves_in X n last ≡ peel_from (n - from) (neighbours (arcs g)) from h
settled_is s g W X nodes n from last h k r t =
    t.went.is ∙ peel_same (n - from) n (list_in s W nodes) (neighbours (arcs g)) from h k.are (λ y l. subst (AllLow n) (k.are y l) (k.lists.low y l)) r
