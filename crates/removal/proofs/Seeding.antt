-- The start in words: a vertex with a half that has nothing waits, as the model says; one after the other.
-- Assumes nothing.
use mathlib.Core.Path.{◌≡◌, refl, sym, ap, ◌∙◌, subst}
use mathlib.Core.List.{List, [], ◌∷◌, ◌++◌}
use mathlib.Core.Logic.{◌≢◌}
use Prim.Native.Nat.{ℕ, ◌+◌, ◌*◌, ◌≤◌, ◌<◌, min}
use native.Mathlib.Decide.{ℕ_discrete}
use native.Mathlib.Numerals.{add-one}
use native.Mathlib.Omega.{arith}
use lib.ListN.{length, get_or, set, take, length-set}
use lib.Seq.{ext_get_or, get_or-set_same, get_or-set_other, get_or-take, take-set-lt, take-set-le}
use borrow.Author.Tests.{eq-eqb, ne_eqb}
use Rattle.halves.specs.Halves.{seed, seed_to}
use Rattle.tables.specs.Tables.{most_vertices, waiting_at, picked_at}
use Rattle.removal.specs.Room.{part, halves_in, Went}
use Rattle.removal.proofs.Tables.{part_ext, part_snoc, steady_none, steady_trans, steady_degree, steady_waiting}

module _ (W : List ℕ) (n end x : ℕ) (few : n ≤ most_vertices) (low : x < n) (fits : end ≤ x) (long : picked_at ≤ length W) where
  -- half z is set to 0, and half y waits
  waits_now : (z y : ℕ) → z < 2 * n → Went W (set (set W z 0) (waiting_at + end) y) n (end + 1) (record { degrees = set (halves_in W n end).degrees z 0; waiting = (halves_in W n end).waiting ++ (y ∷ []) })
  unfolding halves_in
  waits_now z y l = record {
    few = omega arith;
    frame = steady_trans (steady_degree W z 0 (omega arith)) (steady_waiting (set W z 0) end y (omega arith));
    is = λ i. record { degrees = degrees i; waiting = waiting i };
  }
    where
      M : List ℕ
      M = set W z 0

      X : List ℕ
      X = set M (waiting_at + end) y

      X_long : length X ≡ length W
      X_long = length-set M (waiting_at + end) y ∙ length-set W z 0

      degrees : take (2 * n) X ≡ set (take (2 * n) W) z 0
      degrees = take-set-le (2 * n) M (waiting_at + end) y (omega arith) ∙ take-set-lt (2 * n) W z 0 l

      old : part X waiting_at end ≡ part W waiting_at end
      old = part_ext W X waiting_at end X_long (omega arith) (λ i k. get_or-set_other M (waiting_at + end) (waiting_at + i) y 0 (λ e. omega arith) ∙ get_or-set_other W z (waiting_at + i) 0 0 (λ e. omega arith))

      waiting : part X waiting_at (end + 1) ≡ part W waiting_at end ++ (y ∷ [])
      waiting =
          part_snoc X waiting_at end (omega (arith, X_long))
          ∙ (λ i. old i ++ (get_or-set_same M (waiting_at + end) y 0 (rw length-set (omega arith)) i ∷ []))

  degree : (y : ℕ) → y < 2 * n → get_or (halves_in W n end).degrees y 0 ≡ get_or W y 0
  unfolding halves_in
  degree y l = get_or-take (2 * n) W y 0 l

  seed_in : get_or W (2 * x) 0 ≡ 0 → Went W (set (set W (2 * x + 1) 0) (waiting_at + end) (2 * x)) n (end + 1) (seed x (halves_in W n end))
  unfolding seed
  seed_in z = rw (eq-eqb (get_or (halves_in W n end).degrees (2 * x) 0) 0 (degree (2 * x) (omega arith) ∙ z)) (waits_now (2 * x + 1) (2 * x) (omega arith))

  seed_out : get_or W (2 * x) 0 ≢ 0 → get_or W (2 * x + 1) 0 ≡ 0 → Went W (set (set W (2 * x) 0) (waiting_at + end) (2 * x + 1)) n (end + 1) (seed x (halves_in W n end))
  unfolding seed
  seed_out f z =
      rw (ne_eqb (get_or (halves_in W n end).degrees (2 * x) 0) 0 (λ e. f (sym (degree (2 * x) (omega arith)) ∙ e)), eq-eqb (get_or (halves_in W n end).degrees (2 * x + 1) 0) 0 (degree (2 * x + 1) (omega arith) ∙ z))
      (waits_now (2 * x) (2 * x + 1) (omega arith))

  -- a number is set to what it is
  same_set : (M : List ℕ) (z : ℕ) → z < length M → get_or M z 0 ≡ 0 → set M z 0 ≡ M
  same_set M z l e = ext_get_or 0 (set M z 0) M (length-set M z 0) (λ i k. at i (ℕ_discrete i z))
    where
      at : (i : ℕ) → Dec (i ≡ z) → get_or (set M z 0) i 0 ≡ get_or M i 0
      at i (yes q) = ap (λ (j : ℕ). get_or (set M z 0) j 0) q ∙ get_or-set_same M z 0 0 l ∙ sym e ∙ ap (λ (j : ℕ). get_or M j 0) (sym q)
      at i (no f) = get_or-set_other M z i 0 0 f

  loose : (side : ℕ) → (get_or W (2 * x) 0 ≡ 0 → side ≡ 0) → (0 < get_or W (2 * x) 0 → side ≡ 1) → min (get_or W (2 * x) 0) (get_or W (2 * x + 1) 0) ≡ 0 → Dec (get_or W (2 * x) 0 ≡ 0)
      → Went W (set (set (set W (2 * x) 0) (2 * x + 1) 0) (waiting_at + end) (2 * x + side)) n (end + 1) (seed x (halves_in W n end))
  loose side none one z (yes e) =
      subst (λ (X : List ℕ). Went W X n (end + 1) (seed x (halves_in W n end)))
      (λ i. set (set (sym (same_set W (2 * x) (omega arith) e) i) (2 * x + 1) 0) (waiting_at + end) (at i)) (seed_in e)
    where
      at : 2 * x ≡ 2 * x + side
      at = omega (arith, none e)
  loose side none one z (no f) =
      subst (λ (X : List ℕ). Went W X n (end + 1) (seed x (halves_in W n end)))
      (λ i. set (sym (same_set (set W (2 * x) 0) (2 * x + 1) (rw length-set (omega arith)) (get_or-set_other W (2 * x) (2 * x + 1) 0 0 (λ e. omega arith) ∙ out)) i) (waiting_at + end) (at i)) (seed_out f out)
    where
      out : get_or W (2 * x + 1) 0 ≡ 0
      out = omega arith

      at : 2 * x + 1 ≡ 2 * x + side
      at = omega (arith, one (omega arith))

  -- both halves are set to 0, and the one that ran out waits
  pub seed_loose : (side : ℕ) → (get_or W (2 * x) 0 ≡ 0 → side ≡ 0) → (0 < get_or W (2 * x) 0 → side ≡ 1) → min (get_or W (2 * x) 0) (get_or W (2 * x + 1) 0) ≡ 0
      → Went W (set (set (set W (2 * x) 0) (2 * x + 1) 0) (waiting_at + end) (2 * x + side)) n (end + 1) (seed x (halves_in W n end))
  seed_loose side none one z = loose side none one z (ℕ_discrete (get_or W (2 * x) 0) 0)

  pub seed_none : get_or W (2 * x) 0 ≢ 0 → get_or W (2 * x + 1) 0 ≢ 0 → Went W W n end (seed x (halves_in W n end))
  unfolding seed
  seed_none f g =
      rw (ne_eqb (get_or (halves_in W n end).degrees (2 * x) 0) 0 (λ e. f (sym (degree (2 * x) (omega arith)) ∙ e)), ne_eqb (get_or (halves_in W n end).degrees (2 * x + 1) 0) 0 (λ e. g (sym (degree (2 * x + 1) (omega arith)) ∙ e)))
      (record { few = omega arith; is = refl; frame = steady_none W })

-- ---- all

pub seeds_start : (W : List ℕ) (n : ℕ) → Went W W n 0 (seed_to 0 (halves_in W n 0))
unfolding seed_to
seeds_start W n = record { few = omega arith; is = refl; frame = steady_none W }

pub seeds_turn : (W X Y : List ℕ) (n x e f : ℕ) → Went W X n e (seed_to x (halves_in W n 0)) → Went X Y n f (seed x (halves_in X n e)) → Went W Y n f (seed_to (x + 1) (halves_in W n 0))
unfolding seed_to
seeds_turn W X Y n x e f w v = record {
  few = v.few;
  is = v.is ∙ ap (seed x) w.is ∙ ap (λ (k : ℕ). seed_to k (halves_in W n 0)) (sym (add-one x));
  frame = steady_trans w.frame v.frame;
}
