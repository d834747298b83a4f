-- A removal in two parts, in the room and in the answer buffer: what is told then are the reasons of all that went, and what is left is the core.
-- Assumes nothing.
use mathlib.Core.Path.{◌≡◌, refl, sym, ap, ◌∙◌, subst}
use mathlib.Core.List.{List, [], ◌∷◌}
use Prim.Native.Nat.{ℕ, suc, ◌+◌, ◌-◌, ◌*◌, ◌≤◌}
use native.Mathlib.Omega.{arith}
use lib.Dec.{T}
use lib.ListN.{length, drop}
use Rattle.choice.specs.Arcs.{In, Set, has, vertices, size}
use Rattle.choice.specs.Choice.{core}
use Rattle.choice.specs.Degrees.{Sofar}
use Rattle.choice.specs.Drawing.{arcs, selectable}
use Rattle.choice.specs.Reasons.{Reason, not_led_to, leads_to_none, numbers_of, led, reason, Because, Known}
use Rattle.choice.proofs.Led.{led_subset}
use Rattle.choice.proofs.Reasons.{because_drained, because_left}
use Rattle.choice.proofs.ReasonsGraphs.{reason_only}
use Rattle.choice.proofs.Sets.{has_lt}
use Rattle.graph.specs.Graph.{Graph}
use Rattle.halves.specs.Halves.{Listed, Halves, lower_all, peel_from, Ready, Leaves, Going}
use Rattle.halves.proofs.Phases.{AllFrom, On, mid, emptied, end, leaves_first, leaves_second, parted_going}
use Rattle.incidence.specs.Incidence.{neighbours}
use Rattle.incidence.proofs.Whole.{listed}
use Rattle.tables.specs.Tables.{picked_at}
use Rattle.removal.specs.Room.{Source, halves_in, Roomy}
use Rattle.cycle.proofs.Begin.{Drawn, bounded}
use Rattle.reasons.specs.Told.{freed_all, waited_from, Told, Tabled, Explaining}
use Rattle.reasons.proofs.Rooms.{waited_long}
use Rattle.reasons.proofs.Saying.{freed_outside, told_part}

module _ (s : Source) (g : Graph) (nodes n : ℕ) (d : Drawn g nodes n) where
  -- the lists of the drawing's arcs
  abbrev lists : ℕ → List ℕ
  lists = neighbours (arcs g)

  pub all_listed : Listed (arcs g) n (neighbours (arcs g))
  all_listed = listed (arcs g) n (bounded s g nodes n d) (neighbours (arcs g)) (λ y l. refl)

  -- S is what remained when this stage began, of which the first part begins with h
  module _ (S : Set) (h : Halves) (first : ℕ) (ts picked : List ℕ) (r : Ready (arcs g) n S h first ts) (ins : AllFrom (On n 0) first h.waiting) (outs : (t : ℕ) → In t ts → On n 1 t)
      (sofar : Sofar (arcs g) (selectable g) n S picked first) (spent : first + length picked + size S ≡ n) (stage : ℕ) (known : Known (arcs g) (selectable g) n stage S) (count : stage ≡ suc (length picked)) where
    -- a reason at this stage is the answered one
    is_reason : (v : ℕ) → T (has S v) → (x : Reason) → Because (arcs g) (selectable g) stage S v x → x ≡ reason g v
    is_reason v i x b =
        reason_only g d.proper v (omega (arith, has_lt S v i, r.state.set_long, d.n_is)) x
        (subst (λ (k : ℕ). Because (arcs g) (selectable g) 1 (vertices k) v x) d.n_is (known.onward v x b))

    freed_first : (v : ℕ) → T (has S v) → (T (has (led (arcs g) S) v) → ⊥) → numbers_of (reason g v) ≡ 1 ∷ stage ∷ 0 ∷ 0 ∷ []
    freed_first v i n = ap numbers_of (sym (is_reason v i (not_led_to stage) (because_drained (arcs g) (selectable g) stage S v i n)))

    freed_second : (v : ℕ) → T (has (led (arcs g) S) v) → (T (has (core (arcs g) S) v) → ⊥) → numbers_of (reason g v) ≡ 2 ∷ stage ∷ 0 ∷ 0 ∷ []
    freed_second v i n = ap numbers_of (sym (is_reason v (led_subset (arcs g) S v i) (leads_to_none stage) (because_left (arcs g) (selectable g) stage S v i n)))

    module _ (X Y : List ℕ) (m e : ℕ) (few : m ≤ n) (fits : e ≤ n) (X_long : picked_at ≤ length X) (Y_long : picked_at ≤ length Y)
        (one : halves_in X n m ≡ peel_from (n - first) (neighbours (arcs g)) first h) (two : halves_in Y n e ≡ peel_from (n - m) (neighbours (arcs g)) m (lower_all ts (halves_in X n m)))
        (roomy : Roomy n (halves_in Y n e)) (tabled : Tabled s g Y nodes n) (out : List ℕ) (room : 16 * nodes ≤ length out) (told : Told g S out) where
      k : Listed (arcs g) n (neighbours (arcs g))
      k = all_listed

      m_is : m ≡ mid (arcs g) n lists k (selectable g) S h first ts picked r ins outs sofar spent
      m_is = sym (waited_long X n m few d.few X_long) ∙ ap (λ (z : Halves). length z.waiting) one

      is : halves_in Y n e ≡ emptied (arcs g) n lists k (selectable g) S h first ts picked r ins outs sofar spent
      is = two ∙ (λ i. peel_from (n - m_is i) lists (m_is i) (lower_all ts (one i)))

      e_is : e ≡ end (arcs g) n lists k (selectable g) S h first ts picked r ins outs sofar spent
      e_is = sym (waited_long Y n e fits d.few Y_long) ∙ ap (λ (z : Halves). length z.waiting) is

      abbrev middle : List ℕ
      middle = freed_all nodes (not_led_to stage) (waited_from X n first m) out

      told_first : Told g (led (arcs g) S) (freed_all nodes (not_led_to stage) (waited_from X n first m) out)
      told_first =
          told_part nodes (not_led_to stage) g (arcs g) S (led (arcs g) S) (waited_from X n first m) out d.nodes_is room
          (subst (λ (z : Halves). Leaves (arcs g) S (drop first z.waiting) (led (arcs g) S)) (sym one) (leaves_first (arcs g) n lists k (selectable g) S h first ts picked r ins outs sofar spent))
          freed_first told

      told_second : Told g (core (arcs g) S) (freed_all nodes (leads_to_none stage) (waited_from Y n m e) (freed_all nodes (not_led_to stage) (waited_from X n first m) out))
      told_second =
          told_part nodes (leads_to_none stage) g (arcs g) (led (arcs g) S) (core (arcs g) S) (waited_from Y n m e) middle d.nodes_is (omega (arith, (freed_outside nodes (not_led_to stage) (waited_from X n first m) out).long))
          (subst (λ (ys : List ℕ). Leaves (arcs g) (led (arcs g) S) ys (core (arcs g) S)) (λ i. drop (sym m_is i) (sym is i).waiting) (leaves_second (arcs g) n lists k (selectable g) S h first ts picked r ins outs sofar spent))
          freed_second told_first

      pub explained : Explaining s g Y (freed_all nodes (leads_to_none stage) (waited_from Y n m e) (freed_all nodes (not_led_to stage) (waited_from X n first m) out)) nodes n e stage
      explained = record {
        few = fits;
        roomy = roomy;
        tabled = tabled;
        begun = S;
        known = known;
        picked = picked;
        going = subst (λ (z : ℕ). Going (arcs g) (selectable g) n (core (arcs g) S) (halves_in Y n e) picked z) (sym e_is)
            (subst (λ (z : Halves). Going (arcs g) (selectable g) n (core (arcs g) S) z picked (end (arcs g) n lists k (selectable g) S h first ts picked r ins outs sofar spent)) (sym is)
            (parted_going (arcs g) n lists k (selectable g) S h first ts picked r ins outs sofar spent));
        count = count;
        told = told_second;
      }
