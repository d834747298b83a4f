-- A stage: the best node is told chosen and goes, and the two parts of the next stage's removal follow; what the queue says stays right.
-- Assumes nothing.
use mathlib.Core.Path.{◌≡◌, refl, sym, ap, ◌∙◌, subst}
use mathlib.Core.List.{List, [], ◌∷◌}
use Prim.Native.Nat.{ℕ, ◌+◌, ◌-◌, ◌*◌, ◌≤◌, ◌<◌}
use native.Mathlib.Decide.{ℕ_discrete}
use native.Mathlib.Numerals.{add-one}
use native.Mathlib.Omega.{arith}
use lib.Dec.{T}
use lib.ListN.{length, get_or, set, take}
use lib.Seq.{get_or-take}
use Rattle.le.specs.Le.{row}
use Rattle.choice.specs.Arcs.{Set, has, vertices, without, size, into, out}
use Rattle.choice.specs.Choice.{core, Best}
use Rattle.choice.specs.Drawing.{arcs, selectable}
use Rattle.choice.specs.Reasons.{picked, numbers_of, reason, Because, is_best, not_led_to, leads_to_none}
use Rattle.choice.proofs.Reasons.{known_next}
use Rattle.choice.proofs.ReasonsGraphs.{reason_only}
use Rattle.choice.proofs.Sets.{has_lt, stays}
use Rattle.graph.specs.Graph.{Graph}
use Rattle.halves.specs.Halves.{Listed, Halves, Between, lower_all, peel_from, drop_both, Going}
use Rattle.halves.proofs.Leaving.{in_right, out_right}
use Rattle.halves.proofs.Less.{set_less, lower_all_less, peel_less}
use Rattle.halves.proofs.Parting.{chosen_ready, chosen_in, chosen_out, chosen_told, chosen_spent}
use Rattle.halves.proofs.Sides.{into_half, out_half}
use Rattle.halves.proofs.Whole.{still}
use Rattle.incidence.specs.Incidence.{neighbours}
use Rattle.tables.specs.Tables.{most_vertices, picked_at}
use Rattle.removal.specs.Room.{Source, halves_in, list_in, Roomy, Lists, Steady, Went}
use Rattle.removal.proofs.Rooms.{roomy_all}
use Rattle.removal.proofs.Tables.{list_same, steady_trans}
use Rattle.removal.proofs.Peeling.{lists_same, lists_steady}
use Rattle.removal.proofs.Picking.{roomy_drop, zeroed}
use Rattle.cycle.specs.Next.{degrees_in}
use Rattle.cycle.proofs.Begin.{Drawn}
use Rattle.cycle.proofs.Staging.{halves_same}
use Rattle.reasons.specs.Told.{place_of, entered, freed_all, waited_from, Says, Told, Settled, Tabled, Explaining, Chose}
use Rattle.reasons.proofs.Parts.{all_listed, explained}
use Rattle.reasons.proofs.Rooms.{waited_long, after_roomy, after_lists, after_walked, settled_roomy, tabled_steady, settled_is}
use Rattle.reasons.proofs.Saying.{entered_shows, entered_other, entered_outside}

-- both halves of a vertex at 0
abbrev pub bared : List ℕ → ℕ → ℕ → ℕ → Halves
bared W n end best = record { degrees = drop_both best (halves_in W n end).degrees; waiting = (halves_in W n end).waiting }

-- ---- the walks of a stage

module _ (s : Source) (W : List ℕ) (nodes n best end : ℕ) (low : best < nodes) (less : nodes ≤ n) (few : n ≤ most_vertices) (fits : end ≤ n) (long : picked_at ≤ length W) (roomy : Roomy n (halves_in W n end))
    (lists : Lists s W nodes n) (Z : List ℕ) (zero_is : Z ≡ set (set W (2 * best) 0) (2 * best + 1) 0) where
  bare : Went W Z n end (bared W n end best)
  bare = subst (λ (X : List ℕ). Went W X n end (bared W n end best)) (sym zero_is) (zeroed W n end best few fits (omega arith) long)

  bare_roomy : Roomy n (bared W n end best)
  bare_roomy = roomy_drop n (halves_in W n end) best (omega arith) roomy

  pub zero_roomy : Roomy n (halves_in Z n end)
  zero_roomy = after_roomy s W Z Z nodes n less few long lists (bared W n end best) bare_roomy end bare

  pub zero_lists : Lists s Z nodes n
  zero_lists = after_lists s W Z Z nodes n less few long lists (bared W n end best) bare_roomy end bare

  module _ (M : List ℕ) (mid : ℕ) (t : Settled s Z M nodes n end mid (lower_all (list_in s Z nodes (2 * best)) (halves_in Z n end))) where
    pub walked_one : Settled s W M nodes n end mid (lower_all (list_in s W nodes (2 * best)) (bared W n end best))
    walked_one = after_walked s W Z M nodes n less few long lists (bared W n end best) bare_roomy end bare (2 * best) end mid (omega arith) t

    pub one_roomy : Roomy n (halves_in M n mid)
    one_roomy =
        settled_roomy s W M nodes n end mid (lower_all (list_in s W nodes (2 * best)) (bared W n end best)) lists
        (roomy_all n (list_in s W nodes (2 * best)) (bared W n end best) (lists.low (2 * best) (omega arith)) bare_roomy) walked_one

    pub one_lists : Lists s M nodes n
    one_lists = lists_steady s W M nodes n few less long walked_one.went.frame lists

-- ---- nothing but flags and the queue changed

pub explaining_same : (s : Source) (g : Graph) (W X buffer : List ℕ) (nodes n end stage : ℕ) → Drawn g nodes n → picked_at ≤ length W → length X ≡ length W → ((i : ℕ) → i < picked_at → get_or X i 0 ≡ get_or W i 0)
    → Explaining s g W buffer nodes n end stage → Explaining s g X buffer nodes n end stage
explaining_same s g W X buffer nodes n end stage d long e t x = record {
  few = x.few;
  roomy = subst (Roomy n) (sym same) x.roomy;
  tabled = record {
    lists = lists_same s W X nodes n d.few less long e (λ i a b. t i (omega arith)) x.tabled.lists;
    are = λ y l. list_same s W X nodes y (omega (arith, d.few)) e (λ i a b. t i (omega arith)) (omega arith) (x.tabled.lists.room_inside y) ∙ x.tabled.are y l;
  };
  begun = x.begun;
  known = x.known;
  picked = x.picked;
  going = subst (λ (h : Halves). Going (arcs g) (selectable g) n (core (arcs g) x.begun) h x.picked end) (sym same) x.going;
  count = x.count;
  told = x.told;
}
  where
    less : nodes ≤ n
    less = omega (arith, d.nodes_is, d.n_is)

    same : halves_in X n end ≡ halves_in W n end
    same = halves_same W X n end d.few x.few long e t

-- ---- the state between stages

module _ (s : Source) (g : Graph) (W buffer : List ℕ) (nodes n end stage : ℕ) (d : Drawn g nodes n) (long : picked_at ≤ length W) (x : Explaining s g W buffer nodes n end stage) where
  S : Set
  S = core (arcs g) x.begun

  e_is : length (halves_in W n end).waiting ≡ end
  e_is = waited_long W n end x.few d.few long

  going : Going (arcs g) (selectable g) n (core (arcs g) x.begun) (halves_in W n end) x.picked (length (halves_in W n end).waiting)
  going = subst (Going (arcs g) (selectable g) n (core (arcs g) x.begun) (halves_in W n end) x.picked) (sym e_is) x.going

  pub settled_state : Between (arcs g) n (core (arcs g) x.begun) (degrees_in W n) [] []
  settled_state = unfold halves_in in still (arcs g) n (core (arcs g) x.begun) (halves_in W n end) going.ready

  -- no more has gone than there is
  pub gone_few : end + (stage - 1) + size (core (arcs g) x.begun) ≡ n
  gone_few = omega (arith, x.going.spent, x.count)

  module _ (best : ℕ) (b : Best (arcs g) (selectable g) (core (arcs g) x.begun) best) where
    -- its present degrees are its arcs in the core
    ins : get_or W (2 * best) 0 ≡ into (arcs g) (core (arcs g) x.begun) best
    ins = sym (get_or-take (2 * n) W (2 * best) 0 (omega (arith, node_low))) ∙ in_right (arcs g) n (core (arcs g) x.begun) (degrees_in W n) settled_state best b.inside ∙ into_half (arcs g) (core (arcs g) x.begun) best
      where
        node_low : best < n
        node_low = omega (arith, has_lt (core (arcs g) x.begun) best b.inside, x.going.ready.state.set_long)

    outs : get_or W (2 * best + 1) 0 ≡ out (arcs g) (core (arcs g) x.begun) best
    outs = sym (get_or-take (2 * n) W (2 * best + 1) 0 (omega (arith, node_low))) ∙ out_right (arcs g) n (core (arcs g) x.begun) (degrees_in W n) settled_state best b.inside ∙ out_half (arcs g) (core (arcs g) x.begun) best
      where
        node_low : best < n
        node_low = omega (arith, has_lt (core (arcs g) x.begun) best b.inside, x.going.ready.state.set_long)

    chosen_reason : picked stage (into (arcs g) (core (arcs g) x.begun) best) (out (arcs g) (core (arcs g) x.begun) best) ≡ reason g best
    chosen_reason =
        reason_only g d.proper best (omega (arith, has_lt (core (arcs g) x.begun) best b.inside, x.going.ready.state.set_long, d.n_is)) _
        (subst (λ (k : ℕ). Because (arcs g) (selectable g) 1 (vertices k) best (picked stage (into (arcs g) (core (arcs g) x.begun) best) (out (arcs g) (core (arcs g) x.begun) best))) d.n_is
        (x.known.onward best _ (is_best b)))

    abbrev ns : List ℕ
    ns = 0 ∷ stage ∷ get_or W (2 * best) 0 ∷ get_or W (2 * best + 1) 0 ∷ []

    told_chosen : best < nodes → 16 * nodes ≤ length buffer → Told g (without best (core (arcs g) x.begun)) (entered buffer best ns)
    told_chosen low room = record { says = λ v l k. go v l k (ℕ_discrete v best) }
      where
        shown : ns ≡ numbers_of (reason g best)
        shown = (λ i. 0 ∷ stage ∷ ins i ∷ outs i ∷ []) ∙ ap numbers_of chosen_reason

        go : (v : ℕ) → v < length g.labels → (T (has (without best (core (arcs g) x.begun)) v) → ⊥) → Dec (v ≡ best) → Says g (entered buffer best ns) v
        go v l k (yes q) j m =
            ap (λ (u : ℕ). get_or (entered buffer best ns) (place_of u + j) 0) q ∙ entered_shows buffer best ns refl (omega arith) j m
            ∙ ap (λ (xs : List ℕ). get_or (row 4 xs) j 0) (shown ∙ ap (λ (u : ℕ). numbers_of (reason g u)) (sym q))
        go v l k (no q) j m = entered_other buffer best ns refl v q j m ∙ x.told.says v l (λ i. k (stays best (core (arcs g) x.begun) v q i)) j m

    module _ (low : best < nodes) (room : 16 * nodes ≤ length buffer) (X new : List ℕ) (last : ℕ) (c : Chose s W X buffer new nodes n best end stage last) where
      less : nodes ≤ n
      less = omega (arith, d.nodes_is, d.n_is)

      lists : ℕ → List ℕ
      lists = neighbours (arcs g)

      h₁ : Halves
      h₁ = lower_all (list_in s W nodes (2 * best)) (bared W n end best)

      roomy₁ : Roomy n (lower_all (list_in s W nodes (2 * best)) (bared W n end best))
      roomy₁ = roomy_all n (list_in s W nodes (2 * best)) (bared W n end best) (x.tabled.lists.low (2 * best) (omega arith)) (roomy_drop n (halves_in W n end) best (omega arith) x.roomy)

      tabled_middle : Tabled s g c.middle nodes n
      tabled_middle = tabled_steady s g W c.middle nodes n less d.few long c.one.went.frame x.tabled

      one : halves_in c.middle n c.mid ≡ peel_from (n - end) (neighbours (arcs g)) end (lower_all (neighbours (arcs g) (2 * best)) (bared W n end best))
      one =
          settled_is s g W c.middle nodes n end c.mid (lower_all (list_in s W nodes (2 * best)) (bared W n end best)) x.tabled roomy₁ c.one
          ∙ ap (λ (ts : List ℕ). peel_from (n - end) (neighbours (arcs g)) end (lower_all ts (bared W n end best))) (x.tabled.are (2 * best) (omega arith))

      middle_roomy : Roomy n (halves_in c.middle n c.mid)
      middle_roomy = settled_roomy s W c.middle nodes n end c.mid (lower_all (list_in s W nodes (2 * best)) (bared W n end best)) x.tabled.lists roomy₁ c.one

      roomy₂ : Roomy n (lower_all (list_in s c.middle nodes (2 * best + 1)) (halves_in c.middle n c.mid))
      roomy₂ = roomy_all n (list_in s c.middle nodes (2 * best + 1)) (halves_in c.middle n c.mid) (tabled_middle.lists.low (2 * best + 1) (omega arith)) middle_roomy

      two : halves_in X n last ≡ peel_from (n - c.mid) (neighbours (arcs g)) c.mid (lower_all (neighbours (arcs g) (2 * best + 1)) (halves_in c.middle n c.mid))
      two =
          settled_is s g c.middle X nodes n c.mid last (lower_all (list_in s c.middle nodes (2 * best + 1)) (halves_in c.middle n c.mid)) tabled_middle roomy₂ c.two
          ∙ ap (λ (ts : List ℕ). peel_from (n - c.mid) (neighbours (arcs g)) c.mid (lower_all ts (halves_in c.middle n c.mid))) (tabled_middle.are (2 * best + 1) (omega arith))

      -- degrees and waiting list alone have changed
      pub chose_frame : Steady W X
      chose_frame = steady_trans c.one.went.frame c.two.went.frame

      k : Listed (arcs g) n (neighbours (arcs g))
      k = all_listed s g nodes n d

      told_new : Told g (without best (core (arcs g) x.begun)) (entered buffer best ns)
      told_new = told_chosen low room

      next : Explaining s g X (freed_all nodes (leads_to_none (stage + 1)) (waited_from X n c.mid last) (freed_all nodes (not_led_to (stage + 1)) (waited_from c.middle n (length (halves_in W n end).waiting) c.mid) (entered buffer best ns))) nodes n last (stage + 1)
      next =
          explained s g nodes n d (without best (core (arcs g) x.begun)) (lower_all (neighbours (arcs g) (2 * best)) (bared W n end best)) (length (halves_in W n end).waiting) (neighbours (arcs g) (2 * best + 1)) (best ∷ x.picked)
          (chosen_ready (arcs g) (selectable g) n (neighbours (arcs g)) k (core (arcs g) x.begun) (halves_in W n end) x.picked going best b)
          (chosen_in (arcs g) (selectable g) n (neighbours (arcs g)) k (core (arcs g) x.begun) (halves_in W n end) x.picked going best b)
          (chosen_out (arcs g) (selectable g) n (neighbours (arcs g)) k (core (arcs g) x.begun) (halves_in W n end) x.picked going best b)
          (chosen_told (arcs g) (selectable g) n (neighbours (arcs g)) k (core (arcs g) x.begun) (halves_in W n end) x.picked going best b)
          (chosen_spent (arcs g) (selectable g) n (neighbours (arcs g)) k (core (arcs g) x.begun) (halves_in W n end) x.picked going best b)
          (stage + 1) (rw add-one (known_next (arcs g) (selectable g) n stage x.begun best x.known b)) (omega (arith, x.count))
          c.middle X c.mid last c.one.went.few c.two.went.few (omega (arith, c.one.went.frame.long)) (omega (arith, chose_frame.long))
          (one ∙ (λ i. peel_from (n - sym e_is i) (neighbours (arcs g)) (sym e_is i) (lower_all (neighbours (arcs g) (2 * best)) (bared W n end best)))) two
          (settled_roomy s c.middle X nodes n c.mid last (lower_all (list_in s c.middle nodes (2 * best + 1)) (halves_in c.middle n c.mid)) tabled_middle.lists roomy₂ c.two)
          (tabled_steady s g W X nodes n less d.few long chose_frame x.tabled)
          (entered buffer best ns) (omega (arith, (entered_outside buffer best ns refl nodes low).long)) told_new

      pub chose_explained : Explaining s g X new nodes n last (stage + 1)
      chose_explained =
          subst (λ (o : List ℕ). Explaining s g X o nodes n last (stage + 1))
          ((λ i. freed_all nodes (leads_to_none (stage + 1)) (waited_from X n c.mid last) (freed_all nodes (not_led_to (stage + 1)) (waited_from c.middle n (e_is i) c.mid) (entered buffer best ns))) ∙ sym c.is) next

      -- the degrees only fell
      pub chose_less : (y : ℕ) → get_or (degrees_in X n) y 0 ≤ get_or (degrees_in W n) y 0
      unfolding halves_in drop_both
      chose_less y =
          omega (
            arith,
            ap (λ (z : Halves). get_or z.degrees y 0) c.two.went.is,
            peel_less (n - c.mid) (list_in s c.middle nodes) c.mid (lower_all (list_in s c.middle nodes (2 * best + 1)) (halves_in c.middle n c.mid)) y,
            lower_all_less (list_in s c.middle nodes (2 * best + 1)) (halves_in c.middle n c.mid) y,
            ap (λ (z : Halves). get_or z.degrees y 0) c.one.went.is,
            peel_less (n - end) (list_in s W nodes) end (lower_all (list_in s W nodes (2 * best)) (bared W n end best)) y,
            lower_all_less (list_in s W nodes (2 * best)) (bared W n end best) y,
            set_less (set (take (2 * n) W) (2 * best) 0) (2 * best + 1) 0 y (omega arith),
            set_less (take (2 * n) W) (2 * best) 0 y (omega arith),
          )
