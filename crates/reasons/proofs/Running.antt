-- The loop of the stages: start, turn and done. As long as something is left, the queue gives the best node of the core; when nothing is, every node is told.
-- Assumes nothing.
use mathlib.Core.Path.{◌≡◌, refl, sym, ap, ◌∙◌, subst}
use mathlib.Core.Bool.{Bool, false≢true}
use mathlib.Core.List.{List, [], ◌∷◌}
use mathlib.Core.Logic.{◌≢◌, ◌⊎◌, inl, inr}
use Prim.Native.Nat.{ℕ, zero, ◌+◌, ◌*◌, ◌≤◌, ◌<◌}
use native.Mathlib.Decide.{dec_lt}
use native.Mathlib.Nat.{eq-zero-or-pos}
use native.Mathlib.Omega.{arith}
use lib.Dec.{T, eqb, ltb, ltb→lt}
use lib.ListN.{length, get_or}
use borrow.Author.Tests.{lt-ltb, le-ltb}
use Rattle.le.specs.Le.{Outside}
use Rattle.le.proofs.Frames.{outside_trans}
use Rattle.choice.specs.Arcs.{Set, has, vertices, size, IsEmpty}
use Rattle.choice.specs.Choice.{core, Best, Chooses, rest, taken, stop}
use Rattle.choice.specs.Drawing.{arcs, selectable, chosen}
use Rattle.choice.proofs.Core.{core_stable}
use Rattle.choice.proofs.Degrees.{is_true}
use Rattle.choice.proofs.Fits.{proper_offers}
use Rattle.choice.proofs.Graphs.{every_run_gives_chosen, chosen_and_free_are_all}
use Rattle.choice.proofs.Sets.{size_empty, size_some}
use Rattle.graph.specs.Graph.{Graph}
use Rattle.halves.specs.Halves.{Between}
use Rattle.halves.proofs.Lists.{pos_of}
use Rattle.queue.specs.Keys.{Queued}
use Rattle.queue.specs.Places.{keys_in}
use Rattle.queue.proofs.Nodes.{queue_lowered, queue_some}
use Rattle.queue.proofs.Stored.{keys_length}
use Rattle.halves.proofs.Leaving.{all_live}
use Rattle.tables.specs.Tables.{picked_at, queue_at}
use Rattle.removal.specs.Room.{Source, Steady}
use Rattle.cycle.specs.Next.{may, NoneKept, degrees_in, Agreed}
use Rattle.cycle.proofs.Begin.{Drawn}
use Rattle.cycle.proofs.Best.{next_best, next_stuck}
use Rattle.cycle.proofs.May.{same_may, may_edge, may_unkept, may_outside, none_outside}
use Rattle.cycle.proofs.Staging.{keys_same}
use Rattle.choice.specs.Reasons.{not_led_to, leads_to_none}
use Rattle.reasons.specs.Told.{entered, freed_all, waited_from, Explaining, Chose, Explained}
use Rattle.reasons.proofs.Choosing.{explaining_same, settled_state, gone_few, chose_frame, chose_explained, chose_less}
use Rattle.reasons.proofs.Saying.{entered_outside, freed_outside}

-- between stages, since the loop began with this answer buffer
pub record Running (s : Source) (g : Graph) (old W buffer : List ℕ) (nodes n m last ids : ℕ) : Type 0 where
  pub explaining : Explaining s g W buffer nodes n last (ids + 1)
  pub queued : Queued (may W nodes) (degrees_in W n) (keys_in W queue_at m)
  pub unkept : NoneKept W nodes
  pub frame : Outside 0 (16 * nodes) old buffer

-- where no node is kept all nodes may be chosen
pub may_all : (g : Graph) (W : List ℕ) (nodes n : ℕ) → Drawn g nodes n → NoneKept W nodes → may W nodes ≡ selectable g
may_all g W nodes n d none = (λ i v. at v i) ∙ (λ i v. ltb v (d.nodes_is i))
  where
    at : (v : ℕ) → may W nodes v ≡ ltb v nodes
    at v = go (dec_lt v nodes)
      where
        go : Dec (v < nodes) → may W nodes v ≡ ltb v nodes
        go (yes l) = sym (may_unkept W nodes v l none) ∙ sym (lt-ltb v nodes l)
        go (no l) = sym (may_edge W nodes v (omega arith)) ∙ sym (le-ltb v nodes (omega arith))

-- nothing is left: all is told
module _ (s : Source) (g : Graph) (old W buffer : List ℕ) (nodes n last ids : ℕ) (d : Drawn g nodes n) (long : picked_at ≤ length W) (x : Explaining s g W buffer nodes n last (ids + 1)) (o : Outside 0 (16 * nodes) old buffer) where
  abbrev E : Set
  E = core (arcs g) x.begun

  all_told : last + ids ≡ n → Explained g old buffer nodes ids
  unfolding taken
  all_told e = record { cuts = cuts; told = record { says = λ v l k. x.told.says v l (none v) }; frame = o }
    where
      none : IsEmpty E
      none = size_empty E (omega (arith, gone_few s g W buffer nodes n last (ids + 1) d long x))

      run : (all : List ℕ) × Chooses (arcs g) (selectable g) (vertices n) all (last + zero)
      run = let w = x.going.told.onward [] zero (stop (rest (λ v t. absurd (none v t))) none) in (w.0, w.1)

      free : last + zero ≡ (chosen g).free
      free = (every_run_gives_chosen g d.proper run.0 (last + zero) (subst (λ (k : ℕ). Chooses (arcs g) (selectable g) (vertices k) run.0 (last + zero)) d.n_is run.1)).1

      cuts : ids ≡ length (chosen g).ids
      cuts = omega (arith, free, chosen_and_free_are_all g d.proper, d.n_is)

module _ {s : Source} {g : Graph} {old : List ℕ} {nodes n : ℕ} (d : Drawn g nodes n) where
  module _ {W buffer : List ℕ} {m last ids : ℕ} (long : queue_at + 2 * m ≤ length W) (r : Running s g old W buffer nodes n m last ids) where
    x : Explaining s g W buffer nodes n last (ids + 1)
    x = r.explaining

    abbrev S : Set
    S = core (arcs g) r.explaining.begun

    counted : last + ids + size (core (arcs g) r.explaining.begun) ≡ n
    counted = omega (arith, gone_few s g W buffer nodes n last (ids + 1) d (omega arith) x)

    -- no more has gone than there is
    pub running_few : last + ids ≤ n
    running_few = omega (arith, counted)

    -- something is left
    some : last + ids ≢ n → (u : ℕ) × T (has S u) × T (selectable g u)
    some f = let v = size_some S (pos_of (size S) (λ z. f (omega (arith, counted)))) in proper_offers g d.proper S (core_stable (arcs g) r.explaining.begun) v.0 v.1

    pub running_done : last + ids ≡ n → Explained g old buffer nodes ids
    running_done e = all_told s g old W buffer nodes n last ids d (omega arith) r.explaining r.frame e

    -- ---- the queue brings the best node to the top

    module _ (positive : 0 < m) {M : List ℕ} {best : ℕ} (a : Agreed W M nodes n m best) where
      M_front : (i : ℕ) → i < picked_at → get_or M i 0 ≡ get_or W i 0
      M_front i l = a.frame.same i (inl (omega arith))

      pub running_next : Running s g old M buffer nodes n m last ids
      running_next = record {
        explaining = explaining_same s g W M buffer nodes n last (ids + 1) d (omega arith) a.frame.long M_front x;
        queued = subst (λ (t : ℕ → Bool). Queued t (degrees_in M n) (keys_in M queue_at m)) (sym (may_outside W M nodes (queue_at + 2 * m) d.few_nodes a.frame)) a.queued;
        unkept = none_outside W M nodes (queue_at + 2 * m) d.few_nodes a.frame r.unkept;
        frame = r.frame;
      }

  -- as long as something is left it is the core's best
  module _ {W buffer : List ℕ} {m last ids : ℕ} (long : queue_at + 2 * m ≤ length W) (r : Running s g old W buffer nodes n m last ids) (positive : 0 < m) {M : List ℕ} {best : ℕ} (a : Agreed W M nodes n m best)
      (f : last + ids ≢ n) where
    k : Running s g old M buffer nodes n m last ids
    k = running_next long r positive a

    abbrev R : Set
    R = core (arcs g) (running_next long r positive a).explaining.begun

    M_long : queue_at + 2 * m ≤ length M
    M_long = omega (arith, a.frame.long)

    sure : may W nodes ≡ selectable g
    sure = may_all g W nodes n d r.unkept

    state : Between (arcs g) n R (degrees_in M n) [] []
    state = settled_state s g M buffer nodes n last (ids + 1) d (omega (arith, M_long)) (running_next long r positive a).explaining

    alive : 0 < get_or (degrees_in M n) (2 * best) 0
    alive = go (eq-zero-or-pos (get_or (degrees_in M n) (2 * best) 0))
      where
        u : (u : ℕ) × T (has R u) × T (selectable g u)
        u = some M_long (running_next long r positive a) f

        go : (get_or (degrees_in M n) (2 * best) 0 ≡ 0) ⊎ (0 < get_or (degrees_in M n) (2 * best) 0) → 0 < get_or (degrees_in M n) (2 * best) 0
        go (inl z) =
            let stuck = next_stuck (arcs g) R W M nodes n m best positive a state z u.0 u.1 in
            absurd (false≢true (sym stuck ∙ (λ i. sure i u.0) ∙ is_true (selectable g u.0) u.2))
        go (inr l) = l

    pub running_best : Best (arcs g) (selectable g) (core (arcs g) (running_next long r positive a).explaining.begun) best
    running_best = subst (λ (t : ℕ → Bool). Best (arcs g) t R best) sure (next_best (arcs g) R W M nodes n m best positive a state alive)

    pub best_low : best < nodes
    best_low = omega (arith, ltb→lt best (length g.labels) running_best.allowed, d.nodes_is)

  -- ---- it is chosen, in the room M after the queue's loop

  module _ {M buffer : List ℕ} {m last ids : ℕ} (long : queue_at + 2 * m ≤ length M) (r : Running s g old M buffer nodes n m last ids) {best : ℕ} (b : Best (arcs g) (selectable g) (core (arcs g) r.explaining.begun) best)
      (low : best < nodes) (room : 16 * nodes ≤ length buffer) {X new : List ℕ} {end : ℕ} (c : Chose s M X buffer new nodes n best last (ids + 1) end) where
    frame : Steady M X
    frame = chose_frame s g M buffer nodes n last (ids + 1) d (omega arith) r.explaining best b low room X new end c

    behind : (i : ℕ) → picked_at ≤ i → get_or X i 0 ≡ get_or M i 0
    behind i l = frame.same i (omega arith) (inr (omega arith))

    pub running_later : last ≤ end
    running_later = omega (arith, c.one.later, c.two.later)

    pub running_fits : end ≤ n
    running_fits = c.two.went.few

    pub running_turn : Running s g old X new nodes n m end (ids + 1)
    running_turn = record {
      explaining = chose_explained s g M buffer nodes n last (ids + 1) d (omega arith) r.explaining best b low room X new end c;
      queued = subst (λ (t : ℕ → Bool). Queued t (degrees_in X n) (keys_in X queue_at m)) (sym (same_may M X nodes (λ v l. ap (λ (k : ℕ). eqb k 2) (behind (picked_at + v) (omega arith)))))
          (subst (Queued (may M nodes) (degrees_in X n)) (sym (keys_same M X queue_at m (λ i l. behind i (omega arith))))
          (queue_lowered (may M nodes) (degrees_in M n) (degrees_in X n) (keys_in M queue_at m) (chose_less s g M buffer nodes n last (ids + 1) d (omega arith) r.explaining best b low room X new end c) r.queued));
      unkept = λ v l e. r.unkept v l (sym (behind (picked_at + v) (omega arith)) ∙ e);
      frame = outside_trans r.frame (subst (Outside 0 (16 * nodes) buffer) (sym c.is) told);
    }
      where
        ns : List ℕ
        ns = 0 ∷ (ids + 1) ∷ get_or M (2 * best) 0 ∷ get_or M (2 * best + 1) 0 ∷ []

        one : List ℕ
        one = freed_all nodes (not_led_to (ids + 1 + 1)) (waited_from c.middle n last c.mid) (entered buffer best (0 ∷ (ids + 1) ∷ get_or M (2 * best) 0 ∷ get_or M (2 * best + 1) 0 ∷ []))

        told : Outside 0 (16 * nodes) buffer (freed_all nodes (leads_to_none (ids + 1 + 1)) (waited_from X n c.mid end) (freed_all nodes (not_led_to (ids + 1 + 1)) (waited_from c.middle n last c.mid) (entered buffer best (0 ∷ (ids + 1) ∷ get_or M (2 * best) 0 ∷ get_or M (2 * best + 1) 0 ∷ []))))
        told =
            outside_trans (entered_outside buffer best ns refl nodes low)
            (outside_trans (freed_outside nodes (not_led_to (ids + 1 + 1)) (waited_from c.middle n last c.mid) (entered buffer best ns)) (freed_outside nodes (leads_to_none (ids + 1 + 1)) (waited_from X n c.mid end) one))

  -- ---- nothing is queued: nothing is left

  module _ {W buffer : List ℕ} {last : ℕ} (long : queue_at ≤ length W) (x : Explaining s g W buffer nodes n last 1) (q : Queued (may W nodes) (degrees_in W n) (keys_in W queue_at 0)) (none : NoneKept W nodes)
      (o : Outside 0 (16 * nodes) old buffer) where
    pub none_queued : Explained g old buffer nodes 0
    none_queued = go (eq-zero-or-pos (size (core (arcs g) x.begun)))
      where
        E : Set
        E = core (arcs g) x.begun

        go : (size (core (arcs g) x.begun) ≡ 0) ⊎ (0 < size (core (arcs g) x.begun)) → Explained g old buffer nodes 0
        go (inl e) = all_told s g old W buffer nodes n last 0 d (omega arith) x o (omega (arith, gone_few s g W buffer nodes n last 1 d (omega arith) x, e))
        go (inr l) =
            let v = size_some E l in
            let u = proper_offers g d.proper E (core_stable (arcs g) x.begun) v.0 v.1 in
            let allowed : T (may W nodes u.0) = subst (λ (t : ℕ → Bool). T (t u.0)) (sym (may_all g W nodes n d none)) u.2 in
            let live = all_live (arcs g) n E (degrees_in W n) (settled_state s g W buffer nodes n last 1 d (omega arith) x) u.0 u.1 in
            absurd (omega (arith, queue_some (may W nodes) (degrees_in W n) (keys_in W queue_at 0) q u.0 allowed live, keys_length W queue_at 0))
