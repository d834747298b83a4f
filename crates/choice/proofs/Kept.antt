-- T-10, of graphs whose ids are below the node count: when the choice that keeps nodes is refused, what holds of an answer, and which kept nodes
-- change nothing.
-- Assumes nothing.
use mathlib.Core.Path.{◌≡◌, refl, sym, ap, subst, ◌∙◌}
use mathlib.Core.Bool.{Bool, true, false, ◌&&◌, ◌||◌, not, and-true}
use mathlib.Core.List.Memᴰ
use mathlib.Core.List.{List, [], ◌∷◌}
use mathlib.Core.Logic.{◌⊎◌, inl, inr, ◌↔◌}
use Prim.Native.Nat.{ℕ, ◌<◌}
use lib.Dec.{T, eqb, ltb→lt, lt→ltb}
use lib.ListN.{length}
use borrow.Author.Tests.{eqb-true}
use Rattle.graph.specs.Lists.{member, among}
use Rattle.graph.specs.Graph.{Graph, Proper}
use Rattle.graph.specs.Answer.{Refusal, refused, answered, refusal}
use Rattle.graph.proofs.Refuses.{Refuses, RefusedBy}
use Rattle.choice.specs.Arcs.{In, has, vertices, Cycle}
use Rattle.choice.specs.Choice.{core, Chosen, choice, Chooses}
use Rattle.choice.specs.Drawing.{arcs, vertex_count, selectable, chosen}
use Rattle.choice.specs.Keeping.{keeping_choice, unkept, chosen_keeping, Blocked, KeptCycle}
use Rattle.choice.specs.Promises.{Bounded, Offers, Spares}
use Rattle.choice.proofs.Sets.{and_left, and_right, both, same_test}
use Rattle.choice.proofs.Degrees.{is_true, is_false}
use Rattle.choice.proofs.Fits.{all_below_lem, in_among, among_in, proper_bounded, proper_offers}
use Rattle.choice.proofs.Demand3 as On
use Rattle.choice.proofs.Keeping.{only_sixteen, offers_answers, refused_iff_blocked, answered_offers, run_answers, answer_runs, same_answers}

-- ---- a vertex may not be chosen exactly if, being a node, it is listed

barred_listed : (kept : List ℕ) (g : Graph) (v : ℕ) → unkept kept g v ≡ false → v < length g.labels → In v kept
barred_listed kept g v e l = go (among kept v) refl
  where
    go : (b : Bool) → among kept v ≡ b → In v kept
    go true q = among_in kept v q
    go false q = absurd (subst T e (both (selectable g v) (not (among kept v)) (lt→ltb v _ l) (subst (λ (b : Bool). T (not b)) (sym q) tt)))

may_unlisted : (kept : List ℕ) (g : Graph) (v : ℕ) → T (unkept kept g v) → In v kept → ⊥
may_unlisted kept g v t m = subst (λ (b : Bool). T (not b)) (in_among kept v m) (and_right (selectable g v) (not (among kept v)) t)

may_node : (kept : List ℕ) (g : Graph) (v : ℕ) → T (unkept kept g v) → v < length g.labels
may_node kept g v t = ltb→lt v _ (and_left (selectable g v) (not (among kept v)) t)

listed_barred : (kept : List ℕ) (g : Graph) (v : ℕ) → (v < length g.labels → In v kept) → unkept kept g v ≡ false
listed_barred kept g v h = is_false (unkept kept g v) (λ t. may_unlisted kept g v t (h (may_node kept g v t)))

-- ---- the stages refuse with 16 alone

pub keeping_by : (kept : List ℕ) (g : Graph) → Refuses (λ r. r ≡ refusal 16) (chosen_keeping kept g)
unfolding chosen_keeping keeping_choice
keeping_by kept g = only_sixteen (arcs g) (unkept kept g) (vertex_count g) (vertices (vertex_count g))

pub sixteen_by : (ns : List ℕ) → member 16 ns ≡ true → (kept : List ℕ) (g : Graph) → RefusedBy ns (chosen_keeping kept g)
sixteen_by ns h kept g = record { each = λ r e. ap (λ (q : Refusal). member q.no ns) ((keeping_by kept g).each r e) ∙ h }

-- ---- "Repeats and order don't matter": lists with the same entries give the same

pub same_entries : (kept also : List ℕ) (g : Graph) → ((v : ℕ) → In v kept ↔ In v also) → chosen_keeping kept g ≡ chosen_keeping also g
unfolding chosen_keeping
same_entries kept also g h = λ i. keeping_choice (arcs g) (λ v. selectable g v && not (tests v i)) (vertex_count g)
  where
    over : (one other : List ℕ) (v : ℕ) → (In v one → In v other) → T (among one v) → T (among other v)
    over one other v k t = subst T (sym (in_among other v (k (among_in one v (is_true (among one v) t))))) tt

    tests : (v : ℕ) → among kept v ≡ among also v
    tests v = same_test (among kept v) (among also v) (over kept also v (h v).0) (over also kept v (h v).1)

-- ---- a kept node outside of the first core changes nothing

pub kept_outside_core : (kept : List ℕ) (g : Graph) (v : ℕ) → has (core (arcs g) (vertices (vertex_count g))) v ≡ false
    → chosen_keeping (v ∷ kept) g ≡ chosen_keeping kept g
unfolding chosen_keeping
kept_outside_core kept g v out = same_answers (arcs g) (unkept (v ∷ kept) g) (unkept kept g) (vertex_count g) (λ u t. go u t (eqb u v) refl)
  where
    go : (u : ℕ) → T (has (core (arcs g) (vertices (vertex_count g))) u) → (c : Bool) → eqb u v ≡ c
        → (selectable g u && not (c || among kept u)) ≡ (selectable g u && not (among kept u))
    go u t true e =
        absurd (subst T (ap (has (core (arcs g) (vertices (vertex_count g)))) (eqb-true u v e) ∙ out) t)
    go u t false e = refl

module _ (g : Graph) (proper : Proper g) where
  -- "With no kept nodes all is as before."
  pub keeping_none : chosen_keeping [] g ≡ answered (chosen g)
  unfolding chosen_keeping chosen
  keeping_none =
      (λ i. keeping_choice (arcs g) (λ v. and-true (selectable g v) i) (vertex_count g))
      ∙ offers_answers (arcs g) (selectable g) (vertex_count g) (proper_bounded g proper) (proper_offers g proper)

  module _ (kept : List ℕ) where
    -- "It refuses exactly if some cycle has only kept nodes"
    pub refused_iff_kept_cycle : (chosen_keeping kept g ≡ refused (refusal 16)) ↔ KeptCycle kept g
    unfolding chosen_keeping
    refused_iff_kept_cycle = (
      (λ e. let c = iff.0 e in record { cycle = c.cycle; closed = c.closed; listed = λ v m. barred_listed kept g v (c.barred v m) }),
      (λ c. iff.1 (record { cycle = c.cycle; closed = c.closed; barred = λ v m. listed_barred kept g v (c.listed v m) })),
    )
      where
        iff : (keeping_choice (arcs g) (unkept kept g) (vertex_count g) ≡ refused (refusal 16)) ↔ Blocked (arcs g) (unkept kept g)
        iff = refused_iff_blocked (arcs g) (unkept kept g) (vertex_count g) (proper_bounded g proper)

    -- whatever order vertices are taken away in: a run that comes to its end is the answer, and an answer is such a run
    pub answer_iff_run : (c : Chosen) → (chosen_keeping kept g ≡ answered c) ↔ Chooses (arcs g) (unkept kept g) (vertices (vertex_count g)) c.ids c.free
    unfolding chosen_keeping
    answer_iff_run c = (
      answer_runs (arcs g) (unkept kept g) (vertex_count g) (proper_bounded g proper) c,
      run_answers (arcs g) (unkept kept g) (vertex_count g) (proper_bounded g proper) c.ids c.free,
    )

    -- demand 3 "holds for each answered call"
    pub answered_spares : (c : Chosen) → chosen_keeping kept g ≡ answered c → Spares kept g c
    unfolding chosen_keeping
    answered_spares c e = subst (Spares kept g) (sym w.1) (record {
      breaks = record {
        ascends = On.ascending (arcs g) may n b o;
        nodes = all_below_lem (length g.labels) (choice (arcs g) may n).ids (λ v m. may_node kept g v (On.chosen_may (arcs g) may n b o v m));
        meets = On.every_cycle_cut (arcs g) may n b o;
        none = On.empty_iff_no_cycle (arcs g) may n b o;
      };
      spared = λ v m. may_unlisted kept g v (On.chosen_may (arcs g) may n b o v m);
      all_counted = On.chosen_and_free (arcs g) may n b o;
    })
      where
        may : ℕ → Bool
        may = unkept kept g

        n : ℕ
        n = vertex_count g

        b : Bounded (arcs g) n
        b = proper_bounded g proper

        w : Offers (arcs g) may × (c ≡ choice (arcs g) may n)
        w = answered_offers (arcs g) may n b c e

        o : Offers (arcs g) may
        o = w.0

  -- a kept node on no directed cycle does not change whether the call is refused; it may change the list, as P12 shows
  pub kept_on_no_cycle : (kept : List ℕ) (v : ℕ) → ((c : List ℕ) → Cycle (arcs g) c → In v c → ⊥)
      → (chosen_keeping (v ∷ kept) g ≡ refused (refusal 16)) ↔ (chosen_keeping kept g ≡ refused (refusal 16))
  kept_on_no_cycle kept v off = (
    (λ e. (refused_iff_kept_cycle kept).1 (fewer ((refused_iff_kept_cycle (v ∷ kept)).0 e))),
    (λ e. (refused_iff_kept_cycle (v ∷ kept)).1 (more ((refused_iff_kept_cycle kept).0 e))),
  )
    where
      other : (c : List ℕ) → Cycle (arcs g) c → (u : ℕ) → In u c → (u ≡ v) ⊎ In u kept → In u kept
      other c y u m (inl e) = absurd (off c y (Memᴰ.cast (sym e) m))
      other c y u m (inr k) = k

      fewer : KeptCycle (v ∷ kept) g → KeptCycle kept g
      fewer k = record { cycle = k.cycle; closed = k.closed; listed = λ u m l. other k.cycle k.closed u m (Memᴰ.cases_cons (k.listed u m l)) }

      more : KeptCycle kept g → KeptCycle (v ∷ kept) g
      more k = record { cycle = k.cycle; closed = k.closed; listed = λ u m l. Memᴰ.tail (k.listed u m l) }
