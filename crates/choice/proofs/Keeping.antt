-- The choice that keeps, over any arcs and any test: it is refused exactly if some cycle has nothing that may be chosen, whatever
-- was chosen before; otherwise it is the choice, and Demand3 says of it what it says of every choice.
-- Assumes nothing.
use mathlib.Core.Path.{◌≡◌, refl, sym, ap, ◌∙◌, subst}
use mathlib.Core.Bool.{Bool, true, false, ◌&&◌, not, cond}
use mathlib.Core.List.{List, []}
use mathlib.Core.Logic.{◌⊎◌, inl, inr, ◌↔◌}
use Prim.Native.Nat.{ℕ, zero, suc, ◌+◌, ◌≤◌, ◌<◌}
use native.Mathlib.Nat.{eq-zero-or-pos, le_of_eq}
use native.Mathlib.Omega.{arith}
use lib.Dec.{T, ltb}
use lib.ListN.{length, get_or-replicate}
use borrow.Author.Tests.{lt-ltb}
use Rattle.graph.specs.Answer.{refused, answered, refusal, ◌else◌, ◌>>=◌, ◌>>◌}
use Rattle.graph.proofs.Steps.{never, same_answer, stops}
use Rattle.graph.proofs.Refuses.{Refuses, answer_by, refusal_by, step_by}
use Rattle.choice.specs.Arcs.{Arc, In, Set, has, vertices, without, size, passing, outside, Subset, Stable}
use Rattle.choice.specs.Choice.{core, score, worth, best, insert, Chosen, stages, choice, Best, Chooses}
use Rattle.choice.specs.Promises.{Bounded, Offers}
use Rattle.choice.proofs.Sets.{and_right, set_ext, without_subset, length_passing, has_passing, kept, passing_subset, stays, size_empty, none_left, size_some, size_without, size_vertices, all_or_one}
use Rattle.choice.proofs.Core.{out_some, core_subset, core_stable, core_largest, core_steady, peels_to_core, peels_taken}
use Rattle.choice.proofs.Cycles.{cycle_steady, cycle_some, cycle_inside, stable_cycle}
use Rattle.choice.proofs.Stages.{best_best, run_hits, run_inside}
use Rattle.choice.proofs.Demand3.{choice_run, same_choice}
use Rattle.choice.specs.Keeping.{keeping_stages, keeping_choice, Blocked}

barred_false : (b : Bool) → T (not b) → b ≡ false
barred_false true t = absurd t
barred_false false t = refl

not_true : (b : Bool) → b ≡ false → T b → ⊥
not_true b e t = subst T e t

false_not : (b : Bool) → b ≡ false → T (not b)
false_not b e = subst (λ (x : Bool). T (not x)) (sym e) tt

not_may : (b : Bool) → (T (not b) → ⊥) → T b
not_may true n = tt
not_may false n = n tt

-- v chosen after some were removed freely, and then what the later stages gave
abbrev before : ℕ → ℕ → Chosen → Chosen
before v free r = record { ids = insert v r.ids; free = free + r.free }

module _ (arcs : List Arc) (may : ℕ → Bool) where
  -- ---- one stage

  abbrev next : Set → ℕ
  next S = best arcs may (core arcs S) (length (core arcs S))

  abbrev offered : Set → ℕ
  offered S = size (passing may (core arcs S))

  stage_end : (k : ℕ) (S : Set) → size (core arcs S) ≡ zero → keeping_stages (suc k) arcs may S ≡ answered (record { ids = []; free = outside S (core arcs S) })
  unfolding keeping_stages
  stage_end k S e = rw (e, keeping_stages)

  stage_stuck : (k : ℕ) (S : Set) (m : ℕ) → size (core arcs S) ≡ suc m → offered S ≡ zero → keeping_stages (suc k) arcs may S ≡ refused (refusal 16)
  unfolding keeping_stages ◌else◌ ◌>>◌
  stage_stuck k S m e o = rw (e, o, keeping_stages)

  stage_more : (k : ℕ) (S : Set) (m : ℕ) → size (core arcs S) ≡ suc m → ltb zero (offered S) ≡ true
      → keeping_stages (suc k) arcs may S ≡ (keeping_stages k arcs may (without (next S) (core arcs S)) >>= (λ r. answered (before (next S) (outside S (core arcs S)) r)))
  unfolding keeping_stages ◌else◌ ◌>>◌
  stage_more k S m e o = rw (e, o, keeping_stages)

  -- a core vertex that may be chosen is offered, and what is offered is in the core and may be chosen
  some_offered : (S : Set) (u : ℕ) → T (has (core arcs S) u) → T (may u) → zero < offered S
  some_offered S u t m = go (eq-zero-or-pos (offered S))
    where
      go : (offered S ≡ zero) ⊎ (zero < offered S) → zero < offered S
      go (inl e) = absurd (size_empty (passing may (core arcs S)) e u (kept may (core arcs S) u t m))
      go (inr l) = l

  -- what is offered is chosen from
  best_offered : (S : Set) → zero < offered S → Best arcs may (core arcs S) (next S)
  best_offered S l =
      let C = core arcs S in
      let w = size_some (passing may C) l in
      best_best arcs may C (core_stable arcs S) w.0 (passing_subset may C w.0 w.1) (and_right (has C w.0) (may w.0) (subst T (has_passing may C w.0) w.1))

  -- ---- no other number than 16 is given

  pub only_sixteen : (k : ℕ) (S : Set) → Refuses (λ r. r ≡ refusal 16) (keeping_stages k arcs may S)
  unfolding keeping_stages
  only_sixteen zero S = answer_by _
  only_sixteen (suc k) S = go (size C) refl (eq-zero-or-pos (offered S)) (only_sixteen k (without (next S) C))
    where
      C : Set
      C = core arcs S

      go : (n : ℕ) → size C ≡ n → (offered S ≡ zero) ⊎ (zero < offered S) → Refuses (λ r. r ≡ refusal 16) (keeping_stages k arcs may (without (next S) C))
          → Refuses (λ r. r ≡ refusal 16) (keeping_stages (suc k) arcs may S)
      go zero z o r = subst (Refuses (λ r. r ≡ refusal 16)) (sym (stage_end k S z)) (answer_by _)
      go (suc j) z (inl o) r = subst (Refuses (λ r. r ≡ refusal 16)) (sym (stage_stuck k S j z o)) (refusal_by _ refl)
      go (suc j) z (inr l) r =
          subst (Refuses (λ r. r ≡ refusal 16)) (sym (stage_more k S j z (lt-ltb zero (offered S) l))) (step_by _ _ r (λ x. answer_by _))

  -- ---- where each stable set offers a vertex, the stages are 01's

  pub keeping_stages_lem : Offers arcs may → (k : ℕ) (S : Set) → keeping_stages k arcs may S ≡ answered (stages k arcs may S)
  unfolding keeping_stages stages
  keeping_stages_lem o zero S = refl
  keeping_stages_lem o (suc k) S = go (size (core arcs S)) refl (keeping_stages_lem o k (without (next S) (core arcs S)))
    where
      C : Set
      C = core arcs S

      go : (n : ℕ) → size C ≡ n → keeping_stages k arcs may (without (next S) C) ≡ answered (stages k arcs may (without (next S) C))
          → keeping_stages (suc k) arcs may S ≡ answered (stages (suc k) arcs may S)
      go zero e r = stage_end k S e ∙ rw (e, stages)
      go (suc m) e r =
          let w = size_some C (omega arith) in
          let u = o C (core_stable arcs S) w.0 w.1 in
          stage_more k S m e (lt-ltb zero (offered S) (some_offered S u.0 u.1 u.2))
          ∙ (unfold ◌>>=◌ in rw (r, e, stages))

  -- ---- where a stable set offers none, they are refused, whatever was chosen before

  pub stuck_stages : (U : Set) → Stable arcs U → ((v : ℕ) → T (has U v) → may v ≡ false) → (u : ℕ) → T (has U u)
      → (k : ℕ) (S : Set) → size S ≤ k → Subset U S → keeping_stages k arcs may S ≡ refused (refusal 16)
  stuck_stages U s none u t zero S h w = absurd (none_left S h u (w u t))
  stuck_stages U s none u t (suc k) S h w =
      go (size C) refl (eq-zero-or-pos (offered S)) (λ l x. stuck_stages U s none u t k (without (next S) C) l x)
    where
      C : Set
      C = core arcs S

      inside : Subset U C
      inside = core_largest arcs S U s w

      go : (n : ℕ) → size C ≡ n → (offered S ≡ zero) ⊎ (zero < offered S)
          → (size (without (next S) C) ≤ k → Subset U (without (next S) C) → keeping_stages k arcs may (without (next S) C) ≡ refused (refusal 16))
          → keeping_stages (suc k) arcs may S ≡ refused (refusal 16)
      go zero e o r = absurd (size_empty C e u (inside u t))
      go (suc m) e (inl z) r = stage_stuck k S m e z
      go (suc m) e (inr l) r =
          let b = best_offered S l in
          let other : (v : ℕ) → T (has U v) → v ≡ next S → ⊥ = λ v x q. not_true (may (next S)) (none (next S) (subst (λ (y : ℕ). T (has U y)) q x)) b.allowed in
          let q = r (omega (arith, size_without (next S) C b.inside, peels_taken arcs (peels_to_core arcs S))) (λ v x. stays (next S) C v (other v x) (inside v x)) in
          stage_more k S m e (lt-ltb zero (offered S) l) ∙ stops _ q

  -- ---- which of the two holds is settled by the first core of what may not be chosen

  module _ (n : ℕ) (bounded : Bounded arcs n) where
    barred : Set
    barred = core arcs (passing (λ v. not (may v)) (vertices n))

    barred_none : (v : ℕ) → T (has barred v) → may v ≡ false
    unfolding barred
    barred_none v t =
        let P = passing (λ u. not (may u)) (vertices n) in
        barred_false (may v) (and_right (has (vertices n) v) (not (may v)) (subst T (has_passing (λ u. not (may u)) (vertices n) v) (core_subset arcs P v t)))

    -- a stable set is among the n vertices
    stable_inside : (S : Set) → Stable arcs S → Subset S (vertices n)
    stable_inside S s v t =
        let w = out_some arcs S v (s v t).1 in
        subst T (sym (get_or-replicate n v true false (bounded v w.0 w.2).0)) tt

    -- a stable set that offers none is in it
    stuck_barred : (S : Set) → Stable arcs S → ((v : ℕ) → T (has S v) → T (not (may v))) → Subset S barred
    unfolding barred
    stuck_barred S s none =
        core_largest arcs (passing (λ u. not (may u)) (vertices n)) S s
        (λ v t. kept (λ u. not (may u)) (vertices n) v (stable_inside S s v t) (none v t))

    empty_offers : size barred ≡ zero → Offers arcs may
    empty_offers e S s v t = go (all_or_one (λ u. not (may u)) S)
      where
        go : ((u : ℕ) → T (has S u) → T (not (may u))) ⊎ ((u : ℕ) × T (has S u) × (T (not (may u)) → ⊥)) → (u : ℕ) × T (has S u) × T (may u)
        go (inl f) = absurd (size_empty barred e v (stuck_barred S s f v t))
        go (inr w) = (w.0, w.1, not_may (may w.0) w.2)

    some_blocked : zero < size barred → Blocked arcs may
    unfolding barred
    some_blocked l =
        let w = size_some barred l in
        let c = stable_cycle arcs barred (core_stable arcs (passing (λ u. not (may u)) (vertices n))) w.0 w.1 in
        record { cycle = c.0; closed = c.1; barred = λ v m. barred_none v (c.2 v m) }

    -- a stable set that offers none refuses the choice: an engine that meets one is done, whatever it has chosen
    pub stuck_refuses : (S : Set) → Stable arcs S → ((v : ℕ) → T (has S v) → may v ≡ false) → (v : ℕ) → T (has S v) → keeping_choice arcs may n ≡ refused (refusal 16)
    unfolding keeping_choice
    stuck_refuses S s none v t = stuck_stages S s none v t n (vertices n) (le_of_eq (size_vertices n)) (stable_inside S s)

    -- and so does a cycle on which nothing may be chosen
    pub blocked_refuses : Blocked arcs may → keeping_choice arcs may n ≡ refused (refusal 16)
    unfolding barred
    blocked_refuses c =
        let P = passing (λ u. not (may u)) (vertices n) in
        let v = cycle_some arcs c.cycle c.closed in
        let i = core_steady arcs (λ u. In u c.cycle) P (cycle_steady arcs c.cycle c.closed)
        (λ u m. kept (λ x. not (may x)) (vertices n) u (cycle_inside arcs n bounded c.cycle c.closed u m) (false_not (may u) (c.barred u m))) in
        stuck_refuses barred (core_stable arcs P) barred_none v.0 (i v.0 v.1)

    -- without such a cycle it is the choice
    pub offers_answers : Offers arcs may → keeping_choice arcs may n ≡ answered (choice arcs may n)
    unfolding keeping_choice choice
    offers_answers o = keeping_stages_lem o n (vertices n)

    -- one of the two
    pub blocked_or_offers : Blocked arcs may ⊎ Offers arcs may
    blocked_or_offers = go (eq-zero-or-pos (size barred))
      where
        go : (size barred ≡ zero) ⊎ (zero < size barred) → Blocked arcs may ⊎ Offers arcs may
        go (inl e) = inr (empty_offers e)
        go (inr l) = inl (some_blocked l)

    -- "It refuses exactly if some cycle has only kept nodes"
    pub refused_iff_blocked : (keeping_choice arcs may n ≡ refused (refusal 16)) ↔ Blocked arcs may
    refused_iff_blocked = (λ e. go blocked_or_offers e, blocked_refuses)
      where
        go : Blocked arcs may ⊎ Offers arcs may → keeping_choice arcs may n ≡ refused (refusal 16) → Blocked arcs may
        go (inl c) e = c
        go (inr o) e = absurd (never (sym e ∙ offers_answers o))

    -- where it is answered, each stable set offers a vertex, and the answer is the choice: Demand3 speaks of it
    pub answered_offers : (c : Chosen) → keeping_choice arcs may n ≡ answered c → Offers arcs may × (c ≡ choice arcs may n)
    answered_offers c e = go blocked_or_offers
      where
        go : Blocked arcs may ⊎ Offers arcs may → Offers arcs may × (c ≡ choice arcs may n)
        go (inl b) = absurd (never (sym (blocked_refuses b) ∙ e))
        go (inr o) = (o, same_answer (sym e ∙ offers_answers o))

    -- ---- every permitted order: a run that comes to its end is the answer, and where there is one there is no refusal

    pub run_answers : (ids : List ℕ) (free : ℕ) → Chooses arcs may (vertices n) ids free → keeping_choice arcs may n ≡ answered (record { ids = ids; free = free })
    run_answers ids free r = go blocked_or_offers
      where
        clash : Blocked arcs may → ⊥
        clash c =
            let v = cycle_some arcs c.cycle c.closed in
            let h = run_hits arcs may r c.cycle (cycle_steady arcs c.cycle c.closed) (cycle_inside arcs n bounded c.cycle c.closed) v.0 v.1 in
            not_true (may h.0) (c.barred h.0 h.1) (run_inside arcs may r h.0 h.2).0

        go : Blocked arcs may ⊎ Offers arcs may → keeping_choice arcs may n ≡ answered (record { ids = ids; free = free })
        go (inl c) = absurd (clash c)
        go (inr o) = let q = same_choice arcs may n bounded o ids free r in offers_answers o ∙ (λ i. answered (record { ids = sym q.0 i; free = sym q.1 i }))

    pub answer_runs : (c : Chosen) → keeping_choice arcs may n ≡ answered c → Chooses arcs may (vertices n) c.ids c.free
    answer_runs c e = let w = answered_offers c e in subst (λ (x : Chosen). Chooses arcs may (vertices n) x.ids x.free) (sym w.1) (choice_run arcs may n bounded w.0)

-- ---- two tests that agree on the first core give the same

module _ (arcs : List Arc) (may also : ℕ → Bool) where
  module _ (S : Set) (agree : (v : ℕ) → T (has S v) → may v ≡ also v) where
    same_in : (v : ℕ) → (has S v && may v) ≡ (has S v && also v)
    same_in v = go (has S v) (agree v)
      where
        go : (b : Bool) → (T b → may v ≡ also v) → (b && may v) ≡ (b && also v)
        go true h = h tt
        go false h = refl

    same_worth : worth arcs may S ≡ worth arcs also S
    unfolding worth
    same_worth = λ i v. cond (same_in v i) (score arcs S v) zero

    same_best : (n : ℕ) → best arcs may S n ≡ best arcs also S n
    unfolding best
    same_best zero = refl
    same_best (suc n) = λ i. cond (ltb (same_worth i (same_best n i)) (same_worth i n)) n (same_best n i)

    same_passing : passing may S ≡ passing also S
    same_passing =
        set_ext (passing may S) (passing also S) (length_passing may S ∙ sym (length_passing also S))
        (λ v t. subst T (has_passing may S v ∙ same_in v ∙ sym (has_passing also S v)) t)
        (λ v t. subst T (has_passing also S v ∙ sym (same_in v) ∙ sym (has_passing may S v)) t)

  same_stages : (k : ℕ) (S : Set) → ((v : ℕ) → T (has (core arcs S) v) → may v ≡ also v) → keeping_stages k arcs may S ≡ keeping_stages k arcs also S
  unfolding keeping_stages
  same_stages zero S agree = refl
  same_stages (suc k) S agree = go (size C) refl (eq-zero-or-pos (offered arcs may S)) (same_stages k (without (next arcs also S) C) later)
    where
      C : Set
      C = core arcs S

      later : (v : ℕ) → T (has (core arcs (without (next arcs also S) C)) v) → may v ≡ also v
      later v t = agree v (without_subset (next arcs also S) C v (core_subset arcs (without (next arcs also S) C) v t))

      chosen : next arcs may S ≡ next arcs also S
      chosen = same_best C agree (length C)

      offer : offered arcs may S ≡ offered arcs also S
      offer = ap size (same_passing C agree)

      go : (n : ℕ) → size C ≡ n → (offered arcs may S ≡ zero) ⊎ (zero < offered arcs may S)
          → keeping_stages k arcs may (without (next arcs also S) C) ≡ keeping_stages k arcs also (without (next arcs also S) C)
          → keeping_stages (suc k) arcs may S ≡ keeping_stages (suc k) arcs also S
      go zero e o r = stage_end arcs may k S e ∙ sym (stage_end arcs also k S e)
      go (suc m) e (inl z) r = stage_stuck arcs may k S m e z ∙ sym (stage_stuck arcs also k S m e (sym offer ∙ z))
      go (suc m) e (inr l) r =
          stage_more arcs may k S m e (lt-ltb zero (offered arcs may S) l)
          ∙ (λ i. keeping_stages k arcs may (without (chosen i) C) >>= (λ x. answered (before (chosen i) (outside S C) x)))
          ∙ (λ i. r i >>= (λ x. answered (before (next arcs also S) (outside S C) x)))
          ∙ sym (stage_more arcs also k S m e (lt-ltb zero (offered arcs also S) (subst (λ (n : ℕ). zero < n) offer l)))

  pub same_answers : (n : ℕ) → ((v : ℕ) → T (has (core arcs (vertices n)) v) → may v ≡ also v) → keeping_choice arcs may n ≡ keeping_choice arcs also n
  unfolding keeping_choice
  same_answers n = same_stages n (vertices n)
