-- The loop of the stages: start, turn, stuck and done. Here the arcs come in: what is left is told by `Going`.
-- Assumes nothing.
use mathlib.Core.Path.{◌≡◌, refl, sym, ap, ◌∙◌, subst}
use mathlib.Core.Bool.{Bool}
use mathlib.Core.List.Memᴰ
use mathlib.Core.List.{List, [], ◌∷◌}
use mathlib.Core.Logic.{◌≢◌, inl, ◌↔◌, ⊎_elim}
use Prim.Native.Nat.{ℕ, ◌+◌, ◌-◌, ◌*◌, ◌≤◌, ◌<◌}
use native.Mathlib.Decide.{ℕ_discrete}
use native.Mathlib.Omega.{arith}
use lib.ListN.{length, get_or, set}
use lib.Seq.{get_or-set_same, get_or-set_other}
use Rattle.tables.specs.Tables.{most_nodes, most_vertices, waiting_at, picked_at, queue_at}
use Rattle.graph.specs.Answer.{answered, refused, refusal}
use Rattle.choice.specs.Arcs.{Arc, In, Set}
use Rattle.choice.specs.Choice.{Chosen, Best}
use Rattle.choice.specs.Keeping.{keeping_choice}
use Rattle.choice.specs.Promises.{Bounded}
use Rattle.choice.proofs.Keeping.{stuck_refuses}
use Rattle.halves.specs.Halves.{Halves, times, Listed, Between, Going, peel_from, pick}
use Rattle.halves.proofs.Whole.{still, going_stable, going_done, going_some, stage_going, gone_number}
use Rattle.removal.specs.Room.{Source, halves_in, list_in}
use Rattle.removal.proofs.Tables.{part_length}
use Rattle.cycle.specs.Next.{may, degrees_in, Agreed}
use Rattle.cycle.specs.Stage.{Standing, Staged, Underway, Flagged}
use Rattle.cycle.proofs.May.{may_low, may_outside}
use Rattle.cycle.proofs.Best.{next_best, next_stuck}
use Rattle.cycle.proofs.Staging.{next_allowed, next_halves, next_lists}

-- between stages, of the arcs, since the loop began with the room W
pub record Run (s : Source) (W X : List ℕ) (nodes n last ids : ℕ) (arcs : List Arc) : Type 0 where
  pub left : Set
  pub picked : List ℕ
  pub listed : Listed arcs n (list_in s X nodes)
  pub going : Going arcs (may W nodes) n left (halves_in X n last) picked last
  pub count : length picked ≡ ids
  pub flags : Flagged nodes X picked
  pub test : may X nodes ≡ may W nodes

module _ (s : Source) (W : List ℕ) (nodes n m : ℕ) (less : nodes ≤ n) (few_nodes : nodes ≤ most_nodes) (few : n ≤ most_vertices) (some : 0 < m) where
  pub run_start : (end : ℕ) (u : Underway s W nodes n end) → Run s W W nodes n end 0 u.arcs
  run_start end u = record {
    left = u.left;
    picked = [];
    listed = u.listed;
    going = u.going;
    count = refl;
    flags = λ x l. (λ k. absurd (Memᴰ.not-nil k), λ e. absurd (u.unflagged x l e));
    test = refl;
  }

  module _ (X : List ℕ) (last ids : ℕ) (fits : last ≤ n) (long : queue_at + 2 * m ≤ length X) (arcs : List Arc) (r : Run s W X nodes n last ids arcs) where
    waits_long : length (halves_in X n last).waiting ≡ last
    waits_long = unfold halves_in in part_length X waiting_at last (omega arith)

    g : Going arcs (may W nodes) n r.left (halves_in X n last) r.picked (length (halves_in X n last).waiting)
    g = subst (Going arcs (may W nodes) n r.left (halves_in X n last) r.picked) (sym waits_long) r.going

    -- what has gone is no more than there is
    pub run_few : last + ids ≤ n
    run_few = omega (arith, gone_number arcs (may W nodes) n r.left (halves_in X n last) r.picked last r.going, waits_long, r.count)

    -- the queue's loop touches nothing else
    pub run_next : Standing s X nodes n m last → (M : List ℕ) (best : ℕ) → Agreed X M nodes n m best → Run s W M nodes n last ids arcs
    run_next st M best x = record {
      left = r.left;
      picked = r.picked;
      listed = record {
        right = λ y z l. ap (times z) (lists y l) ∙ r.listed.right y z l;
        low = λ y t l j. r.listed.low y t l (subst (In t) (lists y l) j);
      };
      going = subst (λ (h : Halves). Going arcs (may W nodes) n r.left h r.picked last) (sym (next_halves s X nodes n m last less few_nodes few some fits long st M best x)) r.going;
      count = r.count;
      flags = λ v l. subst (λ (k : ℕ). In v r.picked ↔ (k ≡ 1)) (sym (x.frame.same (picked_at + v) (inl (omega arith)))) (r.flags v l);
      test = may_outside X M nodes (queue_at + 2 * m) few_nodes x.frame ∙ r.test;
    }
      where
        lists : (y : ℕ) → y < 2 * n → list_in s M nodes y ≡ list_in s X nodes y
        lists = next_lists s X nodes n m last less few_nodes few some fits long st M best x

    -- all have gone: the choice is answered
    pub run_done : Bounded arcs n → last + ids ≡ n → (c : Chosen) × (keeping_choice arcs (may W nodes) n ≡ answered c) × Flagged nodes X c.ids × (c.free ≡ last)
    run_done bounded e =
        let told = going_done arcs (may W nodes) n (list_in s X nodes) r.listed r.left (halves_in X n last) r.picked g bounded (omega (arith, waits_long, r.count)) in
        (told.0, told.1, λ x l. (λ j. (r.flags x l).0 ((told.3 x).0 j), λ z. (told.3 x).1 ((r.flags x l).1 z)), told.4 ∙ waits_long)

    between : Between arcs n r.left (degrees_in X n) [] []
    between = unfold halves_in in still arcs n r.left (halves_in X n last) g.ready

  -- the room M after the queue's loop, which began with X
  module _ (X : List ℕ) (last ids : ℕ) (fits : last ≤ n) (long : queue_at + 2 * m ≤ length X) (st : Standing s X nodes n m last) (M : List ℕ) (best : ℕ) (x : Agreed X M nodes n m best)
      (arcs : List Arc) (r : Run s W X nodes n last ids arcs) where
    M_long : queue_at + 2 * m ≤ length M
    M_long = omega (arith, x.frame.long)

    k : Run s W M nodes n last ids arcs
    k = run_next X last ids fits long arcs r st M best x

    S : Set
    S = (run_next X last ids fits long arcs r st M best x).left

    going : Going arcs (may W nodes) n k.left (halves_in M n last) k.picked (length (halves_in M n last).waiting)
    going = g M last ids fits M_long arcs k

    -- nothing that is left may be chosen
    pub run_stuck : Bounded arcs n → last + ids ≢ n → get_or (degrees_in M n) (2 * best) 0 ≡ 0 → keeping_choice arcs (may W nodes) n ≡ refused (refusal 16)
    run_stuck bounded more z =
        let someone = going_some arcs (may W nodes) n (list_in s M nodes) k.listed k.left (halves_in M n last) k.picked going (λ q. more (omega (arith, waits_long M last ids fits M_long arcs k, k.count))) in
        stuck_refuses arcs (may W nodes) n bounded k.left (going_stable arcs (may W nodes) n (list_in s M nodes) k.listed k.left (halves_in M n last) k.picked going)
        (λ u t. (λ i. sym r.test i u) ∙ next_stuck arcs k.left X M nodes n m best some x (between M last ids fits M_long arcs k) z u t) someone.0 someone.1

    module _ (alive : 0 < get_or (degrees_in M n) (2 * best) 0) (Y : List ℕ) (e : ℕ) (w : Staged s M Y nodes n m best last e) where
      is_best_lem : Best arcs (may W nodes) k.left best
      is_best_lem = subst (λ (t : ℕ → Bool). Best arcs t k.left best) r.test (next_best arcs k.left X M nodes n m best some x (between M last ids fits M_long arcs k) alive)

      U : (U : Set) × Going arcs (may W nodes) n U (peel_from (n - length (halves_in M n last).waiting) (list_in s M nodes) (length (halves_in M n last).waiting) (pick (list_in s M nodes) best (halves_in M n last)))
          (best ∷ k.picked) (length (peel_from (n - length (halves_in M n last).waiting) (list_in s M nodes) (length (halves_in M n last).waiting) (pick (list_in s M nodes) best (halves_in M n last))).waiting)
      U = stage_going arcs (may W nodes) n (list_in s M nodes) k.listed k.left (halves_in M n last) k.picked going best is_best_lem

      is : peel_from (n - length (halves_in M n last).waiting) (list_in s M nodes) (length (halves_in M n last).waiting) (pick (list_in s M nodes) best (halves_in M n last)) ≡ halves_in Y n e
      is = (λ i. peel_from (n - waits_long M last ids fits M_long arcs k i) (list_in s M nodes) (waits_long M last ids fits M_long arcs k i) (pick (list_in s M nodes) best (halves_in M n last))) ∙ sym w.is

      e_long : length (halves_in Y n e).waiting ≡ e
      e_long = unfold halves_in in part_length Y waiting_at e (omega (arith, w.long, w.few, x.frame.long))

      gone : Going arcs (may W nodes) n U.0 (halves_in Y n e) (best ∷ k.picked) (length (halves_in Y n e).waiting)
      gone = subst (λ (z : Halves). Going arcs (may W nodes) n U.0 z (best ∷ k.picked) (length z.waiting)) is U.1

      low : best < nodes
      low = may_low M nodes best (next_allowed s X nodes n m last less few_nodes few some fits long st M best x)

      flags : (v : ℕ) → v < nodes → Dec (v ≡ best) → In v (best ∷ k.picked) ↔ (get_or Y (picked_at + v) 0 ≡ 1)
      flags v l (yes q) = (λ j. set_one, λ z. Memᴰ.head q)
        where
          set_one : get_or Y (picked_at + v) 0 ≡ 1
          set_one = w.flags v l ∙ ap (λ (u : ℕ). get_or (set M (picked_at + best) 1) (picked_at + u) 0) q ∙ get_or-set_same M (picked_at + best) 1 0 (omega (arith, low, M_long))
      flags v l (no q) = (
        λ j. same ∙ (k.flags v l).0 (⊎_elim (λ z. absurd (q z)) (λ z. z) (Memᴰ.cases_cons j)),
        λ z. Memᴰ.tail ((k.flags v l).1 (sym same ∙ z)),
      )
        where
          same : get_or Y (picked_at + v) 0 ≡ get_or M (picked_at + v) 0
          same = w.flags v l ∙ get_or-set_other M (picked_at + best) (picked_at + v) 1 0 (λ z. q (omega arith))

      pub run_turn : Run s W Y nodes n e (ids + 1) arcs
      run_turn = record {
        left = U.0;
        picked = best ∷ k.picked;
        listed = record {
          right = λ y z l. ap (times z) (w.same_lists y l) ∙ k.listed.right y z l;
          low = λ y t l j. k.listed.low y t l (subst (In t) (w.same_lists y l) j);
        };
        going = subst (λ (f : ℕ). Going arcs (may W nodes) n U.0 (halves_in Y n e) (best ∷ k.picked) f) e_long gone;
        count = omega (arith, k.count);
        flags = λ v l. flags v l (ℕ_discrete v best);
        test = w.same_may ∙ k.test;
      }
