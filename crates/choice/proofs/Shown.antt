-- The loop that is shown: of a stable set, and of a graph whose ids are below the node count. It is a directed cycle that passes no vertex twice, found by the
-- walk of that rule in as many steps as the walk is long.
-- Assumes nothing.
use mathlib.Core.Path.{◌≡◌, refl, sym, ap, ◌∙◌, subst}
use mathlib.Core.Bool.{Bool, true}
use mathlib.Core.List.Memᴰ
use mathlib.Core.List.{List, [], ◌∷◌}
use mathlib.Core.Logic.{◌⊎◌, inl, inr, ◌↔◌}
use Prim.Native.Nat.{ℕ, zero, suc, ◌≤◌, ◌<◌}
use native.Mathlib.Nat.{le_refl, zero-lt-suc}
use native.Mathlib.Decide.{ℕ_discrete}
use native.Mathlib.Omega.{arith}
use lib.Dec.{T}
use lib.ListN.{length, length-replicate}
use Rattle.graph.specs.Graph.{Graph, Proper}
use Rattle.choice.specs.Arcs.{Arc, In, Set, has, vertices, without, size, passing, Stable, Walk, Cycle, NoCycle}
use Rattle.choice.specs.Drawing.{arcs, vertex_count, selectable}
use Rattle.choice.specs.Loop.{lowest, Loop, none_shown, closed_by, walk_from, loop_in, first_core, loop, since, Lowest, Walks}
use Rattle.choice.specs.Promises.{Shown, NoneOrShown}
use Rattle.choice.specs.Simple.{Distinct}
use Rattle.choice.proofs.Sets.{has_lt, gone, stays, size_empty, size_some, size_without, size_vertices}
use Rattle.choice.proofs.Core.{length_core, core_stable, peels_to_core, peels_taken}
use Rattle.choice.proofs.Fits.{proper_bounded, proper_offers}
use Rattle.choice.proofs.Demand3.{core_empty_iff_no_cycle}
use Rattle.choice.proofs.Walks.{lowest_passing, lowest_only, walks_only, since_length, since_in, since_once, since_cycle, walks_walk, walks_again, walks_once, walks_inside, step_length, step_walks, Unseen}

module _ (arcs : List Arc) (node : ℕ → Bool) (C : Set) where
  pub loop_none : size C ≡ zero → loop_in arcs node C ≡ none_shown
  unfolding loop_in
  loop_none e = rw (e, loop_in)

  pub loop_some : (k : ℕ) → size C ≡ suc k → loop_in arcs node C ≡ closed_by (walk_from k arcs node C)
  unfolding loop_in
  loop_some k e = rw (e, loop_in)

-- a stable set C that is not empty and has a node
module _ (arcs : List Arc) (node : ℕ → Bool) (C : Set) (s : Stable arcs C) (u : ℕ) (t : T (has C u)) (m : T (node u)) (k : ℕ) (e : size C ≡ suc k) where
  abbrev first : ℕ
  first = lowest (passing node C)

  abbrev xs : List ℕ
  xs = (walk_from k arcs node C).visits

  abbrev w : ℕ
  w = (walk_from k arcs node C).again

  pub first_lowest : Lowest C (λ v. T (node v)) (lowest (passing node C))
  first_lowest = lowest_passing node C u t m

  -- the walk that is computed goes by the rule
  pub walk_by_rule : let x : ℕ = lowest (passing node C) in Walks arcs C (x ∷ []) x (walk_from k arcs node C).visits (walk_from k arcs node C).again
  walk_by_rule = step_walks arcs C s k (without first C) (first ∷ []) first first_lowest.inside (omega (arith, size_without first C first_lowest.inside)) unseen
    where
      unseen : Unseen arcs C s (without first C) (first ∷ [])
      unseen = record { either = λ v i. go v i (ℕ_discrete v first); apart = λ v i n. off v i (Memᴰ.cases_cons n) }
        where
          go : (v : ℕ) → T (has C v) → Dec (v ≡ first) → In v (first ∷ []) ⊎ T (has (without first C) v)
          go v i (yes q) = inl (Memᴰ.head q)
          go v i (no n) = inr (stays first C v n i)

          off : (v : ℕ) → T (has (without first C) v) → (v ≡ first) ⊎ In v [] → ⊥
          off v i (inl q) = gone first C (subst (λ (x : ℕ). T (has (without first C) x)) q i)
          off v i (inr n) = Memᴰ.not-nil n

  walk_walk : (ys : List ℕ) × (xs ≡ first ∷ ys) × Walk arcs first ys w
  walk_walk = walks_walk arcs C walk_by_rule

  -- the vertex met again is one of those visited
  pub again_visited : In (walk_from k arcs node C).again (walk_from k arcs node C).visits
  again_visited = back (walks_again arcs C walk_by_rule)
    where
      back : In w (first ∷ []) ⊎ In w xs → In w xs
      back (inl i) = subst (In w) (sym walk_walk.1) (go (Memᴰ.cases_cons i))
        where
          go : (w ≡ first) ⊎ In w [] → In w (first ∷ walk_walk.0)
          go (inl q) = Memᴰ.head q
          go (inr n) = absurd (Memᴰ.not-nil n)
      back (inr i) = i

  pub visits_once : Distinct (walk_from k arcs node C).visits
  visits_once = (walks_once arcs C walk_by_rule (Memᴰ.head refl)).0

  pub visits_inside : (v : ℕ) → In v (walk_from k arcs node C).visits → T (has C v)
  visits_inside = walks_inside arcs C walk_by_rule first_lowest.inside

  pub visits_few : length (walk_from k arcs node C).visits ≤ size C
  visits_few = omega (arith, step_length arcs C k (without first C) first)

  pub loop_shown : Shown arcs node C (loop_in arcs node C)
  loop_shown = subst (Shown arcs node C) (sym (loop_some arcs node C k e)) (record {
    start = first;
    visits = xs;
    again = w;
    from_lowest = first_lowest;
    by_rule = walk_by_rule;
    from_first = refl;
    walk_long = refl;
    simple = record { cycle = closed; once = since_once w xs visits_once };
    inside = λ v i. visits_inside v (since_in w xs v i);
    at_least = since_length w xs;
    at_most = visits_few;
  })
    where
      closed : Cycle arcs (since w xs)
      closed =
          let p = walk_walk in
          subst (λ (zs : List ℕ). Cycle arcs (since w zs)) (sym p.1) (since_cycle arcs first p.0 w p.2 (subst (In w) p.1 again_visited))

-- ---- of a graph

module _ (g : Graph) (proper : Proper g) where
  abbrev Either : Type 0
  Either = NoneOrShown (arcs g) (selectable g) (first_core g) (loop g)

  -- no cycle, and nothing is shown; or a loop is shown
  pub none_or_shown : Either
  unfolding loop
  none_or_shown = go (size (first_core g)) refl
    where
      C : Set
      C = first_core g

      go : (k : ℕ) → size C ≡ k → NoneOrShown (arcs g) (selectable g) C (loop_in (arcs g) (selectable g) C)
      go zero e = inl ((core_empty_iff_no_cycle (arcs g) (vertex_count g) (proper_bounded g proper)).0 (size_empty C e), loop_none (arcs g) (selectable g) C e)
      go (suc k) e =
          let w = size_some C (subst (λ (x : ℕ). zero < x) (sym e) (zero-lt-suc k)) in
          let s = core_stable (arcs g) (vertices (vertex_count g)) in
          let u = proper_offers g proper C s w.0 w.1 in
          inr (loop_shown (arcs g) (selectable g) C s u.0 u.1 u.2 k e)

  -- the list is empty exactly if there is no cycle
  pub shown_empty_iff_no_cycle : ((loop g).list ≡ []) ↔ NoCycle (arcs g)
  shown_empty_iff_no_cycle = (λ e. there e none_or_shown, λ n. back n none_or_shown)
    where
      there : (loop g).list ≡ [] → Either → NoCycle (arcs g)
      there e (inl n) = n.0
      there e (inr s) = absurd (subst (Cycle (arcs g)) e s.simple.cycle)

      back : NoCycle (arcs g) → Either → (loop g).list ≡ []
      back n (inl m) = ap (λ (l : Loop). l.list) m.1
      back n (inr s) = absurd (n (loop g).list s.simple.cycle)

  -- "is at most nodes plus edges", and at least the list's length
  pub steps_bounds : (length (loop g).list ≤ (loop g).steps) × ((loop g).steps ≤ vertex_count g)
  steps_bounds = go none_or_shown
    where
      small : size (first_core g) ≤ vertex_count g
      small = omega (arith, peels_taken (arcs g) (peels_to_core (arcs g) (vertices (vertex_count g))), size_vertices (vertex_count g))

      go : Either → (length (loop g).list ≤ (loop g).steps) × ((loop g).steps ≤ vertex_count g)
      go (inl m) = rw m.1 (le_refl zero, omega arith)
      go (inr s) = (s.at_least, omega (arith, s.at_most, small))

  -- the rule allows one walk, and it gives the loop that is shown
  pub every_walk_gives_loop : (start : ℕ) (visits : List ℕ) (again : ℕ) → Lowest (first_core g) (λ v. T (selectable g v)) start → Walks (arcs g) (first_core g) (start ∷ []) start visits again
      → ((loop g).list ≡ since again visits) × ((loop g).steps ≡ length visits)
  every_walk_gives_loop start visits again l w = go none_or_shown
    where
      go : Either → ((loop g).list ≡ since again visits) × ((loop g).steps ≡ length visits)
      go (inl n) = absurd ((core_empty_iff_no_cycle (arcs g) (vertex_count g) (proper_bounded g proper)).1 n.0 start l.inside)
      go (inr s) =
          let e : start ≡ s.start = lowest_only (first_core g) (λ v. T (selectable g v)) start s.start l s.from_lowest in
          let h = walks_only (arcs g) (first_core g) s.by_rule (start ∷ []) (λ i. e i ∷ []) start e w in
          (s.from_first ∙ (λ i. since (h.1 i) (h.0 i)), s.walk_long ∙ ap length h.0)

  -- no vertex is listed twice
  pub shown_once : Distinct (loop g).list
  shown_once = go none_or_shown
    where
      go : Either → Distinct (loop g).list
      go (inl m) = rw m.1 tt
      go (inr s) = s.simple.once

  -- every entry is a vertex of the first core, so a node or an edge of the graph
  pub shown_in_core : (v : ℕ) → In v (loop g).list → T (has (first_core g) v)
  shown_in_core v m = go none_or_shown
    where
      go : Either → T (has (first_core g) v)
      go (inl n) = absurd (Memᴰ.not-nil (subst (λ (l : Loop). In v l.list) n.1 m))
      go (inr s) = s.inside v m

  pub shown_below_lem : (v : ℕ) → In v (loop g).list → v < vertex_count g
  shown_below_lem v m =
      let h = has_lt (first_core g) v (shown_in_core v m) in
      omega (arith, h, length_core (arcs g) (vertices (vertex_count g)), length-replicate (vertex_count g) true)
