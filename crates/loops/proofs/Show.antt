-- From what the first free removal leaves to the loop that is shown.
-- Assumes nothing.
use mathlib.Core.Path.{◌≡◌, refl, sym, ap, ◌∙◌, subst}
use mathlib.Core.Bool.{Bool, not}
use mathlib.Core.List.{List, [], ◌∷◌}
use mathlib.Core.Logic.{◌⊎◌, inl, inr}
use Prim.Native.Nat.{ℕ, zero, suc, ◌+◌, ◌-◌, ◌*◌, ◌≤◌, ◌<◌}
use native.Mathlib.Omega.{arith}
use lib.Dec.{T, ltb, ltb→lt, lt→ltb}
use lib.ListN.{length, get_or}
use lib.Seq.{get_or-take}
use borrow.Author.Tests.{eq-eqb, ne_eqb}
use Rattle.graph.specs.Graph.{Graph}
use Rattle.choice.specs.Arcs.{Arc, In, Leads, IsNode, IsEdge, Set, has, vertices, size, passing}
use Rattle.choice.specs.Choice.{core}
use Rattle.choice.specs.Drawing.{arcs}
use Rattle.choice.specs.Loop.{lowest, none_shown, closed_by, walk_from, loop_in, first_core, loop, since, Walks, closes, goes}
use Rattle.choice.specs.Simple.{Distinct}
use Rattle.choice.proofs.Fits.{proper_fits, proper_offers}
use Rattle.choice.proofs.Sets.{same_test, size_some, size_vertices}
use Rattle.choice.proofs.Shown.{loop_none, loop_some, first_lowest, walk_by_rule, again_visited, visits_once, visits_inside, visits_few}
use Rattle.choice.proofs.Sofar.{frees_size}
use Rattle.choice.proofs.Walks.{lowest_only, since_in, since_length, since_once}
use Rattle.halves.specs.Halves.{vertex, Between}
use Rattle.halves.proofs.Leaving.{all_live}
use Rattle.tables.specs.Tables.{most_vertices, waiting_at, picked_at}
use Rattle.removal.specs.Room.{Source, part}
use Rattle.cycle.specs.Begin.{First}
use Rattle.cycle.specs.Next.{degrees_in}
use Rattle.cycle.proofs.Begin.{Drawn, first_still, first_stable, first_core_lem}
use Rattle.loops.specs.Walk.{live_in, next_in, Told, Closes, Starting, Moves, Looping, LaidIn, loop_as}
use Rattle.loops.proofs.Next.{core_low, next_lowest}
use Rattle.loops.proofs.Laying.{since_moves}
use Rattle.loops.proofs.Steps.{left_few}

-- fewer have gone than there are
pub some_stay : (end n : ℕ) → end ≤ n → (end ≡ n → ⊥) → 0 < n - end
some_stay end n l h = go (n - end) refl
  where
    go : (k : ℕ) → n - end ≡ k → 0 < n - end
    go zero e = absurd (h (omega arith))
    go (suc k) e = omega arith

-- ---- what the first free removal leaves is a core, and the walk may start

module _ {s : Source} {g : Graph} {nodes n : ℕ} (d : Drawn g nodes n) {Y : List ℕ} (long : picked_at ≤ length Y) {end : ℕ} (f : First s g Y nodes n end) where
  still : Between (arcs g) n f.left (degrees_in Y n) [] []
  still = first_still s g nodes n d Y long end f

  pub told : Told s Y nodes n (arcs g) f.left
  told = record {
    less = omega (arith, d.nodes_is, d.n_is);
    few = d.few;
    lists = f.lists;
    listed = f.listed;
    long = still.set_long;
    live = λ v l. same_test (has f.left v) (live_in Y v) (there v l) (back v l);
    stable = first_stable s g nodes n d Y long end f;
    onto_edge = λ u v l j. edge u v l (proper_fits g d.proper u v j);
    onto_node = λ u v l j. node u v l (proper_fits g d.proper u v j);
  }
    where
      degree : (v : ℕ) → v < n → get_or (degrees_in Y n) (2 * v) 0 ≡ get_or Y (2 * v) 0
      degree v l = get_or-take (2 * n) Y (2 * v) 0 (omega arith)

      there : (v : ℕ) → v < n → T (has f.left v) → T (live_in Y v)
      there v l t =
          let p = all_live (arcs g) n f.left (degrees_in Y n) still v t in
          subst T (sym (ap not (ne_eqb (get_or Y (2 * v) 0) 0 (λ z. omega (arith, p, degree v l))))) tt

      back : (v : ℕ) → v < n → T (live_in Y v) → T (has f.left v)
      back v l t =
          let own : vertex (2 * v) ≡ v = omega arith in
          subst (λ (x : ℕ). T (has f.left x)) own (still.inside (2 * v) (some (get_or (degrees_in Y n) (2 * v) 0) refl))
        where
          some : (k : ℕ) → get_or (degrees_in Y n) (2 * v) 0 ≡ k → 0 < get_or (degrees_in Y n) (2 * v) 0
          some zero e = absurd (subst T (ap not (eq-eqb (get_or Y (2 * v) 0) 0 (sym (degree v l) ∙ e))) t)
          some (suc k) e = omega arith

      edge : (u v : ℕ) → u < nodes → (IsNode (length g.labels) u × IsEdge (length g.labels) (length g.edges) v) ⊎ (IsEdge (length g.labels) (length g.edges) u × IsNode (length g.labels) v) → nodes ≤ v
      edge u v l (inl h) = omega (arith, d.nodes_is, h.1.0)
      edge u v l (inr h) = absurd (omega (arith, d.nodes_is, h.0.0))

      node : (u v : ℕ) → nodes ≤ u → (IsNode (length g.labels) u × IsEdge (length g.labels) (length g.edges) v) ⊎ (IsEdge (length g.labels) (length g.edges) u × IsNode (length g.labels) v) → v < nodes
      node u v l (inl h) = absurd (omega (arith, d.nodes_is, h.0))
      node u v l (inr h) = omega (arith, d.nodes_is, h.1)

  left_number : end + size f.left ≡ n
  left_number = frees_size (arcs g) f.frees ∙ size_vertices n

  core_is : first_core g ≡ f.left
  core_is = ap (λ (k : ℕ). core (arcs g) (vertices k)) (sym d.n_is) ∙ sym (first_core_lem s g nodes n d Y long end f)

  loop_in_lem : loop g ≡ loop_in (arcs g) (λ v. ltb v nodes) f.left
  unfolding loop
  loop_in_lem = λ i. loop_in (arcs g) (λ v. ltb v (sym d.nodes_is i)) (core_is i)

  -- all have gone
  pub none_left : end ≡ n → loop g ≡ none_shown
  none_left e = loop_in_lem ∙ loop_none (arcs g) (λ v. ltb v nodes) f.left (omega (arith, left_number))

  module _ (left : ℕ) (number : end + left ≡ n) (some : 0 < left) where
    pub left_size : size f.left ≡ left
    left_size = omega (arith, left_number)

    pub node_left : (u : ℕ) × T (has f.left u) × (u < nodes)
    node_left =
        let x = size_some f.left (omega (arith, left_size)) in
        let u = proper_offers g d.proper f.left told.stable x.0 x.1 in
        (u.0, u.1, omega (arith, ltb→lt u.0 (length g.labels) u.2, d.nodes_is))

    abbrev pub starting : Starting s Y nodes left
    starting = record { n = n; arcs = arcs g; core = f.left; told = told; left_is = left_size; some_node = node_left; some_left = some }

    -- and the loop that is shown is the one that this walk closes
    pub loop_walked : loop g ≡ closed_by (walk_from (left - 1) (arcs g) (λ v. ltb v nodes) f.left)
    loop_walked = loop_in_lem ∙ loop_some (arcs g) (λ v. ltb v nodes) f.left (left - 1) (omega (arith, left_size))

-- ---- the loop that the walk closes, over the room

module _ {s : Source} {W : List ℕ} {nodes n : ℕ} {arcs : List Arc} {C : Set} (told : Told s W nodes n arcs C) where
  -- by the rule the walk goes where the room says
  walks_moves : {seen xs : List ℕ} {v w : ℕ} → Walks arcs C seen v xs w → T (has C v) → (ys : List ℕ) × (xs ≡ v ∷ ys) × Moves (next_in s W nodes) v ys w
  walks_moves (closes {v = v} {w = w} l m) t = ([], refl, lowest_only C (Leads arcs v) _ w (next_lowest s W nodes n arcs C told v t) l)
  walks_moves (goes {v = v} {u = u} l k r) t =
      let h = walks_moves r l.inside in
      (u ∷ h.0, ap (◌∷◌ v) h.1, (lowest_only C (Leads arcs v) _ u (next_lowest s W nodes n arcs C told v t) l, h.2))

module _ {s : Source} {W : List ℕ} {nodes left : ℕ} (a : Starting s W nodes left) where
  abbrev node : ℕ → Bool
  node v = ltb v nodes

  abbrev visits : List ℕ
  visits = (walk_from (left - 1) a.arcs (λ v. ltb v nodes) a.core).visits

  abbrev met : ℕ
  met = (walk_from (left - 1) a.arcs (λ v. ltb v nodes) a.core).again

  all : size a.core ≡ suc (left - 1)
  all = a.left_is ∙ omega (arith, a.some_left)

  passes : T (ltb a.some_node.0 nodes)
  passes = lt→ltb a.some_node.0 nodes a.some_node.2

  in_visits : In met visits
  in_visits = again_visited a.arcs node a.core a.told.stable a.some_node.0 a.some_node.1 passes (left - 1) all

  inside : (v : ℕ) → In v visits → T (has a.core v)
  inside = visits_inside a.arcs node a.core a.told.stable a.some_node.0 a.some_node.1 passes (left - 1) all

  pub ring : (zs : List ℕ) × (since met visits ≡ met ∷ zs) × Moves (next_in s W nodes) met zs met
  ring =
      let first = first_lowest a.arcs node a.core a.told.stable a.some_node.0 a.some_node.1 passes (left - 1) all in
      let rule = walk_by_rule a.arcs node a.core a.told.stable a.some_node.0 a.some_node.1 passes (left - 1) all in
      let m = walks_moves a.told rule first.inside in
      let r = since_moves (next_in s W nodes) (lowest (passing node a.core)) m.0 met m.2 (subst (In met) m.1 in_visits) in
      (r.0, ap (since met) m.1 ∙ r.1, r.2)

  pub ring_once : Distinct (met ∷ ring.0)
  ring_once = subst Distinct ring.1 (since_once met visits (visits_once a.arcs node a.core a.told.stable a.some_node.0 a.some_node.1 passes (left - 1) all))

  pub ring_low : (x : ℕ) → In x (met ∷ ring.0) → x < a.n
  ring_low x m = core_low s W nodes a.n a.arcs a.core a.told x (inside x (since_in met visits x (subst (In x) (sym ring.1) m)))

  pub ring_short : length (met ∷ ring.0) ≤ most_vertices
  ring_short =
      let few = visits_few a.arcs node a.core a.told.stable a.some_node.0 a.some_node.1 passes (left - 1) all in
      omega (arith, ap length ring.1, since_length met visits, few, a.left_is, left_few a)

module _ {s : Source} {W : List ℕ} {nodes left : ℕ} (a : Starting s W nodes left) {w : ℕ} (is : w ≡ (walk_from (left - 1) a.arcs (λ v. ltb v nodes) a.core).again) where
  abbrev pub looping : Looping s W nodes w
  looping = record {
    n = a.n;
    others = (ring a).0;
    lists = a.told.lists;
    few = a.told.few;
    less = a.told.less;
    moves = subst (λ (x : ℕ). Moves (next_in s W nodes) x (ring a).0 x) (sym is) (ring a).2;
    once = subst (λ (x : ℕ). Distinct (x ∷ (ring a).0)) (sym is) (ring_once a);
    low = subst (λ (v : ℕ). (x : ℕ) → In x (v ∷ (ring a).0) → x < a.n) (sym is) (ring_low a);
    short = ring_short a;
  }

  -- laid, it is the loop that the walk closes
  pub laid_shown : {X : List ℕ} {steps count : ℕ} → LaidIn X (w ∷ (ring a).0) count → Closes 1 (walk_from (left - 1) a.arcs (λ v. ltb v nodes) a.core) steps w
      → loop_as (part X waiting_at count) steps ≡ closed_by (walk_from (left - 1) a.arcs (λ v. ltb v nodes) a.core)
  laid_shown {X} {steps} {count} l c =
      let list : part X waiting_at count ≡ since (walk_from (left - 1) a.arcs (λ v. ltb v nodes) a.core).again (walk_from (left - 1) a.arcs (λ v. ltb v nodes) a.core).visits =
      l.put ∙ ap (λ (x : ℕ). x ∷ (ring a).0) is ∙ sym (ring a).1 in
      let number : steps ≡ length (walk_from (left - 1) a.arcs (λ v. ltb v nodes) a.core).visits = omega (arith, c.steps) in
      λ i. loop_as (list i) (number i)
