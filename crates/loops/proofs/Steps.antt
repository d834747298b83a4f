-- The steps of the walk over the marks of what was visited, and its start: as the definition's steps over the set of what was not.
-- Assumes nothing.
use mathlib.Core.Path.{◌≡◌, refl, sym, ap, ◌∙◌, subst}
use mathlib.Core.Bool.{Bool, true, false, ◌&&◌, not}
use mathlib.Core.List.{List}
use mathlib.Core.Logic.{◌⊎◌, inl, inr, ◌≢◌}
use Prim.Native.Nat.{ℕ, zero, suc, ◌+◌, ◌-◌, ◌*◌, ◌≤◌, ◌<◌}
use native.Mathlib.Decide.{ℕ_discrete}
use native.Mathlib.Omega.{arith}
use lib.Dec.{T, eqb, ltb, ltb→lt, lt→ltb}
use lib.ListN.{length, get_or, set, replicate, length-set, length-replicate, get_or-replicate}
use lib.Seq.{get_or-set_same, get_or-set_other}
use borrow.Author.Tests.{eq-eqb, ne_eqb}
use Rattle.choice.specs.Arcs.{Arc, Leads, Set, has, without, size, passing}
use Rattle.choice.specs.Loop.{lowest, onward, Walked, closing, visiting, node_step, edge_step, walk_from, Lowest}
use Rattle.choice.proofs.Degrees.{is_true, how_many_length}
use Rattle.choice.proofs.Sets.{and_left, and_right, both, set_ext, gone, without_subset, stays, length_passing, has_passing, size_without}
use Rattle.choice.proofs.Shown.{first_lowest}
use Rattle.choice.proofs.Walks.{lowest_only, same_step}
use Rattle.tables.specs.Tables.{most_vertices}
use Rattle.removal.specs.Room.{Source}
use Rattle.loops.specs.Walk.{live_in, next_in, FirstLive, unseen, At, AtNode, AtEdge, rest, Closes, Starting}
use Rattle.loops.proofs.Next.{core_low, next_lowest, next_onward}

-- ---- marks

-- v is marked
pub unseen_next : (C : Set) (F : List ℕ) (v : ℕ) → v < length F → unseen C (set F v 1) ≡ without v (unseen C F)
unseen_next C F v l = set_ext (unseen C (set F v 1)) (without v (unseen C F)) long there back
  where
    p : ℕ → Bool
    p u = eqb (get_or F u 0) 0

    q : ℕ → Bool
    q u = eqb (get_or (set F v 1) u 0) 0

    long : length (passing q C) ≡ length (without v (passing p C))
    long = length_passing q C ∙ sym (length-set (passing p C) v false ∙ length_passing p C)

    other : (u : ℕ) → u ≢ v → q u ≡ p u
    other u n = ap (λ (k : ℕ). eqb k 0) (get_or-set_other F v u 1 0 n)

    there : (u : ℕ) → T (has (passing q C) u) → T (has (without v (passing p C)) u)
    there u t = go (ℕ_discrete u v)
      where
        s : T (has C u && q u)
        s = subst T (has_passing q C u) t

        go : Dec (u ≡ v) → T (has (without v (passing p C)) u)
        go (yes e) =
            let marked : q u ≡ false = ap q e ∙ ap (λ (k : ℕ). eqb k 0) (get_or-set_same F v 1 0 l) in
            absurd (subst T marked (and_right (has C u) (q u) s))
        go (no n) =
            stays v (passing p C) u n (subst T (sym (has_passing p C u)) (both (has C u) (p u) (and_left (has C u) (q u) s) (subst T (other u n) (and_right (has C u) (q u) s))))

    back : (u : ℕ) → T (has (without v (passing p C)) u) → T (has (passing q C) u)
    back u t =
        let n : u ≢ v = λ e. gone v (passing p C) (subst (λ (x : ℕ). T (has (without v (passing p C)) x)) e t) in
        let s : T (has C u && p u) = subst T (has_passing p C u) (without_subset v (passing p C) u t) in
        subst T (sym (has_passing q C u)) (both (has C u) (q u) (and_left (has C u) (p u) s) (subst T (sym (other u n)) (and_right (has C u) (p u) s)))

-- nothing is marked
pub unseen_none : (C : Set) (k : ℕ) → unseen C (replicate k 0) ≡ C
unseen_none C k = set_ext (unseen C (replicate k 0)) C (length_passing p C) there back
  where
    p : ℕ → Bool
    p u = eqb (get_or {A = ℕ} (replicate k 0) u 0) 0

    none : (j i : ℕ) → get_or {A = ℕ} (replicate j 0) i 0 ≡ 0
    none zero i = refl
    none (suc j) zero = refl
    none (suc j) (suc i) = none j i

    there : (u : ℕ) → T (has (passing p C) u) → T (has C u)
    there u t = and_left (has C u) (p u) (subst T (has_passing p C u) t)

    back : (u : ℕ) → T (has C u) → T (has (passing p C) u)
    back u t = subst T (sym (has_passing p C u)) (both (has C u) (p u) t (subst T (sym (eq-eqb _ 0 (none k u))) tt))

-- ---- one step of the definition

module _ (arcs : List Arc) (C R : Set) (v : ℕ) where
  node_closes : (k : ℕ) → has R (onward arcs C v) ≡ false → node_step k arcs C R v ≡ closing v (onward arcs C v)
  unfolding node_step
  node_closes zero e = refl
  node_closes (suc k) e = rw e

  node_goes : (k : ℕ) → has R (onward arcs C v) ≡ true → node_step (suc k) arcs C R v ≡ visiting v (edge_step k arcs C (without (onward arcs C v) R) (onward arcs C v))
  unfolding node_step
  node_goes k e = rw e

  edge_closes : (k : ℕ) → has R (onward arcs C v) ≡ false → edge_step k arcs C R v ≡ closing v (onward arcs C v)
  edge_closes k e = sym (same_step arcs C k R v) ∙ node_closes k e

  edge_goes : (k : ℕ) → has R (onward arcs C v) ≡ true → edge_step (suc k) arcs C R v ≡ visiting v (node_step k arcs C (without (onward arcs C v) R) (onward arcs C v))
  unfolding edge_step
  edge_goes k e = rw e

closes_by : (k v e : ℕ) (w : Walked) → w ≡ closing v e → Closes k w k e
closes_by k v e w q = record { steps = ap (λ (x : Walked). k + length x.visits) (sym q); again = ap (λ (x : Walked). x.again) (sym q) }

visits_by : (k v r a : ℕ) (w more : Walked) → w ≡ visiting v more → Closes (k + 1) more r a → Closes k w r a
visits_by k v r a w more q c = record {
  steps = omega (arith, c.steps, ap (λ (x : Walked). length x.visits) q);
  again = c.again ∙ ap (λ (x : Walked). x.again) (sym q);
}

-- ---- at a vertex of the core, with the vertex that the walk goes to

module _ {s : Source} {W F : List ℕ} {v k left : ℕ} (a : At s W F v k left) where
  pub at_low : v < most_vertices
  at_low = omega (arith, core_low s W a.nodes a.n a.arcs a.core a.told v a.inside, a.told.few)

  module _ (e : ℕ) (is : e ≡ next_in s W a.nodes v) where
    pub e_lowest : Lowest a.core (Leads a.arcs v) e
    e_lowest = subst (Lowest a.core (Leads a.arcs v)) (sym is) (next_lowest s W a.nodes a.n a.arcs a.core a.told v a.inside)

    e_onward : e ≡ onward a.arcs a.core v
    e_onward = is ∙ next_onward s W a.nodes a.n a.arcs a.core a.told v a.inside

    pub next_low : e < most_vertices
    next_low = omega (arith, core_low s W a.nodes a.n a.arcs a.core a.told e e_lowest.inside, a.told.few)

    pub marked : unseen a.core (set F v 1) ≡ rest a
    marked = unseen_next a.core F v (omega (arith, at_low, a.marks))

    -- whether it is unvisited
    rest_has : has (rest a) e ≡ eqb (get_or (set F v 1) e 0) 0
    rest_has =
        ap (λ (R : Set). has R e) (sym marked) ∙ has_passing (λ u. eqb (get_or (set F v 1) u 0) 0) a.core e
        ∙ ap (λ (t : Bool). t && eqb (get_or (set F v 1) e 0) 0) (is_true (has a.core e) e_lowest.inside)

    met : get_or (set F v 1) e 0 ≢ 0 → has (rest a) (onward a.arcs a.core v) ≡ false
    met n = ap (has (rest a)) (sym e_onward) ∙ rest_has ∙ ne_eqb (get_or (set F v 1) e 0) 0 n

    module _ (fresh : get_or (set F v 1) e 0 ≡ 0) where
      unmet : has (rest a) e ≡ true
      unmet = rest_has ∙ eq-eqb (get_or (set F v 1) e 0) 0 fresh

      pub one_less : suc (size (without e (rest a))) ≡ left
      one_less = size_without e (rest a) (subst T (sym unmet) tt) ∙ a.left_is

      pub some_left_lem : 0 < left
      some_left_lem = omega (arith, one_less)

      -- it is visited next
      abbrev pub next_at : At s W (set F v 1) e (k + 1) (left - 1)
      next_at = record {
        nodes = a.nodes;
        n = a.n;
        arcs = a.arcs;
        core = a.core;
        told = a.told;
        inside = e_lowest.inside;
        marks = length-set F v 1 ∙ a.marks;
        fresh = fresh;
        left_is = ap (λ (R : Set). size (without e R)) marked ∙ omega (arith, one_less);
        few = omega (arith, a.few, one_less);
      }

      rest_next : rest next_at ≡ without e (rest a)
      rest_next = ap (without e) marked

pub node_met : {s : Source} {W F : List ℕ} {v k left : ℕ} (a : AtNode s W F v k left) (e : ℕ) → e ≡ next_in s W a.at.nodes v → get_or (set F v 1) e 0 ≢ 0
    → Closes k (node_step left a.at.arcs a.at.core (rest a.at) v) k e
node_met {v = v} {k = k} {left = left} a e is n =
    closes_by k v e _ (node_closes a.at.arcs a.at.core (rest a.at) v left (met a.at e is n) ∙ ap (closing v) (sym (e_onward a.at e is)))

pub edge_met : {s : Source} {W F : List ℕ} {v k left : ℕ} (a : AtEdge s W F v k left) (e : ℕ) → e ≡ next_in s W a.at.nodes v → get_or (set F v 1) e 0 ≢ 0
    → Closes k (edge_step left a.at.arcs a.at.core (rest a.at) v) k e
edge_met {v = v} {k = k} {left = left} a e is n =
    closes_by k v e _ (edge_closes a.at.arcs a.at.core (rest a.at) v left (met a.at e is n) ∙ ap (closing v) (sym (e_onward a.at e is)))

-- from a node to an edge
module _ {s : Source} {W F : List ℕ} {v k left : ℕ} (a : AtNode s W F v k left) (e : ℕ) (is : e ≡ next_in s W a.at.nodes v) (fresh : get_or (set F v 1) e 0 ≡ 0) where
  abbrev pub edge_next : AtEdge s W (set F v 1) e (k + 1) (left - 1)
  edge_next = record { at = next_at a.at e is fresh; is_edge = a.at.told.onto_edge v e a.is_node (e_lowest a.at e is).passes }

  pub node_gone : (r w : ℕ) → Closes (k + 1) (edge_step (left - 1) a.at.arcs a.at.core (rest (next_at a.at e is fresh)) e) r w
      → Closes k (node_step left a.at.arcs a.at.core (rest a.at) v) r w
  node_gone r w c = visits_by k v r w _ _ (ap (λ (l : ℕ). node_step l arcs C R v) more ∙ node_goes arcs C R v (left - 1) unvisited ∙ onto) c
    where
      arcs : List Arc
      arcs = a.at.arcs

      C : Set
      C = a.at.core

      R : Set
      R = rest a.at

      more : left ≡ suc (left - 1)
      more = omega (arith, some_left_lem a.at e is fresh)

      unvisited : has R (onward arcs C v) ≡ true
      unvisited = ap (has R) (sym (e_onward a.at e is)) ∙ unmet a.at e is fresh

      onto : visiting v (edge_step (left - 1) arcs C (without (onward arcs C v) R) (onward arcs C v)) ≡ visiting v (edge_step (left - 1) arcs C (rest (next_at a.at e is fresh)) e)
      onto =
          ap (λ (x : ℕ). visiting v (edge_step (left - 1) arcs C (without x R) x)) (sym (e_onward a.at e is))
          ∙ ap (λ (S : Set). visiting v (edge_step (left - 1) arcs C S e)) (sym (rest_next a.at e is fresh))

-- from an edge to a node
module _ {s : Source} {W F : List ℕ} {v k left : ℕ} (a : AtEdge s W F v k left) (e : ℕ) (is : e ≡ next_in s W a.at.nodes v) (fresh : get_or (set F v 1) e 0 ≡ 0) where
  abbrev pub node_next : AtNode s W (set F v 1) e (k + 1) (left - 1)
  node_next = record { at = next_at a.at e is fresh; is_node = a.at.told.onto_node v e a.is_edge (e_lowest a.at e is).passes }

  pub edge_gone : (r w : ℕ) → Closes (k + 1) (node_step (left - 1) a.at.arcs a.at.core (rest (next_at a.at e is fresh)) e) r w
      → Closes k (edge_step left a.at.arcs a.at.core (rest a.at) v) r w
  edge_gone r w c = visits_by k v r w _ _ (ap (λ (l : ℕ). edge_step l arcs C R v) more ∙ edge_goes arcs C R v (left - 1) unvisited ∙ onto) c
    where
      arcs : List Arc
      arcs = a.at.arcs

      C : Set
      C = a.at.core

      R : Set
      R = rest a.at

      more : left ≡ suc (left - 1)
      more = omega (arith, some_left_lem a.at e is fresh)

      unvisited : has R (onward arcs C v) ≡ true
      unvisited = ap (has R) (sym (e_onward a.at e is)) ∙ unmet a.at e is fresh

      onto : visiting v (node_step (left - 1) arcs C (without (onward arcs C v) R) (onward arcs C v)) ≡ visiting v (node_step (left - 1) arcs C (rest (next_at a.at e is fresh)) e)
      onto =
          ap (λ (x : ℕ). visiting v (node_step (left - 1) arcs C (without x R) x)) (sym (e_onward a.at e is))
          ∙ ap (λ (S : Set). visiting v (node_step (left - 1) arcs C S e)) (sym (rest_next a.at e is fresh))

-- ---- the start

pub left_few : {s : Source} {W : List ℕ} {nodes left : ℕ} (a : Starting s W nodes left) → left ≤ most_vertices
unfolding size
left_few a = omega (arith, how_many_length (λ b. b) a.core, a.left_is, a.told.long, a.told.few)

module _ {s : Source} {W : List ℕ} {nodes left : ℕ} (a : Starting s W nodes left) (v : ℕ) (f : FirstLive W nodes v) where
  live_of : (u : ℕ) → T (has a.core u) → get_or W (2 * u) 0 ≢ 0
  live_of u t z =
      let l : T (live_in W u) = subst T (a.told.live u (core_low s W nodes a.n a.arcs a.core a.told u t)) t in
      subst T (ap not (eq-eqb (get_or W (2 * u) 0) 0 z)) l

  -- the lowest live node is the lowest node of the core
  pub start_lowest : Lowest a.core (λ u. T (ltb u nodes)) v
  start_lowest = go f.live
    where
      least : (u : ℕ) → T (has a.core u) → T (ltb u nodes) → v ≤ u
      least u t m = below (ℕ_discrete (suc u - v) 0)
        where
          below : Dec (suc u - v ≡ 0) → v ≤ u
          below (yes z) = absurd (live_of u t (f.before u (omega arith)))
          below (no n) = omega arith

      go : (v ≡ nodes) ⊎ ((v < nodes) × (get_or W (2 * v) 0 ≡ 0 → ⊥)) → Lowest a.core (λ u. T (ltb u nodes)) v
      go (inl e) = let u = a.some_node in absurd (omega (arith, least u.0 u.1 (lt→ltb u.0 nodes u.2), u.2, e))
      go (inr h) = record {
        inside = subst T (sym (a.told.live v (omega (arith, a.told.less)))) (subst T (sym (ap not (ne_eqb (get_or W (2 * v) 0) 0 h.1))) tt);
        passes = lt→ltb v nodes h.0;
        least = least;
      }

  start_is : v ≡ lowest (passing (λ u. ltb u nodes) a.core)
  start_is =
      let u = a.some_node in
      let k : size a.core ≡ suc (left - 1) = a.left_is ∙ omega (arith, a.some_left) in
      lowest_only a.core (λ x. T (ltb x nodes)) v _ start_lowest
      (first_lowest a.arcs (λ x. ltb x nodes) a.core a.told.stable u.0 u.1 (lt→ltb u.0 nodes u.2) (left - 1) k)

  pub none_seen : unseen a.core (replicate most_vertices 0) ≡ a.core
  none_seen = unseen_none a.core most_vertices

  abbrev pub start_at : AtNode s W (replicate most_vertices 0) v 1 (left - 1)
  start_at = record {
    at = record {
      nodes = nodes;
      n = a.n;
      arcs = a.arcs;
      core = a.core;
      told = a.told;
      inside = start_lowest.inside;
      marks = length-replicate {A = ℕ} most_vertices 0;
      fresh = get_or-replicate {A = ℕ} most_vertices v 0 0 (omega (arith, core_low s W nodes a.n a.arcs a.core a.told v start_lowest.inside, a.told.few));
      left_is = ap (λ (R : Set). size (without v R)) none_seen ∙ omega (arith, size_without v a.core start_lowest.inside, a.left_is);
      few = omega (arith, left_few a, a.some_left);
    };
    is_node = ltb→lt v nodes start_lowest.passes;
  }

  pub start_walk : (r w : ℕ) → Closes 1 (node_step (left - 1) a.arcs a.core (rest start_at.at) v) r w
      → Closes 1 (walk_from (left - 1) a.arcs (λ u. ltb u nodes) a.core) r w
  start_walk r w =
      subst (λ (x : Walked). Closes 1 x r w)
      (ap (λ (S : Set). node_step (left - 1) a.arcs a.core (without v S) v) none_seen
      ∙ ap (λ (x : ℕ). node_step (left - 1) a.arcs a.core (without x a.core) x) start_is)
