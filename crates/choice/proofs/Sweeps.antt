-- What an engine that sweeps over the stored form has to know. It keeps one mark a vertex and two degrees a node, and no degrees of edges: an edge's arcs
-- in and out are its own entries that remain. A node that goes changes no node's degrees, and an edge that goes lowers those of its entries. And what it
-- promises: the same answer as the first engine.
-- Assumes nothing.
use mathlib.Core.Path.{◌≡◌, refl, sym, ap, ◌∙◌, subst}
use mathlib.Core.Bool.{Bool, true, false, ◌&&◌, and-true}
use mathlib.Core.List.Memᴰ
use mathlib.Core.List.{List, [], ◌∷◌, ◌++◌, map, append_assoc}
use mathlib.Core.Logic.{◌⊎◌, inl, inr}
use Prim.Native.Nat.{ℕ, suc, ◌+◌, ◌≤◌, ◌<◌}
use native.Mathlib.Nat.{lt_irrefl, add-zero, zero-add}
use native.Mathlib.Omega.{arith}
use lib.Dec.{T, eqb, eqb→eq, eqb_refl}
use lib.ListN.{length, get_or, get_or-replicate, take, drop}
use lib.Seq.{split_at, length-take-le}
use Rattle.le.specs.Le.{Below}
use Rattle.le.proofs.Numbers.{below_front, below_back}
use Rattle.graph.specs.Graph.{Edge, Graph, edge_sources, edge_targets, edge_entries, Proper}
use Rattle.graph.specs.Form.{no_edge}
use Rattle.graph.specs.Answer.{answered, Result}
use Rattle.graph.proofs.Answers.{worked}
use Rattle.graph.proofs.Laws.{joined_append}
use Rattle.graph.proofs.Verdicts.{in_room}
use Rattle.choice.specs.Arcs.{Arc, arc, In, IsNode, IsEdge, bump, how_many, Set, has, vertices, without, into, out}
use Rattle.choice.specs.Calls.{room_cycle_breaking_nodes, cycle_breaking_nodes_keeping_call, room_cycle_breaking_nodes_scanning, cycle_breaking_nodes_scanning_call}
use Rattle.choice.specs.Degrees.{between}
use Rattle.choice.specs.Drawing.{edge_arcs, arcs_from, arcs, vertex_count}
use Rattle.choice.specs.Promises.{Bounded}
use Rattle.choice.proofs.Sets.{and_left, and_right}
use Rattle.choice.proofs.Degrees.{is_true, is_false, how_many_same, into_without, out_without}
use Rattle.choice.proofs.Fits.{below_in, Span, edges_span, proper_fits, proper_bounded}

-- ---- the promise: both engines' contracts cite one definition, so with the room that each needs they answer the same, refusals and places included

pub engines_agree : (b kept : List ℕ) (room first second : ℕ) → room_cycle_breaking_nodes ≤ first → room_cycle_breaking_nodes_scanning ≤ second
    → cycle_breaking_nodes_scanning_call b kept room second ≡ cycle_breaking_nodes_keeping_call b kept room first
engines_agree b kept room first second l m = in_room room_cycle_breaking_nodes_scanning second _ m ∙ sym (in_room room_cycle_breaking_nodes first _ l)

-- where the second answers, so does the first, in the room that it needs
pub scanned_kept : (b kept : List ℕ) (room second : ℕ) (c : Result) → cycle_breaking_nodes_scanning_call b kept room second ≡ answered c
    → cycle_breaking_nodes_keeping_call b kept room room_cycle_breaking_nodes ≡ answered c
scanned_kept b kept room second c e =
    in_room room_cycle_breaking_nodes room_cycle_breaking_nodes _ (omega arith) ∙ worked room_cycle_breaking_nodes_scanning second _ e

-- ---- counts

pub how_many_append : {A : Type 0} (p : A → Bool) (xs ys : List A) → how_many p (xs ++ ys) ≡ how_many p xs + how_many p ys
unfolding how_many
how_many_append p [] ys = sym (zero-add (how_many p ys))
how_many_append p (x ∷ xs) ys = go (p x) (how_many_append p xs ys)
  where
    go : (b : Bool) → how_many p (xs ++ ys) ≡ how_many p xs + how_many p ys → bump b (how_many p (xs ++ ys)) ≡ bump b (how_many p xs) + how_many p ys
    go true e = omega arith
    go false e = e

how_many_map : {A B : Type 0} (p : B → Bool) (f : A → B) (xs : List A) → how_many p (map f xs) ≡ how_many (λ x. p (f x)) xs
unfolding how_many
how_many_map p f [] = refl
how_many_map p f (x ∷ xs) = ap (bump (p (f x))) (how_many_map p f xs)

pub how_many_none : {A : Type 0} (p : A → Bool) (xs : List A) → ((x : A) → In x xs → T (p x) → ⊥) → how_many p xs ≡ 0
unfolding how_many
how_many_none p [] h = refl
how_many_none p (x ∷ xs) h = rw (is_false (p x) (h x (Memᴰ.head refl))) (how_many_none p xs (λ y m. h y (Memᴰ.tail m)))

-- ---- an edge among the others

arcs_append : (e : ℕ) (xs ys : List Edge) → arcs_from e (xs ++ ys) ≡ arcs_from e xs ++ arcs_from (e + length xs) ys
unfolding arcs_from
arcs_append e [] ys = ap (λ (k : ℕ). arcs_from k ys) (sym (add-zero e))
arcs_append e (x ∷ xs) ys =
    let q : suc e + length xs ≡ e + suc (length xs) = omega arith in
    ap (λ (l : List Arc). edge_arcs e x ++ l) (arcs_append (suc e) xs ys ∙ ap (λ (k : ℕ). arcs_from (suc e) xs ++ arcs_from k ys) q)
    ∙ sym (append_assoc (edge_arcs e x) (arcs_from (suc e) xs) (arcs_from (e + suc (length xs)) ys))

module _ (nodes : ℕ) (front : List Edge) (d : Edge) (rear : List Edge) (below : Below nodes (edge_entries (front ++ (d ∷ rear)))) where
  -- the edge's vertex
  abbrev place : ℕ
  place = nodes + length front

  parts : Below nodes (edge_entries front) × Below nodes (d.sources ++ d.targets) × Below nodes (edge_entries rear)
  parts =
      let b = subst (Below nodes) (joined_append (λ e. e.sources ++ e.targets) front (d ∷ rear)) below in
      let c = below_back nodes (edge_entries front) (edge_entries (d ∷ rear)) b in
      (below_front nodes (edge_entries front) (edge_entries (d ∷ rear)) b, below_front nodes (d.sources ++ d.targets) (edge_entries rear) c, below_back nodes (d.sources ++ d.targets) (edge_entries rear) c)

  -- an arc of other edges has no end there
  apart : (e n u v : ℕ) → nodes ≤ e → (e + n ≤ place) ⊎ (place < e) → Span nodes e n u v → (u ≡ place) ⊎ (v ≡ place) → ⊥
  apart e n u v l (inl o) (inl s) (inl q) = lt_irrefl u (omega arith)
  apart e n u v l (inl o) (inl s) (inr q) = lt_irrefl v (omega arith)
  apart e n u v l (inl o) (inr s) (inl q) = lt_irrefl u (omega arith)
  apart e n u v l (inl o) (inr s) (inr q) = lt_irrefl v (omega arith)
  apart e n u v l (inr o) (inl s) (inl q) = lt_irrefl u (omega arith)
  apart e n u v l (inr o) (inl s) (inr q) = lt_irrefl v (omega arith)
  apart e n u v l (inr o) (inr s) (inl q) = lt_irrefl u (omega arith)
  apart e n u v l (inr o) (inr s) (inr q) = lt_irrefl v (omega arith)

  -- so a test that asks for an end there counts the edge's own arcs
  own_arcs : (p : Arc → Bool) → ((a : Arc) → T (p a) → (a.from ≡ place) ⊎ (a.to ≡ place))
      → how_many p (arcs_from nodes (front ++ (d ∷ rear))) ≡ how_many p (edge_arcs place d)
  unfolding arcs_from
  own_arcs p h =
      ap (how_many p) (arcs_append nodes front (d ∷ rear))
      ∙ how_many_append p (arcs_from nodes front) (edge_arcs place d ++ arcs_from (suc place) rear)
      ∙ (λ i. how_many_none p (arcs_from nodes front) before i + how_many_append p (edge_arcs place d) (arcs_from (suc place) rear) i)
      ∙ (λ i. 0 + (how_many p (edge_arcs place d) + how_many_none p (arcs_from (suc place) rear) after i))
      ∙ (let z : 0 + (how_many p (edge_arcs place d) + 0) ≡ how_many p (edge_arcs place d) = omega arith in z)
    where
      before : (a : Arc) → In a (arcs_from nodes front) → T (p a) → ⊥
      before a m t = apart nodes (length front) a.from a.to (omega arith) (inl (omega arith)) (edges_span nodes nodes front parts.0 a.from a.to m) (h a t)

      after : (a : Arc) → In a (arcs_from (suc place) rear) → T (p a) → ⊥
      after a m t = apart (suc place) (length rear) a.from a.to (omega arith) (inr (omega arith)) (edges_span nodes (suc place) rear parts.2 a.from a.to m) (h a t)

  -- said once for either end: the arcs that come from the sources, and those that lead to the targets
  own_split : (p : Arc → Bool) → how_many p (edge_arcs place d) ≡ how_many (λ x. p (arc x place)) d.sources + how_many (λ x. p (arc place x)) d.targets
  unfolding edge_arcs
  own_split p =
      how_many_append p (map (λ x. arc x place) d.sources) (map (λ x. arc place x) d.targets)
      ∙ (λ i. how_many_map p (λ x. arc x place) d.sources i + how_many_map p (λ x. arc place x) d.targets i)

  not_place : (xs : List ℕ) → Below nodes xs → (x : ℕ) → In x xs → x ≡ place → ⊥
  not_place xs b x m e = lt_irrefl x (omega (arith, below_in nodes xs b x m))

  here : eqb place place ≡ true
  here = is_true (eqb place place) (eqb_refl place)

  split_into : (S : Set) → into (arcs_from nodes (front ++ (d ∷ rear))) S place ≡ how_many (has S) d.sources
  unfolding into
  split_into S =
      own_arcs p (λ a t. inr (eqb→eq a.to place (and_left (eqb a.to place) (has S a.from) t)))
      ∙ own_split p
      ∙ (λ i. how_many_same (λ x. eqb place place && has S x) (has S) d.sources (λ x m. ap (λ (b : Bool). b && has S x) here) i
      + how_many_none (λ x. eqb x place && has S place) d.targets (λ x m t. not_place d.targets (below_back nodes d.sources d.targets parts.1) x m (eqb→eq x place (and_left (eqb x place) (has S place) t))) i)
      ∙ add-zero (how_many (has S) d.sources)
    where
      p : Arc → Bool
      p a = eqb a.to place && has S a.from

  split_out : (S : Set) → out (arcs_from nodes (front ++ (d ∷ rear))) S place ≡ how_many (has S) d.targets
  unfolding out
  split_out S =
      own_arcs p (λ a t. inl (eqb→eq a.from place (and_left (eqb a.from place) (has S a.to) t)))
      ∙ own_split p
      ∙ (λ i. how_many_none (λ x. eqb x place && has S place) d.sources (λ x m t. not_place d.sources (below_front nodes d.sources d.targets parts.1) x m (eqb→eq x place (and_left (eqb x place) (has S place) t))) i
      + how_many_same (λ x. eqb place place && has S x) (has S) d.targets (λ x m. ap (λ (b : Bool). b && has S x) here) i)
      ∙ zero-add (how_many (has S) d.targets)
    where
      p : Arc → Bool
      p a = eqb a.from place && has S a.to

  split_to_node : (u : ℕ) → u < nodes → between (arcs_from nodes (front ++ (d ∷ rear))) place u ≡ how_many (λ x. eqb x u) d.targets
  unfolding between
  split_to_node u l =
      own_arcs p (λ a t. inl (eqb→eq a.from place (and_right (eqb a.to u) (eqb a.from place) t)))
      ∙ own_split p
      ∙ (λ i. how_many_none (λ x. eqb place u && eqb x place) d.sources (λ x m t. lt_irrefl u (omega (arith, eqb→eq place u (and_left (eqb place u) (eqb x place) t)))) i
      + how_many_same (λ x. eqb x u && eqb place place) (λ x. eqb x u) d.targets (λ x m. ap (λ (b : Bool). eqb x u && b) here ∙ and-true (eqb x u)) i)
      ∙ zero-add (how_many (λ x. eqb x u) d.targets)
    where
      p : Arc → Bool
      p a = eqb a.to u && eqb a.from place

  split_from_node : (u : ℕ) → u < nodes → between (arcs_from nodes (front ++ (d ∷ rear))) u place ≡ how_many (λ x. eqb x u) d.sources
  unfolding between
  split_from_node u l =
      own_arcs p (λ a t. inr (eqb→eq a.to place (and_left (eqb a.to place) (eqb a.from u) t)))
      ∙ own_split p
      ∙ (λ i. how_many_same (λ x. eqb place place && eqb x u) (λ x. eqb x u) d.sources (λ x m. ap (λ (b : Bool). b && eqb x u) here) i
      + how_many_none (λ x. eqb x place && eqb place u) d.targets (λ x m t. lt_irrefl u (omega (arith, eqb→eq place u (and_right (eqb x place) (eqb place u) t)))) i)
      ∙ add-zero (how_many (λ x. eqb x u) d.sources)
    where
      p : Arc → Bool
      p a = eqb a.to place && eqb a.from u

-- the same of the edge with a number, of a graph whose ids are those of nodes
module _ (g : Graph) (proper : Proper g) (i : ℕ) (less : i < length g.edges) where
  abbrev nth : Edge
  nth = get_or g.edges i no_edge

  split : g.edges ≡ take i g.edges ++ (nth ∷ drop (suc i) g.edges)
  split = split_at g.edges i no_edge less

  below : Below (length g.labels) (edge_entries (take i g.edges ++ (nth ∷ drop (suc i) g.edges)))
  below = subst (λ (l : List Edge). Below (length g.labels) (edge_entries l)) split (below_front _ (edge_entries g.edges) _ proper.ids)

  at : length g.labels + length (take i g.edges) ≡ length g.labels + i
  at = ap (λ (k : ℕ). length g.labels + k) (length-take-le i g.edges (omega arith))

  -- "arcs in" of an edge: its source entries that remain
  pub edge_into : (S : Set) → into (arcs g) S (length g.labels + i) ≡ how_many (has S) nth.sources
  unfolding arcs
  edge_into S = (λ j. into (arcs_from (length g.labels) (split j)) S (sym at j)) ∙ split_into (length g.labels) (take i g.edges) nth (drop (suc i) g.edges) below S

  -- "arcs out" of an edge: its target entries that remain
  pub edge_out : (S : Set) → out (arcs g) S (length g.labels + i) ≡ how_many (has S) nth.targets
  unfolding arcs
  edge_out S = (λ j. out (arcs_from (length g.labels) (split j)) S (sym at j)) ∙ split_out (length g.labels) (take i g.edges) nth (drop (suc i) g.edges) below S

  -- how often an edge leads to a node, and a node to it: as often as the node stands in the entries
  edge_to_node : (u : ℕ) → u < length g.labels → between (arcs g) (length g.labels + i) u ≡ how_many (λ x. eqb x u) nth.targets
  unfolding arcs
  edge_to_node u l = (λ j. between (arcs_from (length g.labels) (split j)) (sym at j) u) ∙ split_to_node (length g.labels) (take i g.edges) nth (drop (suc i) g.edges) below u l

  node_to_edge : (u : ℕ) → u < length g.labels → between (arcs g) u (length g.labels + i) ≡ how_many (λ x. eqb x u) nth.sources
  unfolding arcs
  node_to_edge u l = (λ j. between (arcs_from (length g.labels) (split j)) u (sym at j)) ∙ split_from_node (length g.labels) (take i g.edges) nth (drop (suc i) g.edges) below u l

  -- when an edge goes, each of its entries loses one: its targets an arc in, its sources an arc out
  pub edge_goes : (S : Set) → T (has S (length g.labels + i)) → (u : ℕ) → u < length g.labels
      → (into (arcs g) S u ≡ into (arcs g) (without (length g.labels + i) S) u + how_many (λ x. eqb x u) nth.targets)
      × (out (arcs g) S u ≡ out (arcs g) (without (length g.labels + i) S) u + how_many (λ x. eqb x u) nth.sources)
  edge_goes S t u l =
      let e = length g.labels + i in (
        into_without (arcs g) S e t u ∙ ap (λ (n : ℕ). into (arcs g) (without e S) u + n) (edge_to_node u l),
        out_without (arcs g) S e t u ∙ ap (λ (n : ℕ). out (arcs g) (without e S) u + n) (node_to_edge u l),
      )

module _ (g : Graph) (proper : Proper g) where
  -- no arc joins two nodes, so when a node goes the degrees of the nodes stay
  pub node_goes : (S : Set) (v : ℕ) → v < length g.labels → T (has S v) → (u : ℕ) → u < length g.labels
      → (into (arcs g) S u ≡ into (arcs g) (without v S) u) × (out (arcs g) S u ≡ out (arcs g) (without v S) u)
  unfolding between
  node_goes S v l t u k = (
    into_without (arcs g) S v t u ∙ ap (λ (n : ℕ). into (arcs g) (without v S) u + n) (none v u l k) ∙ add-zero (into (arcs g) (without v S) u),
    out_without (arcs g) S v t u ∙ ap (λ (n : ℕ). out (arcs g) (without v S) u + n) (none u v k l) ∙ add-zero (out (arcs g) (without v S) u),
  )
    where
      nodes : ℕ
      nodes = length g.labels

      clash : (x y : ℕ) → x < length g.labels → y < length g.labels
          → (IsNode (length g.labels) x × IsEdge (length g.labels) (length g.edges) y) ⊎ (IsEdge (length g.labels) (length g.edges) x × IsNode (length g.labels) y) → ⊥
      clash x y p q (inl h) = lt_irrefl y (omega arith)
      clash x y p q (inr h) = lt_irrefl x (omega arith)

      none : (x y : ℕ) → x < length g.labels → y < length g.labels → between (arcs g) x y ≡ 0
      none x y p q = how_many_none (λ b. eqb b.to y && eqb b.from x) (arcs g) (λ b m s.
          let e : b.to ≡ y = eqb→eq b.to y (and_left (eqb b.to y) (eqb b.from x) s) in
          let f : b.from ≡ x = eqb→eq b.from x (and_right (eqb b.to y) (eqb b.from x) s) in
          clash x y p q (proper_fits g proper x y (Memᴰ.cast (λ i. arc (sym f i) (sym e i)) m)))

-- ---- at the start all vertices remain: a node's arcs in are its entries among all targets, its arcs out those among all sources

module _ (nodes u : ℕ) (l : u < nodes) where
  targets_at_lem : (e : ℕ) (ds : List Edge) → nodes ≤ e → how_many (λ a. eqb a.to u) (arcs_from e ds) ≡ how_many (λ x. eqb x u) (edge_targets ds)
  unfolding arcs_from edge_arcs how_many
  targets_at_lem e [] h = refl
  targets_at_lem e (d ∷ ds) h =
      how_many_append p (edge_arcs e d) (arcs_from (suc e) ds)
      ∙ (λ i. (how_many_append p (map (λ x. arc x e) d.sources) (map (λ x. arc e x) d.targets) ∙ (λ j. none j + how_many_map p (λ x. arc e x) d.targets j) ∙ zero-add (how_many (λ x. eqb x u) d.targets)) i
      + targets_at_lem (suc e) ds (omega arith) i)
      ∙ sym (how_many_append (λ x. eqb x u) d.targets (edge_targets ds))
    where
      p : Arc → Bool
      p a = eqb a.to u

      none : how_many p (map (λ x. arc x e) d.sources) ≡ 0
      none = how_many_map p (λ x. arc x e) d.sources ∙ how_many_none (λ x. eqb e u) d.sources (λ x m t. lt_irrefl u (omega (arith, eqb→eq e u t)))

  sources_at_lem : (e : ℕ) (ds : List Edge) → nodes ≤ e → how_many (λ a. eqb a.from u) (arcs_from e ds) ≡ how_many (λ x. eqb x u) (edge_sources ds)
  unfolding arcs_from edge_arcs how_many
  sources_at_lem e [] h = refl
  sources_at_lem e (d ∷ ds) h =
      how_many_append p (edge_arcs e d) (arcs_from (suc e) ds)
      ∙ (λ i. (how_many_append p (map (λ x. arc x e) d.sources) (map (λ x. arc e x) d.targets) ∙ (λ j. how_many_map p (λ x. arc x e) d.sources j + none j) ∙ add-zero (how_many (λ x. eqb x u) d.sources)) i
      + sources_at_lem (suc e) ds (omega arith) i)
      ∙ sym (how_many_append (λ x. eqb x u) d.sources (edge_sources ds))
    where
      p : Arc → Bool
      p a = eqb a.from u

      none : how_many p (map (λ x. arc e x) d.targets) ≡ 0
      none = how_many_map p (λ x. arc e x) d.targets ∙ how_many_none (λ x. eqb e u) d.targets (λ x m t. lt_irrefl u (omega (arith, eqb→eq e u t)))

pub degrees_start : (g : Graph) → Proper g → (u : ℕ) → u < length g.labels
    → (into (arcs g) (vertices (vertex_count g)) u ≡ how_many (λ x. eqb x u) (edge_targets g.edges)) × (out (arcs g) (vertices (vertex_count g)) u ≡ how_many (λ x. eqb x u) (edge_sources g.edges))
unfolding arcs into out
degrees_start g proper u l = (
  all_there (λ a. eqb a.to u) (λ a. a.from) (λ a m. (bounded a.from a.to m).0) ∙ targets_at_lem n u l n g.edges (omega arith),
  all_there (λ a. eqb a.from u) (λ a. a.to) (λ a m. (bounded a.from a.to m).1) ∙ sources_at_lem n u l n g.edges (omega arith),
)
  where
    n : ℕ
    n = length g.labels

    bounded : Bounded (arcs g) (vertex_count g)
    bounded = proper_bounded g proper

    all_there : (p : Arc → Bool) (far : Arc → ℕ) → ((a : Arc) → In a (arcs g) → far a < vertex_count g)
        → how_many (λ a. p a && has (vertices (vertex_count g)) (far a)) (arcs g) ≡ how_many p (arcs g)
    all_there p far h = how_many_same (λ a. p a && has (vertices (vertex_count g)) (far a)) p (arcs g)
        (λ a m. ap (λ (b : Bool). p a && b) (get_or-replicate (vertex_count g) (far a) true false (h a m)) ∙ and-true (p a))
