-- What the choice promises, as statements: of arcs, of a graph, and of an answer's bytes.
-- Assumes nothing.
use Rattle.std.specs.Prelude.{◌≡◌, Bool, List, [], ◌∷◌, ◌⊎◌, ◌↔◌, ℕ, zero, ◌+◌, ◌≤◌, ◌<◌, ◌*◌, T, length}
use Rattle.le.specs.Le.{Below, numbers, row}
use Rattle.graph.specs.Graph.{Graph}
use Rattle.graph.specs.Lists.{joined}
use Rattle.graph.specs.Answer.{answered, Result}
use Rattle.graph.specs.Versions.{StoredGraph, read}
use Rattle.graph.specs.Calls.{id_list}
use Rattle.choice.specs.Arcs.{Arc, In, Leads, Set, has, size, Stable, Cycle, NoCycle}
use Rattle.choice.specs.Choice.{Chosen, Ascends}
use Rattle.choice.specs.Drawing.{arcs, vertex_count, chosen}
use Rattle.choice.specs.Keeping.{chosen_keeping}
use Rattle.choice.specs.Loop.{none_shown, Loop, since, loop, Lowest, Walks}
use Rattle.choice.specs.Simple.{SimpleCycle}
use Rattle.choice.specs.Reasons.{numbers_of, reasons}

-- all arcs join vertices below n
abbrev pub Bounded : List Arc → ℕ → Type 0
Bounded arcs n = (u v : ℕ) → Leads arcs u v → (u < n) × (v < n)

-- each stable set that is not empty has a vertex that may be chosen
abbrev pub Offers : List Arc → (ℕ → Bool) → Type 0
Offers arcs may = (S : Set) → Stable arcs S → (v : ℕ) → T (has S v) → (u : ℕ) × T (has S u) × T (may u)

-- a list of nodes that breaks every directed cycle of a graph, as the choice's does
pub record Breaks (g : Graph) (list : List ℕ) : Type 0 where
  pub ascends : Ascends list
  pub nodes : Below (length g.labels) list
  pub meets : (c : List ℕ) → Cycle (arcs g) c → (v : ℕ) × In v c × In v list
  pub none : (list ≡ []) ↔ NoCycle (arcs g)

-- the answer is the choice of the stored graph: its bytes are read back as the chosen ids, which break every cycle
pub record CutOf (b : List ℕ) (room : ℕ) (s : StoredGraph) (c : Result) : Type 0 where
  pub stored : read b ≡ answered s
  pub pairless : length s.graph.pairs ≡ zero
  pub written : c.bytes ≡ row s.format.width (chosen s.graph).ids
  pub count : c.a ≡ length (chosen s.graph).ids
  pub free : c.b ≡ (chosen s.graph).free
  pub fits : length c.bytes ≤ room
  pub back : numbers s.format.width c.a c.bytes ≡ (chosen s.graph).ids
  pub breaks : Breaks s.graph (numbers s.format.width c.a c.bytes)

-- what is promised of an answered choice that keeps nodes: the same, no kept node is in it, and every vertex is either chosen or removed freely
pub record Spares (kept : List ℕ) (g : Graph) (c : Chosen) : Type 0 where
  pub breaks : Breaks g c.ids
  pub spared : (v : ℕ) → In v c.ids → In v kept → ⊥
  pub all_counted : length c.ids + c.free ≡ vertex_count g

-- a stored graph and the list of a call are good: 1 to 8 are past
pub record Admitted (b list : List ℕ) (s : StoredGraph) (kept : List ℕ) : Type 0 where
  pub stored : read b ≡ answered s
  pub listed : id_list s.format (length s.graph.labels) list ≡ answered kept
  pub pairless : length s.graph.pairs ≡ zero

-- the answer is the choice of the stored graph among the nodes that are not kept, its bytes are read back as the chosen ids, and all promises hold of it
pub record KeepingOf (b list : List ℕ) (room : ℕ) (s : StoredGraph) (kept : List ℕ) (c : Result) : Type 0 where
  pub admitted : Admitted b list s kept
  pub picked : Chosen
  pub is : chosen_keeping kept s.graph ≡ answered picked
  pub written : c.bytes ≡ row s.format.width picked.ids
  pub count : c.a ≡ length picked.ids
  pub free : c.b ≡ picked.free
  pub fits : length c.bytes ≤ room
  pub back : numbers s.format.width c.a c.bytes ≡ picked.ids
  pub spares : Spares kept s.graph picked

-- the loop that is shown in a set C: where the walk starts, its visits and the vertex met again, by the rule; and what is answered of it, a directed cycle
-- that passes no vertex twice
pub record Shown (arcs : List Arc) (node : ℕ → Bool) (C : Set) (l : Loop) : Type 0 where
  pub start : ℕ
  pub visits : List ℕ
  pub again : ℕ
  pub from_lowest : Lowest C (λ v. T (node v)) start
  pub by_rule : Walks arcs C (start ∷ []) start visits again
  pub from_first : l.list ≡ since again visits
  pub walk_long : l.steps ≡ length visits
  pub simple : SimpleCycle arcs l.list
  pub inside : (v : ℕ) → In v l.list → T (has C v)
  pub at_least : length l.list ≤ l.steps
  pub at_most : l.steps ≤ size C

-- there is no directed cycle, and nothing is shown; or a loop is
abbrev pub NoneOrShown : List Arc → (ℕ → Bool) → Set → Loop → Type 0
NoneOrShown arcs node C l = (NoCycle arcs × (l ≡ none_shown)) ⊎ Shown arcs node C l

-- the answer is the loop of the stored graph, and its bytes are read back as that
pub record LoopOf (b : List ℕ) (room : ℕ) (s : StoredGraph) (c : Result) : Type 0 where
  pub stored : read b ≡ answered s
  pub pairless : length s.graph.pairs ≡ zero
  pub written : c.bytes ≡ row s.format.width (loop s.graph).list
  pub count : c.a ≡ length (loop s.graph).list
  pub steps : c.b ≡ (loop s.graph).steps
  pub fits : length c.bytes ≤ room
  pub back : numbers s.format.width c.a c.bytes ≡ (loop s.graph).list

-- the answer is the reasons of the stored graph's nodes, four numbers each, and its bytes are read back as those
pub record ReasonsOf (b : List ℕ) (room : ℕ) (s : StoredGraph) (c : Result) : Type 0 where
  pub stored : read b ≡ answered s
  pub pairless : length s.graph.pairs ≡ zero
  pub written : c.bytes ≡ row 4 (joined numbers_of (reasons s.graph))
  pub count : c.a ≡ length s.graph.labels
  pub cuts : c.b ≡ length (chosen s.graph).ids
  pub fits : length c.bytes ≤ room
  pub back : numbers 4 (4 * c.a) c.bytes ≡ joined numbers_of (reasons s.graph)
