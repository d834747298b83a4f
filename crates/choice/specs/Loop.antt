-- 02, T-12, "Show me one loop": a walk in the first stage's core, and the loop that it closes. First as functions that compute: the node step and the edge
-- step call each other, and their falling number is the number of unvisited vertices left. Then as a relation.
-- Assumes nothing.
use Rattle.std.specs.Prelude.{Bool, true, false, ◌&&◌, cond, List, [], ◌∷◌, ℕ, zero, suc, ◌≤◌, T, eqb, ltb, length}
use Rattle.graph.specs.Graph.{Graph}
use Rattle.choice.specs.Arcs.{Arc, In, Leads, how_many, Set, has, vertices, without, size, passing}
use Rattle.choice.specs.Choice.{core}
use Rattle.choice.specs.Drawing.{arcs, vertex_count, selectable}

-- the lowest vertex of S
unfoldable pub lowest : Set → ℕ
lowest [] = zero
lowest (true ∷ S) = zero
lowest (false ∷ S) = suc (lowest S)

-- some arc leads from u to v
unfoldable pub leads : List Arc → ℕ → ℕ → Bool
leads arcs u v = ltb zero (how_many (λ a. eqb a.from u && eqb a.to v) arcs)

-- "from a node to its lowest edge in the core, and from an edge to its lowest target there, .. each move along an arc"
unfoldable pub onward : List Arc → Set → ℕ → ℕ
onward arcs C v = lowest (passing (leads arcs v) C)

-- the vertices in the order of their visits, and the one that is met again
pub record Walked : Type 0 where
  pub visits : List ℕ
  pub again : ℕ

-- v is the last vertex visited: w is met again
abbrev pub closing : ℕ → ℕ → Walked
closing v w = record { visits = v ∷ []; again = w }

-- v is visited, and then what follows
abbrev pub visiting : ℕ → Walked → Walked
visiting v r = record { visits = v ∷ r.visits; again = r.again }

-- from a vertex v just visited; R are the unvisited vertices of the core, k of them at most
unfoldable mutual
  pub node_step : ℕ → List Arc → Set → Set → ℕ → Walked
  node_step zero arcs C R v = closing v (onward arcs C v)
  node_step (suc k) arcs C R v =
      let e : ℕ = onward arcs C v in
      cond (has R e) (visiting v (edge_step k arcs C (without e R) e)) (closing v e)

  pub edge_step : ℕ → List Arc → Set → Set → ℕ → Walked
  edge_step zero arcs C R v = closing v (onward arcs C v)
  edge_step (suc k) arcs C R v =
      let u : ℕ = onward arcs C v in
      cond (has R u) (visiting v (node_step k arcs C (without u R) u)) (closing v u)

-- the visits from the first of v on
unfoldable pub since : ℕ → List ℕ → List ℕ
since v [] = []
since v (x ∷ xs) = cond (eqb v x) (x ∷ xs) (since v xs)

-- "the vertices from its first visit on, each once, and the number of steps taken": each vertex visited is left by one step
pub record Loop : Type 0 where
  pub list : List ℕ
  pub steps : ℕ

-- "If there is no cycle the answer is an empty list and zero steps"
abbrev pub none_shown : Loop
none_shown = record { list = []; steps = zero }

-- the loop that a walk closes
abbrev pub closed_by : Walked → Loop
closed_by w = record { list = since w.again w.visits; steps = length w.visits }

-- "Start at the lowest node of the first stage's core", C; k of its vertices are left then
abbrev pub walk_from : ℕ → List Arc → (ℕ → Bool) → Set → Walked
walk_from k arcs node C = let start : ℕ = lowest (passing node C) in node_step k arcs C (without start C) start

unfoldable pub loop_in : List Arc → (ℕ → Bool) → Set → Loop
loop_in arcs node C = elim (size C) [
  | zero ↦ none_shown
  | suc k ↦ closed_by (walk_from k arcs node C)
]

-- the first stage's core
abbrev pub first_core : Graph → Set
first_core g = core (arcs g) (vertices (vertex_count g))

-- the loop that is shown of a graph
unfoldable pub loop : Graph → Loop
loop g = loop_in (arcs g) (selectable g) (first_core g)

-- ---- the same as statements

-- v is the lowest vertex of S that passes a test
pub record Lowest (S : Set) (P : ℕ → Type 0) (v : ℕ) : Type 0 where
  pub inside : T (has S v)
  pub passes : P v
  pub least : (u : ℕ) → T (has S u) → P u → v ≤ u

-- the walk by that rule from v on, `seen` being the vertices visited up to v: "The first vertex met again closes the loop."
pub data Walks (arcs : List Arc) (C : Set) : List ℕ → ℕ → List ℕ → ℕ → Type 0 where
  closes : {seen : List ℕ} {v w : ℕ} → Lowest C (Leads arcs v) w → In w seen → Walks arcs C seen v (v ∷ []) w
  goes : {seen visits : List ℕ} {v u w : ℕ} → Lowest C (Leads arcs v) u → (In u seen → ⊥) → Walks arcs C (u ∷ seen) u visits w
      → Walks arcs C seen v (v ∷ visits) w
