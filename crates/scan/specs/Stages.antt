-- The best node, the stages, and the whole engine: what was chosen is marked.
-- Assumes nothing.
use Rattle.std.specs.Prelude.{◌≡◌, Bool, cond, List, [], ◌↔◌, ℕ, ◌+◌, ◌*◌, ◌%◌, ◌^◌, ◌≤◌, ◌<◌, Result, eqb, length, get_or, take}
use Rattle.graph.specs.Answer.{answered}
use Rattle.graph.specs.Graph.{Graph, edge_sources, edge_targets}
use Rattle.choice.specs.Arcs.{In, how_many, vertices, Stable}
use Rattle.choice.specs.Choice.{Chosen}
use Rattle.choice.specs.Drawing.{arcs, vertex_count}
use Rattle.choice.specs.Keeping.{chosen_keeping}
use Rattle.form.specs.Form.{told, telling}
use Rattle.form.specs.declared.Refusal.{Refusal}
use Rattle.marks.specs.Tables.{left, degrees, worth_in, most_vertices}
use Rattle.sweeps.specs.Sweeps.{Telling, State}
use Rattle.scan.specs.declared.Best.{Best}

-- among the first k nodes none is worth more; and where one is worth anything, it is one of them, and none before it is worth as much
pub record Top (room : List ℕ) (k : ℕ) (b : Best) : Type 0 where
  pub most : (u : ℕ) → u < k → worth_in room u ≤ b.score
  pub is : (b.score ≡ 0 → ⊥) → (b.node < k) × (worth_in room b.node ≡ b.score)
  pub lowest : (b.score ≡ 0 → ⊥) → (u : ℕ) → u < k → worth_in room u ≡ b.score → b.node ≤ u

-- the better of a node and another that is worth so much
abbrev pub better_of : Best → ℕ → ℕ → Bool → Best
better_of b v worth more = cond more (record { node = v; score = worth }) b

-- all marks are as before, and the words of the nodes have the entries of the first k edges
pub record Counted (g : Graph) (old new : List ℕ) (k : ℕ) : Type 0 where
  pub long : length new ≡ length old
  pub marks : take most_vertices new ≡ take most_vertices old
  pub words : (u : ℕ) → u < length g.labels
      → degrees new u ≡ (how_many (λ x. eqb x u) (edge_targets (take k g.edges)) + 65536 * how_many (λ x. eqb x u) (edge_sources (take k g.edges))) % 2 ^ 32

-- nothing has gone and nothing is chosen yet
pub record Prepared (kept : List ℕ) (g : Graph) (room : List ℕ) : Type 0 where
  pub telling : Telling kept g room [] 0
  pub all : left (vertex_count g) room ≡ vertices (vertex_count g)

-- q is the free count of the choice that keeps these nodes, or its refusal; and what it chooses is marked
pub record ChosenIn (kept : List ℕ) (g : Graph) (room : List ℕ) (q : Result ℕ Refusal) : Type 0 where
  pub is : told q ≡ telling (λ (c : Chosen). c.free) (chosen_keeping kept g)
  pub marked : (c : Chosen) → chosen_keeping kept g ≡ answered c → (v : ℕ) → v < length g.labels → (get_or room v 0 ≡ 2) ↔ In v c.ids

-- all that may go freely has gone, so many vertices; and nothing is chosen yet
pub record Begun (kept : List ℕ) (g : Graph) (room : List ℕ) (free : ℕ) : Type 0 where
  pub state : State kept g room [] free
  pub stable : Stable (arcs g) (left (vertex_count g) room)

-- the choice of these ids and this free count
abbrev pub chosen_as : List ℕ → ℕ → Chosen
chosen_as ids free = record { ids = ids; free = free }

-- v was chosen
abbrev pub is_chosen : List ℕ → ℕ → Bool
is_chosen room v = eqb (get_or room v 0) 2
