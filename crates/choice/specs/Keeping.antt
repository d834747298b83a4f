-- 02, T-10, "Wires that can't take a buffer": the stages of 01 among what may be chosen, refused with 16 where nothing may.
-- Assumes nothing.
use Rattle.std.specs.Prelude.{◌≡◌, Bool, false, ◌&&◌, not, List, [], ℕ, zero, suc, ◌+◌, ◌<◌, ltb, length}
use Rattle.graph.specs.Lists.{among}
use Rattle.graph.specs.Graph.{Graph}
use Rattle.graph.specs.Answer.{Answer, answered, refusal, ◌else◌, ◌>>=◌, ◌>>◌}
use Rattle.choice.specs.Arcs.{Arc, In, Set, vertices, without, size, passing, outside, Cycle}
use Rattle.choice.specs.Choice.{core, best, insert, Chosen}
use Rattle.choice.specs.Drawing.{arcs, vertex_count, selectable}

-- at most k stages from S, as `stages` has them, but for 16: a core that is not empty and has no vertex that may be chosen
unfoldable pub keeping_stages : ℕ → List Arc → (ℕ → Bool) → Set → Answer Chosen
keeping_stages zero arcs may S = answered (record { ids = []; free = zero })
keeping_stages (suc k) arcs may S =
    let C : Set = core arcs S in
    let v : ℕ = best arcs may C (length C) in
    elim (size C) [
      | zero ↦ answered (record { ids = []; free = outside S C })
      | suc m ↦ do
        ltb zero (size (passing may C)) else refusal 16
        r ← keeping_stages k arcs may (without v C)
        answered (record { ids = insert v r.ids; free = outside S C + r.free })
    ]

-- from all n vertices
unfoldable pub keeping_choice : List Arc → (ℕ → Bool) → ℕ → Answer Chosen
keeping_choice arcs may n = keeping_stages n arcs may (vertices n)

-- "the choice is made among the core's other nodes": which vertices may be chosen
abbrev pub unkept : List ℕ → Graph → ℕ → Bool
unkept kept g v = selectable g v && not (among kept v)

-- the choice of a graph that keeps the listed nodes
unfoldable pub chosen_keeping : List ℕ → Graph → Answer Chosen
chosen_keeping kept g = keeping_choice (arcs g) (unkept kept g) (vertex_count g)

-- a directed cycle on which nothing may be chosen
pub record Blocked (arcs : List Arc) (may : ℕ → Bool) : Type 0 where
  pub cycle : List ℕ
  pub closed : Cycle arcs cycle
  pub barred : (v : ℕ) → In v cycle → may v ≡ false

-- "some cycle has only kept nodes": each node among its vertices is listed
pub record KeptCycle (kept : List ℕ) (g : Graph) : Type 0 where
  pub cycle : List ℕ
  pub closed : Cycle (arcs g) cycle
  pub listed : (v : ℕ) → In v cycle → v < length g.labels → In v kept
