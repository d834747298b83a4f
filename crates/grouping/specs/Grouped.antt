-- The ports of a drawing, half by half: each half's are linked in the room.
-- Assumes nothing.
use Rattle.std.specs.Prelude.{List, ◌++◌, ℕ}
use Rattle.graph.specs.Graph.{Edge, Graph}
use Rattle.graph.specs.Lists.{flat}
use Rattle.form.specs.declared.Sizes.{Sizes}
use Rattle.ledger.specs.Ledger.{log_in, edge_at, Sound, LinkedFrom}

-- a room whose ports are all linked
pub record Linked (W : List ℕ) (z : Sizes) : Type 0 where
  pub sound : Sound W z
  pub links : LinkedFrom W z 0

-- an edge of the drawing, whatever its label
abbrev pub edge_in : List ℕ → Sizes → ℕ → Edge
edge_in W z i = edge_at i 0 (log_in W z)

-- what follows the edges in the body of a graph
abbrev pub lists_in : Graph → List ℕ
lists_in g = g.sources ++ (g.targets ++ flat g.pairs)
