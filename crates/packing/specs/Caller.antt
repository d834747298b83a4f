-- What a caller holds of a stored graph: its bytes. Assumes nothing.
use Rattle.std.specs.Prelude.{◌≡◌, List, ℕ}
use Rattle.graph.specs.Answer.{answered}
use Rattle.graph.specs.Form.{encode}
use Rattle.graph.specs.Graph.{Graph, WellFormed}
use Rattle.graph.specs.Versions.{fitting, read}

-- the bytes b are the graph g
pub record Draws (b : List ℕ) (g : Graph) : Type 0 where
  -- they are read as it
  pub stored : read b ≡ answered (record { format = fitting g; graph = g })
  -- and are what writing it gives
  pub written : encode (fitting g) g ≡ b
  -- it is within the limits of its version, and its ids are below its node count
  pub formed : WellFormed (fitting g) g
