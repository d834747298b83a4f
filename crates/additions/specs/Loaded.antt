-- A stored graph while it is loaded: its first edges are in the tables.
-- Assumes nothing.
use Rattle.std.specs.Prelude.{ℕ, take}
use Rattle.graph.specs.Graph.{Graph}
use Rattle.graph.specs.Build.{with_edges}
use Rattle.form.specs.declared.Sizes.{Sizes}

-- sizes with other edges and ports
abbrev pub without_edges : Sizes → ℕ → ℕ → Sizes
without_edges z edges ports = record { width = z.width; nodes = z.nodes; edges = edges; ports = ports; sources = z.sources; targets = z.targets; pairs = z.pairs }

-- the graph with its first i edges alone
abbrev pub loaded_to : Graph → ℕ → Graph
loaded_to g i = with_edges (take i g.edges) g
