-- 02, T-11: how large a graph is once every node is spiderized, told from its sizes before.
-- Assumes nothing.
use Rattle.std.specs.Prelude.{ℕ, ◌+◌, ◌*◌}
use Rattle.graph.specs.Graph.{Counts}

-- a fresh node for each edge and global entry, and two spiders for each node
abbrev pub all_counts : Counts → ℕ → Counts
all_counts c ports = record {
  nodes = c.nodes + (ports + (c.sources + c.targets));
  edges = c.edges + 2 * c.nodes;
  sources = c.sources;
  targets = c.targets;
  pairs = c.pairs;
}

-- "the old ports plus two for each node plus all edge and global entries"
abbrev pub all_ports : Counts → ℕ → ℕ
all_ports c ports = ports + 2 * c.nodes + (ports + (c.sources + c.targets))
