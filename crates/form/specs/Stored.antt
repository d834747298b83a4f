-- Bytes that were read: the graph that they are, its sizes, and what stands in their rows.
-- Assumes nothing.
use Rattle.std.specs.Prelude.{ℕ, ◌+◌, ◌*◌, ◌≡◌, List, map, length, get_or}
use Rattle.le.specs.Le.{Below}
use Rattle.le.specs.Rows.{Holds, span}
use Rattle.graph.specs.Graph.{Graph, Format, form1, largest, WellFormed, Usable}
use Rattle.graph.specs.Form.{encode, body, label_row, no_edge, edge_start}
use Rattle.graph.specs.Answer.{answered, reply}
use Rattle.graph.specs.Versions as versions
use Rattle.graph.specs.Versions.{read}
use Rattle.graph.specs.Lists.{flat}
use Rattle.graph.specs.Build.{empty}
use Rattle.form.specs.Form.{sizes_of, Low, labels_of, body_of, body_size, lists_from, edge_in}
use Rattle.form.specs.declared.Sizes.{Sizes}

-- what bytes are read as; nothing in version 1 where they are refused
unfoldable pub stored_of : List ℕ → versions.StoredGraph
stored_of b = reply (record { format = form1; graph = empty }) (λ s. s) (read b)

-- the graph that they are, and its version
abbrev pub graph_of : List ℕ → Graph
graph_of b = (stored_of b).graph

abbrev pub format_of : List ℕ → Format
format_of b = (stored_of b).format

-- the bytes were read as a graph of these sizes
pub record Stored (b : List ℕ) (z : Sizes) : Type 0 where
  pub read_as : read b ≡ answered (stored_of b)
  pub sizes : z ≡ sizes_of (format_of b) (graph_of b)
  pub usable : Usable (format_of b)
  pub formed : WellFormed (format_of b) (graph_of b)
  pub within : WellFormed largest (graph_of b)
  pub whole : encode (format_of b) (graph_of b) ≡ b

-- what stands in the rows of such bytes
pub record Rows (b : List ℕ) (z : Sizes) (g : Graph) : Type 0 where
  pub low : Low z
  pub labels_held : Holds b (labels_of z) (z.nodes + z.edges)
  pub body_held : Holds b (body_of z) (body_size z)
  pub all_labels : span b (labels_of z) 0 (z.nodes + z.edges) ≡ label_row g
  pub labels : span b (labels_of z) 0 z.nodes ≡ g.labels
  pub edge_labels : span b (labels_of z) z.nodes z.edges ≡ map (λ e. e.label) g.edges
  pub body : span b (body_of z) 0 (body_size z) ≡ body g
  pub sources : span b (body_of z) (lists_from z) z.sources ≡ g.sources
  pub targets : span b (body_of z) (lists_from z + z.sources) z.targets ≡ g.targets
  pub pairs : span b (body_of z) (lists_from z + z.sources + z.targets) (2 * z.pairs) ≡ flat g.pairs

-- edge i of the graph stands at index k of the row
pub record EdgeThere (b : List ℕ) (z : Sizes) (g : Graph) (i k : ℕ) : Type 0 where
  pub at : k ≡ edge_start g.edges i
  pub held : Holds b (body_of z) (k + 2)
  pub counts : edge_in b (body_of z) k ≡ record {
    sources = length (get_or g.edges i no_edge).sources;
    targets = length (get_or g.edges i no_edge).targets;
    first = k + 2;
    end = edge_start g.edges (i + 1);
  }
  pub ids_held : Holds b (body_of z) (edge_start g.edges (i + 1))
  pub source_ids : span b (body_of z) (k + 2) (length (get_or g.edges i no_edge).sources) ≡ (get_or g.edges i no_edge).sources
  pub target_ids : span b (body_of z) (k + 2 + length (get_or g.edges i no_edge).sources) (length (get_or g.edges i no_edge).targets) ≡ (get_or g.edges i no_edge).targets
  pub sources_known : Below (length g.labels) (get_or g.edges i no_edge).sources
  pub targets_known : Below (length g.labels) (get_or g.edges i no_edge).targets
