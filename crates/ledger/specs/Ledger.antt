-- What drawing the tables of a room are. An edge's ports are not kept edge by edge: the log has them in the order in which they came, each with its half.
-- Assumes nothing.
use Rattle.std.specs.Prelude.{◌≡◌, cond, List, [], ◌∷◌, ◌++◌, map, ℕ, zero, suc, ◌+◌, ◌*◌, ◌≤◌, ◌<◌, eqb, length, get_or, set, drop}
use Rattle.le.specs.Le.{Below}
use Rattle.graph.specs.Graph.{Edge, Graph, largest, Within}
use Rattle.graph.specs.Lists.{flat}
use Rattle.form.specs.Form.{counts_of}
use Rattle.form.specs.declared.Sizes.{Sizes}
use Rattle.ledger.specs.Tables.{log_at, next_at, first_at, labels_at, edge_labels_at, sources_at, targets_at, pairs_at, room_words}

-- n words from one on
abbrev pub words_in : List ℕ → ℕ → ℕ → List ℕ
words_in W off zero = []
words_in W off (suc n) = get_or W off 0 ∷ words_in W (suc off) n

-- n pairs of words from one on
abbrev pub pairs_in : List ℕ → ℕ → ℕ → List (ℕ × ℕ)
pairs_in W off zero = []
pairs_in W off (suc n) = (get_or W off 0, get_or W (suc off) 0) ∷ pairs_in W (suc (suc off)) n

-- the nodes of the ports of a half, in the order in which they came
abbrev pub nodes_at : ℕ → List (ℕ × ℕ) → List ℕ
nodes_at half [] = []
nodes_at half (p ∷ log) = cond (eqb p.0 half) (p.1 ∷ nodes_at half log) (nodes_at half log)

-- half 2 e is the sources of edge e, half 2 e + 1 its targets
abbrev pub edge_at : ℕ → ℕ → List (ℕ × ℕ) → Edge
edge_at i label log = record { label = label; sources = nodes_at (2 * i) log; targets = nodes_at (2 * i + 1) log }

-- the edges of these labels, the first of them edge i
abbrev pub edges_from : ℕ → List ℕ → List (ℕ × ℕ) → List Edge
edges_from i [] log = []
edges_from i (label ∷ labels) log = edge_at i label log ∷ edges_from (suc i) labels log

-- the log in a room
abbrev pub log_in : List ℕ → Sizes → List (ℕ × ℕ)
log_in W z = pairs_in W log_at z.ports

-- the drawing of these sizes that the words of a room are
unfoldable pub drawing : List ℕ → Sizes → Graph
drawing W z = record {
  labels = words_in W labels_at z.nodes;
  edges = edges_from 0 (words_in W edge_labels_at z.edges) (log_in W z);
  sources = words_in W sources_at z.sources;
  targets = words_in W targets_at z.targets;
  pairs = pairs_in W pairs_at z.pairs;
}

-- each port has a half and a node below these
abbrev pub Logged : ℕ → ℕ → List (ℕ × ℕ) → Type 0
Logged halves nodes [] = Unit {0}
Logged halves nodes (p ∷ log) = (p.0 < halves) × (p.1 < nodes) × Logged halves nodes log

-- the room is large enough, the sizes are within the limits, and every half and every id is below its count
pub record Sound (W : List ℕ) (z : Sizes) : Type 0 where
  pub long : room_words ≤ length W
  pub within : Within largest (counts_of z)
  pub few : z.ports ≤ largest.most_ports
  pub log : Logged (2 * z.edges) z.nodes (log_in W z)
  pub sources : Below z.nodes (words_in W sources_at z.sources)
  pub targets : Below z.nodes (words_in W targets_at z.targets)
  pub pairs : Below z.nodes (flat (pairs_in W pairs_at z.pairs))

-- the room has this drawing
pub record Draws (W : List ℕ) (z : Sizes) (g : Graph) : Type 0 where
  pub sound : Sound W z
  pub is : drawing W z ≡ g

-- these sizes with so many more nodes, edges, ports and pairs
abbrev pub more : Sizes → ℕ → ℕ → ℕ → ℕ → Sizes
more z nodes edges ports pairs = record {
  width = z.width;
  nodes = z.nodes + nodes;
  edges = z.edges + edges;
  ports = z.ports + ports;
  sources = z.sources;
  targets = z.targets;
  pairs = z.pairs + pairs;
}

-- ports of one half, and those of an edge: its sources and its targets
abbrev pub ports_of : ℕ → List ℕ → List (ℕ × ℕ)
ports_of half ids = map (λ id. (half, id)) ids

abbrev pub edge_ports : ℕ → List ℕ → List ℕ → List (ℕ × ℕ)
edge_ports edge sources targets = ports_of (2 * edge) sources ++ ports_of (2 * edge + 1) targets

-- ---- linked

-- the number of the first port of a half, where the first of these has number i; 0 where there is none
abbrev pub port_from : ℕ → ℕ → List (ℕ × ℕ) → ℕ
port_from half i [] = 0
port_from half i (p ∷ log) = cond (eqb p.0 half) i (port_from half (suc i) log)

-- port k, in front of those of its half
abbrev pub linked_at : ℕ → List ℕ → List ℕ
linked_at k W = set (set W (next_at + k) (get_or W (first_at + get_or W (log_at + 2 * k) 0) 0)) (first_at + get_or W (log_at + 2 * k) 0) (k + 1)

-- ports from number k on are linked: each half has its first, and each of them the next
pub record LinkedFrom (W : List ℕ) (z : Sizes) (k : ℕ) : Type 0 where
  pub first : (half : ℕ) → half < 2 * z.edges → get_or W (first_at + half) 0 ≡ port_from half (suc k) (drop k (log_in W z))
  pub next : (j : ℕ) → k ≤ j → j < z.ports → get_or W (next_at + j) 0 ≡ port_from (get_or W (log_at + 2 * j) 0) (suc (suc j)) (drop (suc j) (log_in W z))
