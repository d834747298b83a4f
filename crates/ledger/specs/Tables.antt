-- Where the tables lie in a lent room, in words: as src/lib.rt has it. All follows from the limits.
-- Assumes nothing.
use Rattle.std.specs.Prelude.{ℕ, ◌+◌, ◌*◌, ◌-◌, ◌^◌}
use Rattle.graph.specs.Graph.{largest}

-- half and node of each port
abbrev pub log_at : ℕ
log_at = 0

-- the next port of the same half, and the first of each half
abbrev pub next_at : ℕ
next_at = log_at + 2 * largest.most_ports

abbrev pub first_at : ℕ
first_at = next_at + largest.most_ports

abbrev pub labels_at : ℕ
labels_at = first_at + 2 * largest.most.edges

abbrev pub edge_labels_at : ℕ
edge_labels_at = labels_at + largest.most.nodes

abbrev pub sources_at : ℕ
sources_at = edge_labels_at + largest.most.edges

abbrev pub targets_at : ℕ
targets_at = sources_at + largest.most.sources

abbrev pub pairs_at : ℕ
pairs_at = targets_at + largest.most.targets

-- the new ids of nodes or edges while some of them are deleted
abbrev pub map_at : ℕ
map_at = pairs_at + 2 * largest.most.pairs

-- how many it has room for
abbrev pub map_size : ℕ
map_size = largest.most.nodes + largest.most.edges

abbrev pub room_words : ℕ
room_words = map_at + map_size

abbrev pub room_ledger : ℕ
room_ledger = 4 * room_words

-- what the map has for an id that goes
abbrev pub gone : ℕ
gone = 256 ^ 4 - 1
