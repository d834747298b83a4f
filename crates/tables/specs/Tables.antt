-- Where the engine's tables lie in a lent room, in words: as src/lib.rt has it.
-- Assumes nothing.
use Rattle.std.specs.Prelude.{ℕ, ◌+◌, ◌*◌}
use Rattle.graph.specs.Graph.{largest}

-- the most nodes, vertices and ports that a graph has
abbrev pub most_nodes : ℕ
most_nodes = largest.most.nodes

abbrev pub most_vertices : ℕ
most_vertices = largest.most.nodes + largest.most.edges

abbrev pub most_ports : ℕ
most_ports = largest.most_ports

-- the words between two tables
abbrev pub gap : ℕ
gap = 688

-- the degrees stand first; then the start and the length of each half's list
abbrev pub lists_at : ℕ
lists_at = 2 * most_vertices + gap

-- the entries of the nodes' lists
abbrev pub entries_at : ℕ
entries_at = lists_at + 4 * most_vertices + gap

-- the halves that wait or have waited
abbrev pub waiting_at : ℕ
waiting_at = entries_at + most_ports + gap

-- the flags of the chosen nodes
abbrev pub picked_at : ℕ
picked_at = waiting_at + most_vertices + gap

-- the queue
abbrev pub queue_at : ℕ
queue_at = picked_at + most_nodes + gap

-- the bytes of room up to the end of the waiting list, and up to that of the queue
abbrev pub room_removal : ℕ
room_removal = 4 * picked_at

abbrev pub room_choice : ℕ
room_choice = 4 * (queue_at + 2 * most_nodes)
