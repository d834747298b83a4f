-- What the work room says of ids: a byte of it stands for each id.
-- Assumes nothing.
use Rattle.std.specs.Prelude.{ℕ, List, Bool, not, ◌&&◌, get_or, ltb, eqb}
use Rattle.graph.specs.Build.{with_edges}
use Rattle.graph.specs.Delete.{remaining}
use Rattle.graph.specs.Graph.{Graph}

-- the room marks an id, one of the first n, as one that goes
unfoldable pub marked : List ℕ → ℕ → ℕ → Bool
marked room n id = ltb id n && not (eqb (get_or room id 0) 0)

-- the graph without those of its edges, n in number, that are marked
abbrev pub unmarked_edges : List ℕ → ℕ → Graph → Graph
unmarked_edges room n g = with_edges (remaining (marked room n) 0 g.edges) g
