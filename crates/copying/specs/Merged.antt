-- The work room of spiderizing, which has the map of merging and behind it the table, and what of the merged graph stands in the result before any entry is rewritten.
-- Assumes nothing.
use Rattle.std.specs.Prelude.{ℕ, ◌+◌, ◌*◌, ◌-◌, ◌≤◌, ◌<◌, ◌≡◌, Bool, List, [], ◌++◌, length, get_or, take, drop}
use Rattle.le.specs.Le.{words}
use Rattle.le.specs.Rows.{puts}
use Rattle.graph.specs.Lists.{keep, joined, among}
use Rattle.graph.specs.Calls.{room_spiderize}
use Rattle.graph.specs.Graph.{Graph, edge_entries, Proper, largest}
use Rattle.graph.specs.Form.{edge_row}
use Rattle.graph.specs.Merge.{merged}
use Rattle.form.specs.Form.{body_of, lists_from}
use Rattle.form.specs.declared.Sizes.{Sizes}
use Rattle.form.specs.Drawn.{graph_in}
use Rattle.form.specs.declared.Drawing.{Drawing}
use Rattle.quotient.specs.Merging.{Mapped}
use Rattle.links.specs.Links.{cells, is_listed, Heads, Linked}
use Rattle.rewriting.specs.Rewriting.{spidered, fronted}

-- where the table begins: there is a word for each node that a graph may have
abbrev pub table_at : ℕ
table_at = 4 * largest.most.nodes

abbrev pub table_of : List ℕ → List ℕ
table_of room = take (length room - table_at) (drop table_at room)

-- a table was made behind the map of a room: it lists these nodes, none with a fresh node yet, and the map stays
pub record Lists (nodes : ℕ) (room : List ℕ) (listed : ℕ → Bool) (new : List ℕ) : Type 0 where
  pub heads : Heads nodes (cells (table_of new)) listed
  pub map : (v : ℕ) → v < largest.most.nodes → get_or (words new) v 0 ≡ get_or (words room) v 0

-- the merged graph of a stored one
abbrev pub merged_of : Drawing → Graph
merged_of d = (merged (graph_in d)).graph

-- that graph, spiderized at the nodes that the table of a room lists
abbrev pub spidered_of : Drawing → ℕ → List ℕ → Graph
spidered_of d nodes room = spidered (merged_of d) nodes (cells (table_of room))

-- how many of that graph's entries are of nodes that the table lists
abbrev pub fresh_of : Drawing → ℕ → List ℕ → ℕ
fresh_of d nodes room =
    let listed = is_listed nodes (cells (table_of room)) in
    length (keep listed (edge_entries (merged_of d).edges)) + length (keep listed ((merged_of d).sources ++ (merged_of d).targets))

-- what a look-up of an id below n may give is its entry in a map, which is below a count of nodes
abbrev pub LooksUp : (ℕ → ℕ → Type 0) → ℕ → List ℕ → ℕ → Type 0
LooksUp gives n map nodes = (id v : ℕ) → id < n → gives id v → (v ≡ get_or map id 0) × (v < nodes)

-- a stored graph whose map of merging stands in a room; the table behind it lists nodes of the merged graph, which has so many
pub record Ready (d : Drawing) (nodes : ℕ) (room : List ℕ) : Type 0 where
  pub mapped : Mapped d room
  pub roomy : room_spiderize ≤ length room
  pub proper : Proper (merged_of d)
  pub count : nodes ≡ length (merged_of d).labels
  pub ids : List ℕ
  pub listed : is_listed nodes (cells (table_of room)) ≡ among ids
  pub empty : Linked nodes (cells (table_of room)) nodes (λ k x. [])

-- a buffer for the result: its header, and of the merged graph all that stands in it before any entry is rewritten
abbrev pub copied_of : List ℕ → Sizes → Graph → Graph → List ℕ
copied_of old y g h = puts (puts (fronted old y g h) (body_of y) 0 (joined edge_row g.edges)) (body_of y) (lists_from y) (g.sources ++ g.targets)
