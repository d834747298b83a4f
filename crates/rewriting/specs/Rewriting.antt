-- What the pass of spiderizing leaves: the rewritten lists, the labels of the fresh nodes, and the table with its chains.
-- Assumes nothing.
use Rattle.std.specs.Prelude.{ℕ, ◌+◌, ◌*◌, ◌≤◌, ◌≡◌, Bool, cond, List, [], ◌∷◌, ◌++◌, map, eqb, ltb, length, get_or, take, drop}
use Rattle.le.specs.Le.{Below}
use Rattle.le.specs.Rows.{Holds, span, puts}
use Rattle.graph.specs.Lists.{keep, joined, among}
use Rattle.graph.specs.Graph.{Edge, Graph, edge_entries, Proper}
use Rattle.graph.specs.Form.{edge_row}
use Rattle.graph.specs.Spider.{freshened, after, freshened_edges, entries_of, spiderized_at}
use Rattle.graph.specs.Versions.{fitting}
use Rattle.form.specs.Form.{sizes_of, Low, labels_of, body_of, lists_from}
use Rattle.form.specs.declared.Sizes.{Sizes}
use Rattle.write.specs.Write.{Room, headed}
use Rattle.links.specs.Links.{cells, cell_count, unlisted, is_listed, Linked}

-- n numbers of the second row of a form, from index j on
abbrev pub ids_at : List ℕ → Sizes → ℕ → ℕ → List ℕ
ids_at b z j n = span b (body_of z) j n

-- they are ids below a node count
pub record Ids (b : List ℕ) (z : Sizes) (nodes j n : ℕ) : Type 0 where
  pub low : Low z
  pub held : Holds b (body_of z) (j + n)
  pub known : Below nodes (ids_at b z j n)

-- the labels of the fresh nodes of these entries: each that of the node whose entry it was
abbrev pub labelled : List ℕ → (ℕ → Bool) → List ℕ → List ℕ
labelled labels listed entries = map (λ id. get_or labels id 0) (keep listed entries)

-- the fresh nodes of each kind of entry of each node
abbrev pub Fresh : Type 0
Fresh = ℕ → ℕ → List ℕ

-- those, with the fresh nodes of a list of entries of one kind
abbrev pub more : ℕ → (ℕ → Bool) → ℕ → List ℕ → Fresh → Fresh
more kind listed next entries fresh k x = cond (eqb k kind) (fresh k x ++ entries_of x entries (freshened listed next entries)) (fresh k x)

-- the kind of entry i of two lists that stand one after the other, the first of this length
abbrev pub kind_at : ℕ → ℕ → ℕ → ℕ → ℕ
kind_at first a b i = cond (ltb i first) a b

-- those, with the fresh nodes of the entries of two such lists, the first of kind a, the second of kind b
abbrev pub more_two : ℕ → ℕ → ℕ → (ℕ → Bool) → ℕ → List ℕ → Fresh → Fresh
more_two first a b listed next entries fresh =
    more b listed (after listed next (take first entries)) (drop first entries) (more a listed next (take first entries) fresh)

-- with those of edges: their sources are of kind 1, their targets of kind 2
abbrev pub more_edges : (ℕ → Bool) → ℕ → List Edge → Fresh → Fresh
more_edges listed next [] fresh = fresh
more_edges listed next (e ∷ es) fresh =
    more_edges listed (after listed next (e.sources ++ e.targets)) es
    (more 2 listed (after listed next e.sources) e.targets (more 1 listed next e.sources fresh))

-- a pass over entries: the labels of their fresh nodes, which end within those of the nodes, and their new ids were put into a buffer for a form of these sizes,
-- the next fresh node, and a table that lists the same nodes and has the new fresh nodes in its chains
pub record Pass (listed : ℕ → Bool) (nodes start : ℕ) (W old labels : List ℕ) (y : Sizes) (k : ℕ) (entries new_ids : List ℕ) (step : Fresh → Fresh) (W' new : List ℕ) (next : ℕ) : Type 0 where
  pub number : next ≡ after listed start entries
  pub within : next ≤ y.nodes
  pub stored : new ≡ puts (puts old (labels_of y) start (labelled labels listed entries)) (body_of y) k new_ids
  pub same : is_listed nodes W' ≡ listed
  pub chains : (fresh : Fresh) → Linked nodes W start fresh → Linked nodes W' next (step fresh)

-- the labels of the first nodes of a form
abbrev pub labels_in : List ℕ → Sizes → ℕ → List ℕ
labels_in b y nodes = span b (labels_of y) 0 nodes

-- the pass over the n entries that stand in a buffer from index k on, in place
abbrev pub Rewrites : Sizes → ℕ → ℕ → ℕ → ((ℕ → Bool) → ℕ → List ℕ → Fresh → Fresh) → ℕ → List ℕ → List ℕ → List ℕ → List ℕ → ℕ → Type 0
Rewrites y nodes k n step start room out room' out' next =
    Pass (is_listed nodes (cells room)) nodes start (cells room) out (labels_in out y nodes) y k (ids_at out y k n)
    (freshened (is_listed nodes (cells room)) start (ids_at out y k n)) (step (is_listed nodes (cells room)) start (ids_at out y k n)) (cells room') out' next

-- the pass over edges, whose rows stand in a buffer from its first index on
abbrev pub EdgesPassed : Graph → ℕ → Sizes → List Edge → List ℕ → List ℕ → List ℕ → List ℕ → ℕ → Type 0
EdgesPassed g nodes y es room out room' out' next =
    Pass (is_listed nodes (cells room)) nodes nodes (cells room) out g.labels y 0 (edge_entries es) (joined edge_row (freshened_edges (is_listed nodes (cells room)) nodes es))
    (more_edges (is_listed nodes (cells room)) nodes es) (cells room') out' next

-- room in a table, and among the labels of a form of this many nodes, for the fresh nodes up to, not including, a number
pub record Numbered (nodes all start end : ℕ) (room : List ℕ) : Type 0 where
  pub from : nodes ≤ start
  pub labels : end ≤ all
  pub few : end ≤ unlisted
  pub heads : nodes * 4 ≤ cell_count room
  pub links : nodes * 3 + end ≤ cell_count room

-- what such a pass needs: ids to rewrite, and room for all that it writes
pub record Prepared (y : Sizes) (nodes k n start : ℕ) (room out : List ℕ) : Type 0 where
  pub ids : Ids out y nodes k n
  pub numbered : Numbered nodes y.nodes start (after (is_listed nodes (cells room)) start (ids_at out y k n)) room
  pub buffer : Room out y

-- a graph spiderized at the nodes that a table lists
abbrev pub spidered : Graph → ℕ → List ℕ → Graph
spidered g nodes W = spiderized_at (is_listed nodes W) g

-- a buffer with the header of a form of these sizes, and all labels but those of the fresh nodes: those of the nodes of one graph and of the edges of another
unfoldable pub fronted : List ℕ → Sizes → Graph → Graph → List ℕ
fronted old y g h = puts (puts (headed old y) (labels_of y) 0 g.labels) (labels_of y) y.nodes (map (λ e. e.label) h.edges)

-- y are the sizes of a graph of so many nodes, spiderized at the nodes that a table lists, and the table has room for its fresh nodes
pub record Plan (g : Graph) (nodes : ℕ) (y : Sizes) (room : List ℕ) : Type 0 where
  pub proper : Proper g
  pub unpaired : length g.pairs ≡ 0
  pub count : nodes ≡ length g.labels
  pub ids : List ℕ
  pub listed : is_listed nodes (cells room) ≡ among ids
  pub sizes : y ≡ sizes_of (fitting (spidered g nodes (cells room))) (spidered g nodes (cells room))
  pub numbered : Numbered nodes y.nodes nodes y.nodes room
  pub empty : Linked nodes (cells room) nodes (λ k x. [])

-- what a graph has before it is spiderized, in a buffer for the result: its labels, the rows of its edges, and its global lists, where they stand in the result
pub record Copied (g : Graph) (nodes : ℕ) (y : Sizes) (out : List ℕ) : Type 0 where
  pub labels : labels_in out y nodes ≡ g.labels
  pub rows : ids_at out y 0 (length (joined edge_row g.edges)) ≡ joined edge_row g.edges
  pub lists : ids_at out y (lists_from y) (y.sources + y.targets) ≡ g.sources ++ g.targets

-- such a buffer, ready for the rewriting
pub record Laid (g : Graph) (nodes edges : ℕ) (y : Sizes) (room out : List ℕ) : Type 0 where
  pub plan : Plan g nodes y room
  pub copied : Copied g nodes y out
  pub count : edges ≡ length g.edges
