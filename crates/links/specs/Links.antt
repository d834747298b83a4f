-- The table of spiderizing, as a list of cells: which nodes are listed, and the chains of their fresh nodes.
-- Assumes nothing.
use Rattle.std.specs.Prelude.{ℕ, ◌+◌, ◌*◌, ◌-◌, ◌/◌, ◌^◌, ◌≤◌, ◌<◌, ◌≡◌, Bool, true, false, cond, not, ◌&&◌, List, [], ◌∷◌, ◌++◌, ltb, eqb, length, get_or, set}
use Rattle.le.specs.Rows.{row_at, span}
use Rattle.le.specs.declared.Row.{Row}
use Rattle.graph.specs.Form.{edge_row}
use Rattle.graph.specs.Lists.{keep, joined, range}
use Rattle.links.specs.declared.Kind.{Kind}
use Rattle.links.specs.declared.Kind.TheVariants.{GlobalSource, EdgeSource, EdgeTarget, GlobalTarget}

-- ---- the room as cells

-- the bytes of a cell
abbrev pub cell_bytes : ℕ
cell_bytes = 2

-- the row that the cells are
abbrev pub cell_row : Row
cell_row = row_at 0 cell_bytes

-- how many a room has
abbrev pub cell_count : List ℕ → ℕ
cell_count room = length room / cell_bytes

-- all of them
unfoldable pub cells : List ℕ → List ℕ
cells room = span room cell_row 0 (cell_count room)

-- the highest number of a cell: what the cells of a node hold that is not listed
abbrev pub unlisted : ℕ
unlisted = 256 ^ cell_bytes - 1

-- ---- which nodes are listed

-- the test that the table makes: a node below the count whose first cell does not say that it is not listed
unfoldable pub is_listed : ℕ → List ℕ → ℕ → Bool
is_listed nodes W x = ltb x nodes && not (eqb (get_or W (x * 4) 0) unlisted)

-- the table before any fresh node: these nodes are listed
pub record Heads (nodes : ℕ) (W : List ℕ) (listed : ℕ → Bool) : Type 0 where
  pub each : (x k : ℕ) → x < nodes → k < 4 → get_or W (x * 4 + k) 0 ≡ cond (listed x) 0 unlisted

-- ---- chains

-- which of the four cells of a node belongs to a kind of entry
abbrev pub cell_of : Kind → ℕ
cell_of GlobalSource = 0
cell_of EdgeSource = 1
cell_of EdgeTarget = 2
cell_of GlobalTarget = 3

-- the fresh nodes of a chain, the last one first, from the number that a cell holds; each is below the one that points to it
abbrev pub Links : ℕ → List ℕ → ℕ → ℕ → List ℕ → Type 0
Links nodes W bound first [] = first ≡ 0
Links nodes W bound first (f ∷ fs) = (first ≡ f) × (nodes ≤ f) × (f < bound) × (0 < f) × Links nodes W f (get_or W (nodes * 3 + f) 0) fs

-- a list, the last entry first
abbrev pub back : List ℕ → List ℕ
back [] = []
back (x ∷ xs) = back xs ++ (x ∷ [])

-- the fresh nodes of a chain in the order in which they came
abbrev pub Chained : ℕ → List ℕ → ℕ → ℕ → List ℕ → Type 0
Chained nodes W bound first es = (l : List ℕ) × Links nodes W bound first l × (back l ≡ es)

-- the fresh nodes below next of each kind of entry of each listed node
pub record Linked (nodes : ℕ) (W : List ℕ) (next : ℕ) (fresh : ℕ → ℕ → List ℕ) : Type 0 where
  pub chains : (x k : ℕ) → x < nodes → k < 4 → is_listed nodes W x ≡ true → Chained nodes W next (get_or W (x * 4 + k) 0) (fresh k x)

-- the table with a fresh node in front of the chain of a node's entries of one kind
unfoldable pub linked_to : ℕ → ℕ → ℕ → ℕ → List ℕ → List ℕ
linked_to nodes id kind fresh W = set (set W (nodes * 3 + fresh) (get_or W (id * 4 + kind) 0)) (id * 4 + kind) fresh

-- a room that holds such a table
pub record Table (nodes : ℕ) (room : List ℕ) (fresh : ℕ → ℕ → List ℕ) : Type 0 where
  pub bound : ℕ
  pub linked : Linked nodes (cells room) bound fresh
  pub heads_held : nodes * 4 ≤ cell_count room
  pub links_held : nodes * 3 + bound ≤ cell_count room

-- a room that holds a chain which starts at a number, the last fresh node first
pub record Run (nodes : ℕ) (room : List ℕ) (first : ℕ) (l : List ℕ) : Type 0 where
  pub bound : ℕ
  pub links : Links nodes (cells room) bound first l
  pub held : nodes * 3 + bound ≤ cell_count room

-- one that starts in a cell, in the order in which the fresh nodes came
pub record Chain (nodes : ℕ) (room : List ℕ) (head : ℕ) (es : List ℕ) : Type 0 where
  pub backwards : List ℕ
  pub run : Run nodes room (get_or (cells room) head 0) backwards
  pub order : back backwards ≡ es
  pub head_held : head < cell_count room

-- ---- spiders

-- the node itself, where it stands on this side of a spider
abbrev pub itself : Bool → ℕ → List ℕ
itself here id = cond here (id ∷ []) []

-- the row of a spider from one list of fresh nodes to another: the node itself stands before the first or before the second
abbrev pub spider_row : Bool → ℕ → List ℕ → List ℕ → List ℕ
spider_row first id a b = edge_row (record { label = 0; sources = itself first id ++ a; targets = itself (not first) id ++ b })

-- the two of a node, from its fresh nodes: 0 global sources, 1 edge sources, 2 edge targets, 3 global targets
abbrev pub both_rows : (ℕ → ℕ → List ℕ) → ℕ → List ℕ
both_rows fresh id = spider_row false id (fresh 0 id) (fresh 1 id) ++ spider_row true id (fresh 2 id) (fresh 3 id)

-- those of a list of nodes that are listed, nothing for the others
abbrev pub spiders_of : ℕ → List ℕ → (ℕ → ℕ → List ℕ) → List ℕ → List ℕ
spiders_of nodes W fresh ids = joined (both_rows fresh) (keep (is_listed nodes W) ids)

-- those of the nodes below a bound, in ascending order
abbrev pub spiders : ℕ → List ℕ → (ℕ → ℕ → List ℕ) → ℕ → List ℕ
spiders nodes W fresh bound = spiders_of nodes W fresh (range 0 bound)
