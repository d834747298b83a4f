-- A sweep over the edges, and sweeps until no node goes.
-- Assumes nothing.
use Rattle.std.specs.Prelude.{◌≡◌, true, false, cond, List, ◌↔◌, ℕ, suc, ◌+◌, ◌*◌, ◌%◌, ◌^◌, ◌≤◌, ◌<◌, T, length, get_or}
use Rattle.graph.specs.Graph.{Graph}
use Rattle.graph.specs.Form.{no_edge}
use Rattle.graph.specs.Lists.{among}
use Rattle.choice.specs.Arcs.{In, has, size, into, out, Stable}
use Rattle.choice.specs.Degrees.{Sofar}
use Rattle.choice.specs.Drawing.{arcs, vertex_count}
use Rattle.choice.specs.Keeping.{unkept}
use Rattle.marks.specs.Tables.{left, degrees, loose, some_left}

-- the words say the degrees of all nodes
abbrev pub Right : Graph → List ℕ → Type 0
Right g room =
    (u : ℕ) → u < length g.labels → degrees room u ≡ (into (arcs g) (left (vertex_count g) room) u + 65536 * out (arcs g) (left (vertex_count g) room) u) % 2 ^ 32

-- what the engine has told so far, what remains being marked: `picked` was chosen, and so many went freely
pub record Telling (kept : List ℕ) (g : Graph) (room picked : List ℕ) (free : ℕ) : Type 0 where
  pub told : Sofar (arcs g) (unkept kept g) (vertex_count g) (left (vertex_count g) room) picked free
  pub marks : (v : ℕ) → v < length g.labels → T (has (left (vertex_count g) room) v) → get_or room v 0 ≡ cond (among kept v) 3 1
  pub chosen : (v : ℕ) → v < length g.labels → (get_or room v 0 ≡ 2) ↔ In v picked
  pub right : Right g room

-- and no node is loose
pub record State (kept : List ℕ) (g : Graph) (room picked : List ℕ) (free : ℕ) : Type 0 where
  pub telling : Telling kept g room picked free
  pub tight : (v : ℕ) → v < length g.labels → loose room v ≡ false

-- from one room to another: k vertices go freely
pub record Moves (g : Graph) (old new : List ℕ) (k : ℕ) : Type 0 where
  pub fewer : k + size (left (vertex_count g) new) ≡ size (left (vertex_count g) old)
  pub goes : (kept picked : List ℕ) (free : ℕ) → State kept g old picked free → State kept g new picked (free + k)

-- edge i has gone, or a source and a target of it remain
pub record Settled (g : Graph) (room : List ℕ) (i : ℕ) : Type 0 where
  pub source : T (has (left (vertex_count g) room) (length g.labels + i)) → some_left room (get_or g.edges i no_edge).sources ≡ true
  pub target : T (has (left (vertex_count g) room) (length g.labels + i)) → some_left room (get_or g.edges i no_edge).targets ≡ true

-- the first k edges were visited: where so many edges have gone and nothing else, each of them is settled
pub record Swept (g : Graph) (old new : List ℕ) (k gone edges : ℕ) : Type 0 where
  pub moves : Moves g old new gone
  pub few : edges ≤ gone
  pub still : gone ≡ edges → (i : ℕ) → i < k → Settled g new i
  -- what went and is no edge was a node
  pub nodes : gone + size (left (length g.labels) new) ≡ edges + size (left (length g.labels) old)

-- so many sweeps one after the other, in each of which a node goes
pub data Sweeps (g : Graph) (old : List ℕ) : List ℕ → ℕ → Type 0 where
  start : Sweeps g old old 0
  another : {room : List ℕ} {m : ℕ} (new : List ℕ) (gone edges : ℕ) → Sweeps g old room m → Swept g room new (length g.edges) gone edges → (gone ≡ edges → ⊥)
      → Sweeps g old new (suc m)

-- k vertices went freely, and each that remains has an arc in and an arc out. It took so many sweeps in which a node went, and a last one of edges alone
pub record Rests (g : Graph) (old new : List ℕ) (k : ℕ) : Type 0 where
  pub moves : Moves g old new k
  pub stable : (kept picked : List ℕ) (free : ℕ) → State kept g new picked free → Stable (arcs g) (left (vertex_count g) new)
  pub sweeps : ℕ
  pub before : List ℕ
  pub run : Sweeps g old before sweeps
  pub last : (edges : ℕ) × Swept g before new (length g.edges) edges edges
