-- What a caller of ohg_reasons may rely on where the code is 0: promises about the returned number and the bytes of the lent buffer alone, one field for each.
-- Assumes nothing.
use Rattle.std.specs.Prelude.{◌≡◌, List, ◌↔◌, ℕ, ◌*◌, ◌≤◌, ◌<◌, length, get_or, take, drop}
use Rattle.le.specs.Le.{numbers}
use Rattle.graph.specs.Graph.{Graph}
use Rattle.choice.specs.Arcs.{In, vertices}
use Rattle.choice.specs.Choice.{Chooses}
use Rattle.choice.specs.Drawing.{arcs, vertex_count, selectable}
use Rattle.choice.specs.Reasons.{Reason, numbers_of, Because}
use Rattle.packing.specs.Caller.{Draws}
use Rattle.packing.specs.Unpacked.{a_in, b_in}

-- the four numbers of entry v in a buffer, and the first of them
abbrev pub entry_in : ℕ → List ℕ → ℕ → List ℕ
entry_in r new v = take 4 (drop (4 * v) (numbers 4 (4 * a_in r) new))

abbrev pub kind_in : ℕ → List ℕ → ℕ → ℕ
kind_in r new v = get_or (entry_in r new v) 0 0

-- x is a reason of node v, from the first stage on and all vertices
abbrev pub ReasonOf : Graph → ℕ → Reason → Type 0
ReasonOf g v x = Because (arcs g) (selectable g) 1 (vertices (vertex_count g)) v x

-- a node's entry is that of a reason, and the node has no other
pub record Entry (g : Graph) (r : ℕ) (new : List ℕ) (v : ℕ) : Type 0 where
  pub why : Reason
  pub told : entry_in r new v ≡ numbers_of why
  pub true_of : ReasonOf g v why
  pub only : (x : Reason) → ReasonOf g v x → x ≡ why

-- ohg_reasons on the bytes b returned r, and its buffer was old and is new
pub record ToldReasons (b : List ℕ) (r : ℕ) (old new : List ℕ) (g : Graph) : Type 0 where
  -- the bytes are this graph
  pub drawing : Draws b g
  -- which has no pending pair
  pub pairless : length g.pairs ≡ 0
  -- there is one entry for each node
  pub entries : a_in r ≡ length g.labels
  -- and it says why, by paths
  pub each : (v : ℕ) → v < length g.labels → Entry g r new v
  -- every run of the stages, whatever the order of its free removals, chooses just the nodes whose kind is 0
  pub chosen : (ids : List ℕ) (free : ℕ) → Chooses (arcs g) (selectable g) (vertices (vertex_count g)) ids free → (v : ℕ) → v < length g.labels → In v ids ↔ (kind_in r new v ≡ 0)
  -- and they are as many as b says
  pub number : (ids : List ℕ) (free : ℕ) → Chooses (arcs g) (selectable g) (vertices (vertex_count g)) ids free → length ids ≡ b_in r
  -- the entries are wholly in the buffer, and what was behind them stays
  pub fits : 16 * a_in r ≤ length old
  pub stays : drop (16 * a_in r) new ≡ drop (16 * a_in r) old
