-- What the map says of ids: a number of it stands for each old node.
-- Assumes nothing.
use Rattle.std.specs.Prelude.{◌≡◌, ℕ, ◌+◌, ◌-◌, ◌^◌, ◌<◌, List, map, Bool, false, cond, ◌&&◌, ltb, eqb}
use Rattle.le.specs.Rows.{Holds, row_at, entry, span}
use Rattle.le.specs.declared.Row.{Row}
use Rattle.graph.specs.Delete.{new_id}
use Rattle.graph.specs.Graph.{Edge}
use Rattle.graph.specs.Lists.{range}
use Rattle.form.specs.Form.{Low, body_of}
use Rattle.form.specs.declared.EdgeAt.{EdgeAt}
use Rattle.form.specs.declared.Sizes.{Sizes}

-- the edge whose ids stand where it is said; its label stands elsewhere
abbrev pub edge_of : List ℕ → Sizes → EdgeAt → Edge
edge_of b z e = record {
  label = 0;
  sources = span b (body_of z) e.first e.sources;
  targets = span b (body_of z) (e.first + e.sources) e.targets;
}

-- the map is a row of the width of what was read
abbrev pub map_of : Sizes → Row
map_of z = row_at 0 z.width

-- the map of n nodes: where each goes, the highest number of the width if nowhere
abbrev pub places_of : ℕ → (ℕ → Bool) → ℕ → List ℕ
places_of width goes n = map (λ id. cond (goes id) (256 ^ width - 1) (new_id goes id)) (range 0 n)

-- by the map a node goes: its place is the highest number
unfoldable pub gone_in : Sizes → List ℕ → ℕ → Bool
gone_in z table id = ltb id z.nodes && eqb (entry table (map_of z) id) (256 ^ z.width - 1)

-- the map of the nodes of a graph of these sizes, which has the new ids of those that stay
pub record Mapped (z : Sizes) (table : List ℕ) : Type 0 where
  pub low : Low z
  pub held : Holds table (map_of z) z.nodes
  pub new : (i : ℕ) → i < z.nodes → gone_in z table i ≡ false → entry table (map_of z) i ≡ new_id (gone_in z table) i
