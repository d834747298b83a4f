-- What the loops of `copying::count_edges` keep.
-- Assumes nothing.
use mathlib.Core.List.{List}
use mathlib.Core.Path.{◌≡◌}
use Prim.Native.Nat.{ℕ, ◌-◌, ◌≤◌}
use lib.ListN.{length, take}
use Rattle.form.specs.Drawn.{graph_in}
use Rattle.graph.specs.Form.{edge_start}
use Rattle.graph.specs.Graph.{edge_entries}
use Rattle.graph.specs.Lists.{keep}
use Rattle.graph.specs.Merge.{looked}
use Rattle.links.specs.Links.{cells, is_listed}
use Rattle.copying.specs.Merged.{LooksUp}
use Rattle.copying.proofs.count_edges.Given as goal

abbrev pub invariant-loop-i : goal.invariant-loop-i
invariant-loop-i g l = (l.i ≤ l.drawing.sizes.edges) × (l.i-end ≡ l.drawing.sizes.edges) × (l.k ≡ edge_start (graph_in l.drawing).edges l.i)
    × (l.count ≤ length (edge_entries (take l.i (graph_in l.drawing).edges)))
    × ((nodes : ℕ) (map : List ℕ) → LooksUp (goal.F-post g l.node) l.drawing.sizes.nodes map nodes
    → l.count ≡ length (keep (is_listed nodes (cells l.table)) (looked map (edge_entries (take l.i (graph_in l.drawing).edges)))))

abbrev pub decreases-loop-i : goal.decreases-loop-i
decreases-loop-i g l = l.drawing.sizes.edges - l.i
