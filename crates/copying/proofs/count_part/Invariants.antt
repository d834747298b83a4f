-- What the loops of `copying::count_part` keep.
-- Assumes nothing.
use mathlib.Core.List.{List}
use mathlib.Core.Path.{◌≡◌}
use Prim.Native.Nat.{ℕ, ◌-◌, ◌≤◌}
use lib.ListN.{length}
use Rattle.graph.specs.Lists.{keep}
use Rattle.graph.specs.Merge.{looked}
use Rattle.le.specs.Rows.{span}
use Rattle.links.specs.Links.{cells, is_listed}
use Rattle.copying.specs.Merged.{LooksUp}
use Rattle.copying.proofs.count_part.Given as goal

abbrev pub invariant-loop-i : goal.invariant-loop-i
invariant-loop-i g l = (l.i ≤ l.n) × (l.count ≤ l.i)
    × ((nodes : ℕ) (map : List ℕ) → LooksUp (goal.F-post g l.node) l.drawing.sizes.nodes map nodes
    → l.count ≡ length (keep (is_listed nodes (cells l.table)) (looked map (span l.drawing.src.now l.row l.j l.i))))

abbrev pub decreases-loop-i : goal.decreases-loop-i
decreases-loop-i g l = l.n - l.i
