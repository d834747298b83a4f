-- What the loops of `incidence::fill` keep.
-- Assumes nothing.
use mathlib.Core.Path.{◌≡◌}
use Prim.Native.Nat.{◌-◌, ◌*◌, ◌≤◌}
use lib.ListN.{length}
use Rattle.le.specs.Le.{words}
use Rattle.graph.specs.Form.{edge_start}
use Rattle.incidence.specs.Incidence.{neighbours, arcs_to, ListsFilled}
use Rattle.form.specs.Drawn.{graph_in}
use Rattle.incidence.proofs.fill.Given as goal

abbrev pub invariant-loop-i : goal.invariant-loop-i
invariant-loop-i l = (l.i ≤ l.drawing.sizes.edges) × (l.k ≡ edge_start (graph_in l.drawing).edges l.i) × ListsFilled (words l.initial.room) (words l.room) (2 * l.drawing.sizes.nodes) (neighbours (arcs_to (graph_in l.drawing) l.i)) × (length l.room ≡ length l.initial.room)

abbrev pub decreases-loop-i : goal.decreases-loop-i
decreases-loop-i l = l.drawing.sizes.edges - l.i
