-- What the loops of `incidence::count` keep.
-- Assumes nothing.
use mathlib.Core.Path.{◌≡◌}
use Prim.Native.Nat.{◌-◌, ◌≤◌}
use lib.ListN.{length}
use Rattle.le.specs.Le.{words}
use Rattle.graph.specs.Form.{edge_start}
use Rattle.incidence.specs.Incidence.{source_in, CountedTo}
use Rattle.form.specs.Drawn.{graph_in}
use Rattle.incidence.proofs.count.Given as goal

abbrev pub invariant-loop-i : goal.invariant-loop-i
invariant-loop-i l = (l.i ≤ l.drawing.sizes.edges) × (l.k ≡ edge_start (graph_in l.drawing).edges l.i) × CountedTo (source_in l.drawing) (graph_in l.drawing) (words l.room) l.i × (length l.room ≡ length l.initial.room)

abbrev pub decreases-loop-i : goal.decreases-loop-i
decreases-loop-i l = l.drawing.sizes.edges - l.i
