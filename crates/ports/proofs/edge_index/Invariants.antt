-- What the loops of `ports::edge_index` keep.
-- Assumes nothing.
use mathlib.Core.Path.{◌≡◌}
use Prim.Native.Nat.{◌-◌, ◌≤◌}
use Rattle.form.specs.Drawn.{graph_in}
use Rattle.graph.specs.Form.{edge_start}
use Rattle.ports.proofs.edge_index.Given as goal

abbrev pub invariant-loop-i : goal.invariant-loop-i
invariant-loop-i l = (l.i ≤ l.edge) × (l.k ≡ edge_start (graph_in l.drawing).edges l.i)

abbrev pub decreases-loop-i : goal.decreases-loop-i
decreases-loop-i l = l.edge - l.i
