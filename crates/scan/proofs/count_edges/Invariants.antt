-- What the loops of `scan::count_edges` keep.
-- Assumes nothing.
use mathlib.Core.Path.{◌≡◌}
use Prim.Native.Nat.{◌-◌, ◌≤◌}
use Rattle.graph.specs.Form.{edge_start}
use Rattle.form.specs.Stored.{graph_of}
use Rattle.scan.specs.Stages.{Counted}
use Rattle.scan.proofs.count_edges.Given as goal

abbrev pub invariant-loop-i : goal.invariant-loop-i
invariant-loop-i l = (l.i ≤ l.i-end) × (l.k ≡ edge_start (graph_of l.drawing.src.now).edges l.i) × Counted (graph_of l.drawing.src.now) l.initial.room l.room l.i

abbrev pub decreases-loop-i : goal.decreases-loop-i
decreases-loop-i l = l.i-end - l.i
