-- What the loops of `gone::ports_of_left` keep.
-- Assumes nothing.
use mathlib.Core.Path.{◌≡◌}
use Prim.Native.Nat.{◌-◌, ◌≤◌}
use lib.ListN.{length, take}
use Rattle.gone.specs.Marks.{marked}
use Rattle.form.specs.Stored.{graph_of}
use Rattle.graph.specs.Form.{edge_start}
use Rattle.graph.specs.Graph.{edge_entries}
use Rattle.graph.specs.Delete.{remaining}
use Rattle.gone.proofs.ports_of_left.Given as goal

abbrev pub invariant-loop-i : goal.invariant-loop-i
invariant-loop-i l = (l.ports ≤ l.k) × (l.k ≡ edge_start (graph_of l.drawing.src.now).edges l.i) × (l.ports ≡ length (edge_entries (remaining (marked l.room l.i-end) 0 (take l.i (graph_of l.drawing.src.now).edges))))

abbrev pub decreases-loop-i : goal.decreases-loop-i
decreases-loop-i l = l.i-end - l.i
