-- What the loops of `quotient::put_renamed_edges` keep.
-- Assumes nothing.
use Rattle.form.specs.Drawn.{graph_in}
use mathlib.Core.List.{map}
use mathlib.Core.Path.{◌≡◌}
use Prim.Native.Nat.{◌-◌, ◌≤◌}
use lib.ListN.{take}
use Rattle.graph.specs.Form.{edge_row, edge_start}
use Rattle.graph.specs.Lists.{joined}
use Rattle.graph.specs.Merge.{looked_edge}
use Rattle.le.specs.Le.{words}
use Rattle.write.specs.Write.{Put}
use Rattle.quotient.proofs.put_renamed_edges.Given as goal

abbrev pub invariant-loop-i : goal.invariant-loop-i
invariant-loop-i l = (l.i ≤ l.i-end) × (l.k ≡ edge_start (graph_in l.drawing).edges l.i) × Put l.initial.out l.to 0 (joined edge_row (map (looked_edge (words l.room)) (take l.i (graph_in l.drawing).edges))) l.out l.k

abbrev pub decreases-loop-i : goal.decreases-loop-i
decreases-loop-i l = l.i-end - l.i
