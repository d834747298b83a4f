-- What the loops of `left::put_left_edges` keep.
-- Assumes nothing.
use Prim.Native.Nat.{◌-◌}
use mathlib.Core.Path.{◌≡◌}
use lib.ListN.{take}
use Rattle.gone.specs.Marks.{marked}
use Rattle.form.specs.Stored.{graph_of}
use Rattle.graph.specs.Delete.{remaining}
use Rattle.graph.specs.Form.{edge_row, edge_start}
use Rattle.graph.specs.Lists.{joined}
use Rattle.write.specs.Write.{Put}
use Rattle.left.proofs.put_left_edges.Given as goal

abbrev pub invariant-loop-i : goal.invariant-loop-i
invariant-loop-i l = (l.k ≡ edge_start (graph_of l.drawing.src.now).edges l.i) × Put l.initial.out l.to 0 (joined edge_row (remaining (marked l.room l.i-end) 0 (take l.i (graph_of l.drawing.src.now).edges))) l.out l.j

abbrev pub decreases-loop-i : goal.decreases-loop-i
decreases-loop-i l = l.i-end - l.i
