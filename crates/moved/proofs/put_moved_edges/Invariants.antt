-- What the loops of `moved::put_moved_edges` keep.
-- Assumes nothing.
use mathlib.Core.List.{map}
use Prim.Native.Nat.{◌-◌}
use mathlib.Core.Path.{◌≡◌}
use lib.ListN.{take}
use Rattle.moved.specs.Places.{gone_in}
use Rattle.form.specs.Stored.{graph_of}
use Rattle.graph.specs.Delete.{renamed_edge}
use Rattle.graph.specs.Form.{edge_row, edge_start}
use Rattle.graph.specs.Lists.{joined}
use Rattle.write.specs.Write.{Put}
use Rattle.moved.proofs.put_moved_edges.Given as goal

abbrev pub invariant-loop-i : goal.invariant-loop-i
invariant-loop-i l = (l.k ≡ edge_start (graph_of l.by.drawing.src.now).edges l.i)
    × Put l.initial.out l.to 0 (joined edge_row (map (renamed_edge (gone_in l.by.drawing.sizes l.by.map.now)) (take l.i (graph_of l.by.drawing.src.now).edges))) l.out l.j

abbrev pub decreases-loop-i : goal.decreases-loop-i
decreases-loop-i l = l.i-end - l.i
