-- What the loops of `sweeps::sweep` keep.
-- Assumes nothing.
use mathlib.Core.Path.{◌≡◌}
use Prim.Native.Nat.{◌-◌, ◌≤◌}
use lib.ListN.{length}
use Rattle.graph.specs.Form.{edge_start}
use Rattle.form.specs.Stored.{graph_of}
use Rattle.sweeps.specs.Sweeps.{Swept}
use Rattle.sweeps.proofs.sweep.Given as goal

abbrev pub invariant-loop-i : goal.invariant-loop-i
invariant-loop-i l = (l.i ≤ l.drawing.sizes.edges) × (length l.room ≡ length l.initial.room) × (l.k ≡ edge_start (graph_of l.drawing.src.now).edges l.i) × Swept (graph_of l.drawing.src.now) l.initial.room l.room l.i l.gone.all l.gone.edges

abbrev pub decreases-loop-i : goal.decreases-loop-i
decreases-loop-i l = l.drawing.sizes.edges - l.i
