-- What the loops of `additions::load` keep.
-- Assumes nothing.
use mathlib.Core.Path.{◌≡◌}
use Prim.Native.Nat.{◌-◌, ◌*◌, ◌≤◌}
use lib.ListN.{length}
use Rattle.le.specs.Le.{words}
use Rattle.graph.specs.Form.{edge_start}
use Rattle.form.specs.Stored.{graph_of}
use Rattle.ledger.specs.Ledger.{Draws}
use Rattle.additions.specs.Loaded.{without_edges, loaded_to}
use Rattle.additions.proofs.load.Given as goal

abbrev pub invariant-loop-i : goal.invariant-loop-i
invariant-loop-i l = (l.i ≤ l.drawing.sizes.edges) × (l.k ≡ edge_start (graph_of l.drawing.src.now).edges l.i) × Draws (words l.room) (without_edges l.drawing.sizes l.i (l.k - 2 * l.i)) (loaded_to (graph_of l.drawing.src.now) l.i) × (length l.room ≡ length l.initial.room)

abbrev pub decreases-loop-i : goal.decreases-loop-i
decreases-loop-i l = l.drawing.sizes.edges - l.i
