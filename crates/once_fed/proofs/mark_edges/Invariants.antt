-- What the loops of `once_fed::mark_edges` keep.
-- Assumes nothing.
use mathlib.Core.Path.{◌≡◌}
use Prim.Native.Nat.{◌≤◌, ◌-◌}
use lib.ListN.{length}
use Rattle.once_fed.proofs.Edges.{Sofar}
use Rattle.once_fed.proofs.mark_edges.Given as goal

abbrev pub invariant-loop-i : goal.invariant-loop-i
invariant-loop-i l = (l.i ≤ l.drawing.sizes.edges) × (l.i-end ≡ l.drawing.sizes.edges) × (length l.room ≡ length l.initial.room) × Sofar l.drawing.src.now l.room l.drawing.sizes.nodes l.i l.k

abbrev pub decreases-loop-i : goal.decreases-loop-i
decreases-loop-i l = l.drawing.sizes.edges - l.i
