-- What the loops of `edges::read_edges` keep.
-- Assumes nothing.
use Prim.Native.Nat.{◌≤◌, ◌-◌}
use Rattle.form.specs.Form.{meant}
use Rattle.edges.proofs.Edge.{Sofar}
use Rattle.edges.proofs.read_edges.Given as goal

abbrev pub invariant-loop-i : goal.invariant-loop-i
invariant-loop-i l = (l.i ≤ l.edges) × Sofar (meant l.f) l.s l.start l.reached.at l.reached.ports l.reached.bound l.i

abbrev pub decreases-loop-i : goal.decreases-loop-i
decreases-loop-i l = l.edges - l.i
