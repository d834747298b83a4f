-- What the loops of `edges::bad_place` keep.
-- Assumes nothing.
use mathlib.Core.Path.{◌≡◌}
use Prim.Native.Nat.{◌≤◌, ◌-◌}
use Rattle.edges.specs.Walk.{Spans, bad_place}
use Rattle.edges.proofs.bad_place.Given as goal

abbrev pub invariant-loop-i : goal.invariant-loop-i
invariant-loop-i l = (l.i ≤ l.edges) × Spans l.width l.s l.at (l.edges - l.i) l.lists × (bad_place l.width l.bound l.s l.at (l.edges - l.i) l.ids ≡ bad_place l.width l.bound l.s l.start l.edges l.ids)

abbrev pub decreases-loop-i : goal.decreases-loop-i
decreases-loop-i l = l.edges - l.i
