-- What the loops of `moved::put_map` keep.
-- Assumes nothing.
use Prim.Native.Nat.{◌-◌, ◌≤◌}
use mathlib.Core.Path.{◌≡◌}
use Rattle.gone.specs.Marks.{marked}
use Rattle.moved.specs.Places.{places_of}
use Rattle.graph.specs.Delete.{new_id}
use Rattle.write.specs.Write.{Put}
use Rattle.moved.proofs.put_map.Given as goal

abbrev pub invariant-loop-i : goal.invariant-loop-i
invariant-loop-i l = (l.i ≤ l.n) × (l.next ≡ new_id (marked l.room l.n) l.i) × Put l.initial.map l.r 0 (places_of l.r.width (marked l.room l.n) l.i) l.map l.i

abbrev pub decreases-loop-i : goal.decreases-loop-i
decreases-loop-i l = l.n - l.i
