-- What the loops of `moved::put_moved_edge` keep.
-- Assumes nothing.
use mathlib.Core.Path.{◌≡◌}
use Prim.Native.Nat.{◌+◌, ◌-◌, ◌≤◌}
use lib.ListN.{length}
use Rattle.moved.specs.Places.{gone_in}
use Rattle.form.specs.Form.{body_of}
use Rattle.graph.specs.Delete.{renamed}
use Rattle.le.specs.Rows.{span}
use Rattle.write.specs.Write.{Put}
use Rattle.moved.proofs.put_moved_edge.Given as goal

-- the sources end where the first turns that are theirs have ended
abbrev pub invariant-loop-i : goal.invariant-loop-i
invariant-loop-i l = (l.e.sources ≤ l.i → l.middle ≡ l.j + 2 + length (renamed (gone_in l.by.drawing.sizes l.by.map.now) (span l.by.drawing.src.now (body_of l.by.drawing.sizes) l.e.first l.e.sources)))
    × Put l.initial.out l.to (l.j + 2) (renamed (gone_in l.by.drawing.sizes l.by.map.now) (span l.by.drawing.src.now (body_of l.by.drawing.sizes) l.e.first l.i)) l.out l.end

abbrev pub decreases-loop-i : goal.decreases-loop-i
decreases-loop-i l = l.e.sources + l.e.targets - l.i
