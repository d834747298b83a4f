-- What the loops of `moved::put_moved_pairs` keep.
-- Assumes nothing.
use Prim.Native.Nat.{◌*◌, ◌-◌}
use Rattle.moved.specs.Places.{gone_in}
use Rattle.form.specs.Form.{body_of}
use Rattle.graph.specs.Delete.{renamed_pairs}
use Rattle.graph.specs.Lists.{paired, flat}
use Rattle.le.specs.Rows.{span}
use Rattle.write.specs.Write.{Put}
use Rattle.moved.proofs.put_moved_pairs.Given as goal

abbrev pub invariant-loop-i : goal.invariant-loop-i
invariant-loop-i l = Put l.initial.out l.to l.first (flat (renamed_pairs (gone_in l.by.drawing.sizes l.by.map.now) (paired (span l.by.drawing.src.now (body_of l.by.drawing.sizes) l.k (2 * l.i))))) l.out l.j

abbrev pub decreases-loop-i : goal.decreases-loop-i
decreases-loop-i l = l.n - l.i
