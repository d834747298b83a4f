-- What the loop of `gone::left` keeps: as many as stay of the first ids are counted.
-- Assumes nothing.
use mathlib.Core.Path.{◌≡◌}
use Prim.Native.Nat.{◌≤◌}
use Rattle.gone.specs.Marks.{marked}
use Rattle.graph.specs.Delete.{new_id}
use Rattle.gone.proofs.left.Given as goal

abbrev pub invariant-loop-mark : goal.invariant-loop-mark
invariant-loop-mark l = (l.stay ≤ l.mark-index) × (l.stay ≡ new_id (marked l.room l.n) l.mark-index)
