-- What the loops of `rewriting::rewrite_edge` keep.
-- Assumes nothing.
use mathlib.Core.Path.{◌≡◌}
use Prim.Native.Nat.{◌+◌, ◌-◌}
use Rattle.rewriting.proofs.Passes.{Passed}
use Rattle.rewriting.proofs.rewrite_edge.Given as goal

abbrev pub invariant-loop-i : goal.invariant-loop-i
invariant-loop-i l = (l.i-end ≡ l.e.sources + l.e.targets) × Passed l.y l.nodes l.e.first (l.e.sources + l.e.targets) l.e.sources 1 2 l.start l.initial.room l.initial.out l.i l.room l.out l.next

abbrev pub decreases-loop-i : goal.decreases-loop-i
decreases-loop-i l = l.i-end - l.i
