-- What the loops of `rewriting::rewrite_lists` keep.
-- Assumes nothing.
use mathlib.Core.Path.{◌≡◌}
use Prim.Native.Nat.{◌+◌, ◌-◌}
use Rattle.form.specs.Form.{lists_from}
use Rattle.rewriting.proofs.Passes.{Passed}
use Rattle.rewriting.proofs.rewrite_lists.Given as goal

abbrev pub invariant-loop-i : goal.invariant-loop-i
invariant-loop-i l = (l.i-end ≡ l.y.sources + l.y.targets) × Passed l.y l.nodes (lists_from l.y) (l.y.sources + l.y.targets) l.y.sources 0 3 l.start l.initial.room l.initial.out l.i l.room l.out l.next

abbrev pub decreases-loop-i : goal.decreases-loop-i
decreases-loop-i l = l.i-end - l.i
