-- What the loops of `cycle::put_chosen` keep.
-- Assumes nothing.
use mathlib.Core.Path.{◌≡◌}
use Prim.Native.Nat.{◌≤◌, ◌-◌}
use lib.ListN.{length}
use Rattle.choice.specs.Passing.{shown_below}
use Rattle.cycle.specs.Begin.{is_flagged}
use Rattle.le.specs.Le.{words}
use Rattle.le.specs.Rows.{puts}
use Rattle.cycle.proofs.put_chosen.Given as goal

abbrev pub invariant-loop-v : goal.invariant-loop-v
invariant-loop-v l = (l.v ≤ l.nodes) × (l.k ≡ length (shown_below (is_flagged (words l.room)) l.v)) × (l.list ≡ puts l.initial.list l.r 0 (shown_below (is_flagged (words l.room)) l.v)) × (length l.list ≡ length l.initial.list)

abbrev pub decreases-loop-v : goal.decreases-loop-v
decreases-loop-v l = l.nodes - l.v
