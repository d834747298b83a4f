-- What the loops of `build::turns` keep.
-- Assumes nothing.
use mathlib.Core.Path.{◌≡◌}
use Prim.Native.Nat.{◌-◌, ◌≤◌}
use lib.ListN.{length, drop}
use Rattle.le.specs.Le.{words}
use Rattle.steps.specs.Steps.{steps_in}
use Rattle.steps.specs.Calls as calls
use Rattle.ledger.specs.Ledger.{drawing, Sound}
use Rattle.build.proofs.turns.Given as goal

abbrev pub invariant-loop-at : goal.invariant-loop-at
invariant-loop-at l = (l.at ≤ length l.steps) × (l.index ≤ l.at) × Sound (words l.room) l.z × (calls.turns 0 (steps_in l.steps) (drawing (words l.initial.room) l.initial.z) ≡ calls.turns l.index (steps_in (drop l.at l.steps)) (drawing (words l.room) l.z)) × (length l.room ≡ length l.initial.room)

abbrev pub decreases-loop-at : goal.decreases-loop-at
decreases-loop-at l = length l.steps - l.at
