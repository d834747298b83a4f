-- What the loop of `replay::replay` keeps. Each call stands further on in the list than the one before, so there are no more calls than places,
-- and the measure is what is left of the list. Assumes nothing.
use Prim.Native.Nat.{◌≤◌, ◌-◌}
use lib.ListN.{length}
use Rattle.replay.proofs.replay.Given as goal

abbrev pub invariant-loop-at : goal.invariant-loop-at
invariant-loop-at g l = (l.tally.differ ≤ l.tally.calls) × (l.tally.calls ≤ l.at)

abbrev pub decreases-loop-at : goal.decreases-loop-at
decreases-loop-at g l = length l.list - l.at
