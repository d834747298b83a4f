-- What the loops of `incidence::lay_out` keep.
-- Assumes nothing.
use mathlib.Core.Path.{◌≡◌}
use Prim.Native.Nat.{◌-◌, ◌≤◌}
use lib.ListN.{length, get_or}
use Rattle.le.specs.Le.{words}
use Rattle.halves.specs.Halves.{mate, sum_to}
use Rattle.incidence.specs.Incidence.{LaidOut}
use Rattle.incidence.proofs.lay_out.Given as goal

abbrev pub invariant-loop-y : goal.invariant-loop-y
invariant-loop-y l = (l.y ≤ l.n) × LaidOut (words l.initial.room) (words l.room) l.y × (l.sum ≡ sum_to (λ u. get_or (words l.initial.room) (mate u) 0) l.y) × (length l.room ≡ length l.initial.room)

abbrev pub decreases-loop-y : goal.decreases-loop-y
decreases-loop-y l = l.n - l.y
