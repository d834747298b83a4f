-- What the loops of `removal::peel` keep.
-- Assumes nothing.
use mathlib.Core.Path.{◌≡◌}
use Prim.Native.Nat.{◌-◌}
use lib.ListN.{length}
use Rattle.le.specs.Le.{words}
use Rattle.removal.specs.Room.{source}
use Rattle.removal.proofs.Peeling.{Peeling}
use Rattle.removal.proofs.peel.Given as goal

abbrev pub invariant-loop-first : goal.invariant-loop-first
invariant-loop-first l = Peeling (source l.s l.r) (words l.initial.room) (words l.room) l.nodes l.n l.from l.end l.first l.last × (length l.room ≡ length l.initial.room)

abbrev pub decreases-loop-first : goal.decreases-loop-first
decreases-loop-first l = l.n - l.first
