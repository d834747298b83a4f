-- What the loops of `classes::find` keep.
-- Assumes nothing.
use mathlib.Core.Path.{◌≡◌}
use lib.ListN.{length, get_or}
use Rattle.le.specs.Le.{words}
use Rattle.classes.specs.Forest.{Climbed}
use Rattle.classes.proofs.find.Given as goal

abbrev pub invariant-loop-p : goal.invariant-loop-p
invariant-loop-p l = Climbed l.n (words l.initial.room) (words l.room) l.v l.x × (l.p ≡ get_or (words l.room) l.x 0) × (length l.room ≡ length l.initial.room)

abbrev pub decreases-loop-p : goal.decreases-loop-p
decreases-loop-p l = l.x
