-- What the loops of `classes::join_all` keep.
-- Assumes nothing.
use mathlib.Core.Path.{◌≡◌}
use Prim.Native.Nat.{◌≤◌}
use lib.ListN.{length}
use Rattle.le.specs.Le.{words}
use Rattle.classes.proofs.Pairs.{JoinedFrom}
use Rattle.classes.proofs.join_all.Given as goal

abbrev pub invariant-loop-j : goal.invariant-loop-j
invariant-loop-j l = (l.j ≤ l.m) × JoinedFrom l.src l.r l.k l.m l.n l.j (words l.room) × (length l.room ≡ length l.initial.room)

abbrev pub decreases-loop-j : goal.decreases-loop-j
decreases-loop-j l = l.j
