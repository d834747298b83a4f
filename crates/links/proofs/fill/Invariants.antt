-- What the loops of `links::fill` keep.
-- Assumes nothing.
use mathlib.Core.Path.{◌≡◌}
use Prim.Native.Nat.{◌-◌, ◌≤◌}
use lib.ListN.{length, replicate}
use lib.Seq.{sets}
use Rattle.links.specs.Links.{cells}
use Rattle.links.proofs.fill.Given as goal

abbrev pub invariant-loop-k : goal.invariant-loop-k
invariant-loop-k l = (l.k ≤ l.n) × (cells l.room ≡ sets (cells l.initial.room) l.from (replicate l.k l.v)) × (length l.room ≡ length l.initial.room)

abbrev pub decreases-loop-k : goal.decreases-loop-k
decreases-loop-k l = l.n - l.k
