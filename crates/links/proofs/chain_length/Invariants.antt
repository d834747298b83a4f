-- What the loops of `links::chain_length` keep.
-- Assumes nothing.
use mathlib.Core.List.{List}
use mathlib.Core.Path.{◌≡◌}
use Prim.Native.Nat.{ℕ}
use lib.ListN.{length}
use Rattle.links.proofs.Chains.{Going}
use Rattle.links.proofs.chain_length.Given as goal

abbrev pub invariant-loop-f : goal.invariant-loop-f
invariant-loop-f l = (passed : List ℕ) × Going l.nodes l.room l.initial.f l.f passed × (l.n ≡ length passed)

abbrev pub decreases-loop-f : goal.decreases-loop-f
decreases-loop-f l = l.f
