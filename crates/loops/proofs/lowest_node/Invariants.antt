-- What the loops of `loops::lowest_node` keep.
-- Assumes nothing.
use mathlib.Core.Path.{◌≡◌}
use Prim.Native.Nat.{ℕ, ◌*◌, ◌<◌}
use lib.ListN.{get_or}
use Rattle.le.specs.Le.{words}
use Rattle.loops.proofs.lowest_node.Given as goal

abbrev pub invariant-loop-v : goal.invariant-loop-v
invariant-loop-v l = (u : ℕ) → u < l.v → get_or (words l.room) (2 * u) 0 ≡ 0
