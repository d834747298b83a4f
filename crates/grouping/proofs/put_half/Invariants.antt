-- What the loops of `grouping::put_half` keep.
-- Assumes nothing.
use mathlib.Core.List.{List}
use Prim.Native.Nat.{ℕ, ◌+◌, ◌-◌}
use lib.ListN.{length}
use Rattle.le.specs.Le.{words}
use Rattle.write.specs.Write.{Put}
use Rattle.ledger.specs.Ledger.{nodes_at, log_in}
use Rattle.grouping.proofs.Walks.{Walk}
use Rattle.grouping.proofs.put_half.Given as goal

abbrev pub invariant-loop-port : goal.invariant-loop-port
invariant-loop-port l = (done : List ℕ) × Walk (words l.room) l.z l.half l.port done × Put l.initial.out l.r l.from done l.out l.at

abbrev pub decreases-loop-port : goal.decreases-loop-port
decreases-loop-port l = l.from + length (nodes_at l.half (log_in (words l.room) l.z)) - l.at
