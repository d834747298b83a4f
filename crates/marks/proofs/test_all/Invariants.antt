-- What the loops of `marks::test_all` keep.
-- Assumes nothing.
use Rattle.std.proofs.Common.{◌≡◌, ◌-◌, ◌≤◌, length}
use Rattle.marks.specs.Tables.{tested_all, went_of, up_to}
use Rattle.marks.proofs.test_all.Given as goal

abbrev pub invariant-loop-v : goal.invariant-loop-v
invariant-loop-v l = (l.v ≤ l.nodes) × (length l.room ≡ length l.initial.room) × (l.gone ≤ l.v) × ((l.gone ≡ went_of (up_to l.v) l.initial.room) × (l.room ≡ tested_all (up_to l.v) l.initial.room))

abbrev pub decreases-loop-v : goal.decreases-loop-v
decreases-loop-v l = l.nodes - l.v
