-- What the loops of `marks::some_left` keep.
-- Assumes nothing.
use Rattle.std.proofs.Common.{◌≡◌, ◌-◌, ◌≤◌, false}
use Rattle.le.specs.Rows.{span}
use Rattle.marks.specs.Tables.{some_left}
use Rattle.marks.proofs.some_left.Given as goal

abbrev pub invariant-loop-j : goal.invariant-loop-j
invariant-loop-j l = (l.j ≤ l.count) × (some_left l.room (span l.src l.r l.first l.j) ≡ false)

abbrev pub decreases-loop-j : goal.decreases-loop-j
decreases-loop-j l = l.count - l.j
