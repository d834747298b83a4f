-- What the loops of `marks::shift_each` keep.
-- Assumes nothing.
use Rattle.std.proofs.Common.{◌≡◌, ◌-◌, ◌≤◌, length}
use Rattle.le.specs.Rows.{span}
use Rattle.marks.specs.Tables.{shifted_all}
use Rattle.marks.proofs.shift_each.Given as goal

abbrev pub invariant-loop-j : goal.invariant-loop-j
invariant-loop-j l = (l.j ≤ l.count) × (length l.room ≡ length l.initial.room) × (l.room ≡ shifted_all l.delta (span l.src l.r l.first l.j) l.initial.room)

abbrev pub decreases-loop-j : goal.decreases-loop-j
decreases-loop-j l = l.count - l.j
