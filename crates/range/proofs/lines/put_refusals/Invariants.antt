-- What the loop of `range::lines::put_refusals` keeps: the lines of the numbers before this one are put.
-- Assumes nothing.
use Prim.Native.Nat.{◌+◌, ◌-◌, ◌*◌, ◌≤◌}
use Rattle.graph.specs.Lists.{joined, range}
use Rattle.text.specs.Text.{Printed}
use Rattle.range.specs.Glance.{refusal_line}
use Rattle.range.proofs.lines.put_refusals.Given as goal

abbrev pub invariant-loop-no : goal.invariant-loop-no
invariant-loop-no l =
    (1 ≤ l.no) × Printed l.initial.out l.at (joined (refusal_line l.refusals) (range 1 (l.no - 1))) l.out l.next × (l.next ≤ l.at + (l.no - 1) * 54)
