-- What the loop of `amounts::put_kinds` keeps: the lines of the kinds before this one are put.
-- Assumes nothing.
use Prim.Native.Nat.{◌+◌, ◌-◌, ◌*◌, ◌≤◌}
use Rattle.graph.specs.Lists.{joined, range}
use Rattle.text.specs.Text.{Printed}
use Rattle.amounts.specs.Amounts.{kind_line}
use Rattle.amounts.proofs.put_kinds.Given as goal

abbrev pub invariant-loop-label : goal.invariant-loop-label
invariant-loop-label l =
    (1 ≤ l.label) × Printed l.initial.out l.at (joined (kind_line l.counts) (range 1 (l.label - 1))) l.out l.next × (l.next ≤ l.at + (l.label - 1) * 58)
