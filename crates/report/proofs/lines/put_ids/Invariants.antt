-- What the loop of `report::lines::put_ids` keeps: the lines of the first i ids are put.
-- Assumes nothing.
use Prim.Native.Nat.{◌+◌, ◌*◌, ◌≤◌}
use Rattle.graph.specs.Lists.{joined}
use Rattle.le.specs.Rows.{span}
use Rattle.report.specs.Report.{id_line}
use Rattle.text.specs.Text.{Printed}
use Rattle.report.proofs.lines.put_ids.Given as goal

abbrev pub invariant-loop-i : goal.invariant-loop-i
invariant-loop-i l =
    Printed l.initial.out l.at (joined id_line (span l.list l.row 0 l.i)) l.out l.next × (l.next ≤ l.at + l.i * 21)
