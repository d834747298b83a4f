-- What the loop of `parts::put_row` keeps: the first k numbers are put.
-- Assumes nothing.
use mathlib.Core.Path.{◌≡◌}
use lib.ListN.{take}
use Rattle.le.specs.Rows.{row_at, puts}
use Rattle.parts.proofs.put_row.Given as goal

abbrev pub invariant-loop-k : goal.invariant-loop-k
invariant-loop-k l = l.out ≡ puts l.initial.out (row_at l.at 4) 0 (take l.k l.ns)
