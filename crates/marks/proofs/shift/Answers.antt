-- `marks::shift` meets its contract.
-- Assumes nothing.
use Rattle.std.proofs.Common.{rules}
use Rattle.marks.specs.Tables.{shifted}
use Rattle.marks.proofs.shift.Goals as goal

pub returns : goal.returns
unfolding shifted
returns c = search rules
