-- `grouping::table` meets its contract.
-- Assumes nothing.
use mathlib.Core.Path.{refl}
use Rattle.grouping.proofs.table.Goals as goal

pub returns : goal.returns
returns c = refl
