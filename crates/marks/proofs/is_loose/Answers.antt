-- `marks::is_loose` meets its contract.
-- Assumes nothing.
use Rattle.std.proofs.Common.{rules}
use Rattle.marks.specs.Tables.{loose}
use Rattle.marks.proofs.is_loose.Goals as goal

pub returns-then-room-v-eq1 : goal.returns-then-room-v-eq1
unfolding loose
returns-then-room-v-eq1 c = search rules

pub returns-else-room-v-eq1 : goal.returns-else-room-v-eq1
unfolding loose
returns-else-room-v-eq1 c = search rules
