-- `replay::calls::returns_due` meets its contract.
-- Assumes nothing.
use lib.ListN.{length}
use Rattle.replay.proofs.calls.returns_due.Goals as goal

pub returns-then-recorded-eq-NO_ROOM : goal.returns-then-recorded-eq-NO_ROOM
returns-then-recorded-eq-NO_ROOM c = λ e. let a = c.args in c.without_room.ensures e (length a.map.now) a.recorded.room a.map.now
