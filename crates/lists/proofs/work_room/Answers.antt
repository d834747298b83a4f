-- `lists::work_room` meets its contract.
-- Assumes nothing.
use borrow.Author.Tests.{le-leb, lt-leb}
use Rattle.graph.specs.Answer.{◌else◌}
use Rattle.lists.proofs.work_room.Goals as goal

pub returns-then-lent-needed : goal.returns-then-lent-needed
unfolding ◌else◌
returns-then-lent-needed c = rw (lt-leb _ _ c.if-lent-needed.true)

pub returns : goal.returns
unfolding ◌else◌
returns c = rw (le-leb _ _ c.if-lent-needed.false)
