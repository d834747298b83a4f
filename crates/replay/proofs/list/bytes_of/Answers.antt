-- `replay::list::bytes_of` meets its contract.
-- Assumes nothing.
use borrow.Author.Tests.{le-leb, lt-leb}
use Rattle.replay.specs.Due.{part_of}
use Rattle.replay.proofs.list.bytes_of.Goals as goal

pub returns-then-to-from : goal.returns-then-to-from
unfolding part_of
returns-then-to-from c = rw (lt-leb _ _ c.if-to-from.true)

pub returns-then-list-to : goal.returns-then-list-to
unfolding part_of
returns-then-list-to c = rw (le-leb _ _ c.if-to-from.false, lt-leb _ _ c.if-list-to.true)

pub returns : goal.returns
unfolding part_of
returns c = rw (le-leb _ _ c.if-to-from.false, le-leb _ _ c.if-list-to.false)
