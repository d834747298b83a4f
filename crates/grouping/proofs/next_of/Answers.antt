-- `grouping::next_of` meets its contract.
-- Assumes nothing.
use Rattle.grouping.proofs.next_of.Goals as goal

pub returns : goal.returns
returns c = c.word.ensures
