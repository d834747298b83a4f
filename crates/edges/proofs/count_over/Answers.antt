-- `edges::count_over` meets its contract.
-- Assumes nothing.
use borrow.Author.Tests.{lt-ltb, le-ltb}
use Rattle.edges.proofs.count_over.Goals as goal

pub returns-then-limit-number_at : goal.returns-then-limit-number_at
returns-then-limit-number_at c = let e = c.number_at.ensures.0 in rw (← e, lt-ltb _ _ c.if-limit-number_at.true)

pub returns : goal.returns
returns c = let e = c.number_at.ensures.0 in rw (← e, le-ltb _ _ c.if-limit-number_at.false)
