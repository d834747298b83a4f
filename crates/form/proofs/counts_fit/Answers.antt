-- `form::counts_fit` meets its contract.
-- Assumes nothing.
use borrow.Author.Tests.{le-leb, lt-leb}
use Rattle.form.proofs.counts_fit.Goals as goal

pub returns-then-f-z : goal.returns-then-f-z
returns-then-f-z c = rw (lt-leb _ _ c.if-f-z.true)

pub returns-then-f-z-2 : goal.returns-then-f-z-2
returns-then-f-z-2 c = rw (le-leb _ _ c.if-f-z.false, lt-leb _ _ c.if-f-z-2.true)

pub returns-then-f-z-3 : goal.returns-then-f-z-3
returns-then-f-z-3 c = rw (le-leb _ _ c.if-f-z.false, le-leb _ _ c.if-f-z-2.false, lt-leb _ _ c.if-f-z-3.true)

pub returns-then-f-z-4 : goal.returns-then-f-z-4
returns-then-f-z-4 c =
    rw (le-leb _ _ c.if-f-z.false, le-leb _ _ c.if-f-z-2.false, le-leb _ _ c.if-f-z-3.false, lt-leb _ _ c.if-f-z-4.true)

pub returns : goal.returns
returns c =
    rw (le-leb _ _ c.if-f-z.false, le-leb _ _ c.if-f-z-2.false, le-leb _ _ c.if-f-z-3.false, le-leb _ _ c.if-f-z-4.false)
