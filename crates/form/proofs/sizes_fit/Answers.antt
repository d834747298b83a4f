-- `form::sizes_fit` meets its contract.
-- Assumes nothing.
use mathlib.Core.Bool.{and-false, and-true}
use mathlib.Core.Path.{◌∙◌}
use borrow.Author.Tests.{le-leb, lt-leb}
use Rattle.form.proofs.sizes_fit.Goals as goal

pub returns-then-f-z : goal.returns-then-f-z
returns-then-f-z c = simp (lt-leb _ _ c.if-f-z.true, and-false)

pub returns : goal.returns
returns c = c.counts_fit.ensures ∙ simp (le-leb _ _ c.if-f-z.false, and-true)
