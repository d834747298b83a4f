-- `lists::label_list` meets its contract.
-- Assumes nothing.
use borrow.Author.Tests.{eq-eqb, ne_eqb}
use Rattle.graph.specs.Answer.{◌else◌, ◌>>◌}
use Rattle.graph.specs.Calls.{label_list}
use Rattle.le.proofs.Numbers.{length_numbers}
use Rattle.lists.proofs.label_list.Goals as goal

pub returns-then-labels-ne0 : goal.returns-then-labels-ne0
unfolding label_list ◌else◌ ◌>>◌
returns-then-labels-ne0 c = rw (ne_eqb _ _ c.if-labels-ne0.true)

pub returns : goal.returns
unfolding label_list ◌else◌ ◌>>◌
returns c = rw (eq-eqb _ _ c.if-labels-ne0.false, length_numbers)
