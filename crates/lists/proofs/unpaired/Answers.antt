-- `lists::unpaired` meets its contract.
-- Assumes nothing.
use mathlib.Core.Path.{sym, ap, ◌∙◌}
use Rattle.form.specs.Form.{tested}
use Rattle.graph.proofs.Verdicts.{unpaired_8, unpaired_0}
use Rattle.lists.proofs.unpaired.Goals as goal

pub returns-then-z-ne0 : goal.returns-then-z-ne0
returns-then-z-ne0 c g e = sym (ap tested (unpaired_8 g (λ z. c.if-z-ne0.true (sym e ∙ z))))

pub returns : goal.returns
returns c g e = sym (ap tested (unpaired_0 g (e ∙ c.if-z-ne0.false)))
