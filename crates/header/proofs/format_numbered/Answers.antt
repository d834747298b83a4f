-- `header::format_numbered` meets its contract.
-- Assumes nothing.
use mathlib.Core.Path.{sym, ap, ◌∙◌}
use Rattle.form.specs.declared.Format.{Format}
use Rattle.graph.specs.Answer.{answered}
use Rattle.graph.specs.Versions.{format_numbered}
use Rattle.graph.proofs.Verdicts.{format_3}
use Rattle.graph.proofs.Versions.{version1, version2}
use Rattle.header.specs.Header.{coded, versioned}
use Rattle.header.proofs.format_numbered.Goals as goal

pub returns-then-version-eq1 : goal.returns-then-version-eq1
returns-then-version-eq1 c = ap answered (ap coded c.form1.ensures) ∙ ap versioned (sym (ap format_numbered c.if-version-eq1.true ∙ version1.found))

pub returns-then-version-eq2 : goal.returns-then-version-eq2
returns-then-version-eq2 c = ap answered (ap coded c.form2.ensures) ∙ ap versioned (sym (ap format_numbered c.if-version-eq2.true ∙ version2.found))

pub returns : goal.returns
returns c = sym (ap versioned (format_3 _ c.if-version-eq1.false c.if-version-eq2.false))
