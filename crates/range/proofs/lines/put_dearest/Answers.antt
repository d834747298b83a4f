-- `range::lines::put_dearest` meets its contract.
-- Assumes nothing.
use mathlib.Core.Bool.{Bool, cond}
use mathlib.Core.List.{[], ◌++◌}
use mathlib.Core.Path.{sym, subst}
use borrow.Author.Tests.{ne_eqb}
use Rattle.text.specs.Text.{ascii, field, Printed}
use Rattle.text.proofs.Texts.{printed_then}
use Rattle.range.proofs.lines.put_dearest.Goals as goal

pub returns-clause-printed : goal.returns-clause-printed
returns-clause-printed c =
    let a = c.args in
    let end = c.put_text in
    subst (λ (t : Bool). Printed a.out.now a.at (cond t [] (field "dearest " a.index ++ ascii "\n")) end.new.out end.result) (sym (ne_eqb a.index 4294967295 c.if-index-eq-NO_DRAWING.false))
    (printed_then (field "dearest " a.index) (ascii "\n") c.put_field-named.ensures.printed end.ensures)
