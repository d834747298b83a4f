-- `range::lines::put_refused` meets its contract.
-- Assumes nothing.
use mathlib.Core.Bool.{Bool, cond}
use mathlib.Core.List.{[], ◌++◌}
use mathlib.Core.Path.{sym, subst}
use borrow.Author.Tests.{ne_eqb}
use Rattle.amounts.specs.Amounts.{count_of}
use Rattle.text.specs.Text.{ascii, field, Printed}
use Rattle.range.proofs.Texts.{printed_3}
use Rattle.range.proofs.lines.put_refused.Goals as goal

pub returns-clause-printed : goal.returns-clause-printed
returns-clause-printed c =
    let a = c.args in
    let n = count_of a.refusals.now a.no in
    let end = c.put_text in
    subst (λ (t : Bool). Printed a.out.now a.at (cond t [] (field "refused by " a.no ++ field ": " n ++ ascii "\n")) end.new.out end.result) (sym (ne_eqb n 0 c.if-count-eq0.false))
    (printed_3 (field "refused by " a.no) (field ": " n) (ascii "\n") c.put_field-named.ensures.printed c.put_field-counted.ensures.printed end.ensures)
