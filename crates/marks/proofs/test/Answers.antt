-- `marks::test` meets its contract.
-- Assumes nothing.
use Rattle.std.proofs.Common.{Bool, sym, ap, ◌∙◌}
use Rattle.choice.specs.Arcs.{bump}
use Rattle.marks.proofs.Tables.{tested_yes, tested_no}
use Rattle.marks.proofs.test.Goals as goal

pub returns-then-not-is_loose : goal.returns-then-not-is_loose
returns-then-not-is_loose c =
    let e = sym c.is_loose.ensures ∙ c.if-not-is_loose.true in
    (sym (ap (λ (b : Bool). bump b 0) e), sym (tested_no _ _ e))

pub returns : goal.returns
returns c =
    let e = sym c.is_loose.ensures ∙ c.if-not-is_loose.false in
    (sym (ap (λ (b : Bool). bump b 0) e), sym (tested_yes _ _ e))
