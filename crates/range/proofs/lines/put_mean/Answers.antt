-- `range::lines::put_mean` meets its contract.
-- Assumes nothing.
use Rattle.amounts.specs.Amounts.{amount}
use Rattle.text.specs.Text.{ascii, field}
use Rattle.range.proofs.Texts.{printed_4}
use Rattle.range.proofs.lines.put_mean.Goals as goal

pub returns-clause-printed : goal.returns-clause-printed
returns-clause-printed c =
    let m = c.args.mean in
    printed_4 (ascii "mean ") (amount m.whole) (field " remainder " m.rest) (ascii "\n")
    c.put_text-named.ensures c.put_amount-whole.ensures.printed c.put_field-rest.ensures.printed c.put_text.ensures
