-- `range::lines::put_sum` meets its contract.
-- Assumes nothing.
use Rattle.amounts.specs.Amounts.{amount}
use Rattle.text.specs.Text.{ascii}
use Rattle.range.proofs.Texts.{printed_3}
use Rattle.range.proofs.lines.put_sum.Goals as goal

pub returns-clause-printed : goal.returns-clause-printed
returns-clause-printed c = printed_3 (ascii "sum ") (amount c.args.sum) (ascii "\n") c.put_text-named.ensures c.put_amount-costs.ensures.printed c.put_text.ensures
