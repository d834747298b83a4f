-- `amounts::put_amount` meets its contract.
-- Assumes nothing.
use Rattle.amounts.proofs.Texts.{printed_amount}
use Rattle.amounts.proofs.put_amount.Goals as goal

pub returns-clause-printed : goal.returns-clause-printed
returns-clause-printed c = printed_amount c.args.n c.put_number-whole.ensures.printed c.put_text-dot.ensures c.put_text.ensures
