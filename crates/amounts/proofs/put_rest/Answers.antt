-- `amounts::put_rest` meets its contract.
-- Assumes nothing.
use Rattle.amounts.proofs.Texts.{printed_rest}
use Rattle.amounts.proofs.put_rest.Goals as goal

pub returns-clause-printed : goal.returns-clause-printed
returns-clause-printed c =
    printed_rest c.args.count c.args.cost c.put_field-counted.ensures.printed c.put_text-space.ensures c.put_amount-costs.ensures.printed c.put_text.ensures
