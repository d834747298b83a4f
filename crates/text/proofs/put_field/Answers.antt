-- `text::put_field` meets its contract.
-- Assumes nothing.
use Rattle.text.specs.Text.{decimal}
use Rattle.text.proofs.Texts.{printed_then}
use Rattle.text.proofs.put_field.Goals as goal

pub returns-clause-printed : goal.returns-clause-printed
returns-clause-printed c = printed_then c.args.word.now (decimal c.args.n) c.put_text-next.ensures c.put_number.ensures.printed
