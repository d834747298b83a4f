-- `text::put_refused` meets its contract.
-- Assumes nothing.
use Rattle.text.specs.Text.{ascii, field}
use Rattle.text.proofs.Texts.{printed_then}
use Rattle.text.proofs.put_refused.Goals as goal

pub returns-clause-printed : goal.returns-clause-printed
returns-clause-printed c = printed_then (field "refused " c.args.no) (ascii "\n") c.put_field-next.ensures.printed c.put_text.ensures
