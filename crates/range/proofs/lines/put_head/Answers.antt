-- `range::lines::put_head` meets its contract.
-- Assumes nothing.
use Rattle.text.specs.Text.{ascii, field}
use Rattle.range.proofs.Texts.{printed_3}
use Rattle.range.proofs.lines.put_head.Goals as goal

pub returns-clause-printed : goal.returns-clause-printed
returns-clause-printed c =
    printed_3 (field "drawings " c.args.drawings) (field " priced " c.args.priced) (ascii "\n") c.put_field-all.ensures.printed c.put_field-some.ensures.printed c.put_text.ensures
