-- `report::lines::put_id` meets its contract.
-- Assumes nothing.
use Rattle.text.specs.Text.{ascii, decimal}
use Rattle.text.proofs.Texts.{printed_then}
use Rattle.report.proofs.lines.put_id.Goals as goal

pub returns-clause-printed : goal.returns-clause-printed
returns-clause-printed c = printed_then (decimal c.args.id) (ascii "\n") c.put_number-after.ensures.printed c.put_text.ensures
