-- `range::lines::put_report` meets its contract.
-- Assumes nothing.
use Rattle.text.proofs.Texts.{printed_then}
use Rattle.range.specs.Lines.{front_text, back_text}
use Rattle.range.proofs.lines.put_report.Goals as goal

pub returns-clause-printed : goal.returns-clause-printed
returns-clause-printed c = printed_then (front_text c.args.t) (back_text c.args.t) c.put_front-front.ensures.printed c.put_back.ensures.printed
