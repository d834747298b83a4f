-- `report::lines::put_counts` meets its contract.
-- Assumes nothing.
use mathlib.Core.List.{◌++◌}
use Rattle.text.specs.Text.{ascii, field}
use Rattle.text.proofs.Texts.{printed_then}
use Rattle.report.proofs.lines.put_counts.Goals as goal

pub returns-clause-printed : goal.returns-clause-printed
returns-clause-printed c =
    let cut = field "cut " c.args.ids in
    let free = field " free " c.args.free in
    let both = printed_then cut free c.put_field-cut.ensures.printed c.put_field-freed.ensures.printed in
    printed_then (cut ++ free) (ascii "\n") both c.put_text.ensures
