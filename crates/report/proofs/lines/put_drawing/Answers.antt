-- `report::lines::put_drawing` meets its contract.
-- Assumes nothing.
use mathlib.Core.Path.{sym}
use Rattle.le.specs.Rows.{row_at, span}
use Rattle.le.proofs.Rows.{length_span}
use Rattle.report.proofs.Texts.{printed_lines}
use Rattle.report.proofs.lines.put_drawing.Goals as goal

pub returns-clause-printed : goal.returns-clause-printed
returns-clause-printed c =
    let a = c.args in
    let row = row_at 0 a.z.width in
    printed_lines a.z.nodes a.z.edges a.z.ports a.ids a.free (span a.list.now row 0 a.ids) (sym (length_span a.list.now row 0 a.ids))
    c.put_text-sizes.ensures c.put_sizes-counts.ensures.printed c.put_counts-lines.ensures.printed c.put_ids.ensures.printed
