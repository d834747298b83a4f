-- `open_hypergraph::put_singleton` meets its contract.
-- Assumes nothing.
use Rattle.le.specs.Rows.{row_at, span}
use Rattle.le.proofs.Rows.{length_span}
use Rattle.open_hypergraph.proofs.Forms.{singleton_drawn}
use Rattle.open_hypergraph.proofs.put_singleton.Goals as goal

pub returns : goal.returns
returns c =
    let a = c.args in
    let ss = span a.sources.now (row_at 0 4) 0 a.s in
    let ts = span a.targets.now (row_at 0 4) 0 a.t in
    rw (
      c.put_range-2.ensures,
      c.put_range.ensures,
      c.put_two.ensures,
      c.put_number.ensures,
      c.copy_numbers.ensures,
      c.put_head.ensures,
      c.body_row-body.ensures,
      c.label_row-labels.ensures,
    )
    (singleton_drawn a.out.now a.y a.label a.s a.t ss ts (length_span a.sources.now (row_at 0 4) 0 a.s) (length_span a.targets.now (row_at 0 4) 0 a.t))
