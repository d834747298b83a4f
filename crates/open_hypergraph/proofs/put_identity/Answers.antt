-- `open_hypergraph::put_identity` meets its contract.
-- Assumes nothing.
use Rattle.le.specs.Rows.{row_at, span}
use Rattle.le.proofs.Rows.{length_span}
use Rattle.open_hypergraph.proofs.Forms.{identity_drawn}
use Rattle.open_hypergraph.proofs.put_identity.Goals as goal

pub returns : goal.returns
returns c =
    let a = c.args in
    let l = span a.labels.now (row_at 0 4) 0 a.n in
    cc (identity_drawn a.out.now a.y a.n l (length_span a.labels.now (row_at 0 4) 0 a.n))
