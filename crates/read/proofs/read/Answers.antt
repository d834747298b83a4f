-- `read::read` meets its contract.
-- Assumes nothing.
use native.Mathlib.Omega.{arith}
use Rattle.form.proofs.Answers.{passed_on}
use Rattle.form.proofs.Stored.{stored_bytes, stored_rows}
use Rattle.read.proofs.read.Goals as goal

pub returns-in_err-sizes-clause-sizes : goal.returns-in_err-sizes-clause-sizes
returns-in_err-sizes-clause-sizes c = rw (passed_on _ c.from_residual.ensures.1) c.in_err-sizes.ensures

pub invariant_of-result : goal.invariant_of-result
invariant_of-result c =
    let l = (stored_rows (stored_bytes c.in_ok-sizes.ensures c.type_inv.src)).low in
    record {
      is_read = c.in_ok-sizes.ensures;
      are_bytes = λ i. omega (arith, c.type_inv.src i);
      few = (l.narrow, l.nodes, l.edges, l.ports, l.sources, l.targets, l.pairs);
    }
