-- `form::edge_at` meets its contract.
-- Assumes nothing.
use native.Mathlib.Omega.{arith}
use Rattle.form.specs.Form.{edge_in}
use Rattle.le.proofs.Rows.{holds_less, holds_index}
use Rattle.form.proofs.edge_at.Goals as goal

pub number-sources-requires : goal.number-sources-requires
number-sources-requires c = holds_less c.requires _ (omega arith)

pub overflow_add-k : goal.overflow_add-k
overflow_add-k c = omega (arith, holds_index c.requires)

pub number-targets-requires : goal.number-targets-requires
number-targets-requires c = holds_less c.requires _ (omega arith)

pub overflow_add-first : goal.overflow_add-first
overflow_add-first c = omega (arith, holds_index c.requires)

pub overflow_add-result : goal.overflow_add-result
overflow_add-result c = omega (arith, holds_index c.requires)

pub overflow_add-result-2 : goal.overflow_add-result-2
overflow_add-result-2 c = omega (arith, holds_index c.requires)

pub returns : goal.returns
unfolding edge_in
returns c = rw (c.number-sources.ensures.0, c.number-targets.ensures.0)
