-- `ports::edge_index` meets its contract.
-- Assumes nothing.
use mathlib.Core.Path.{ap, ◌∙◌}
use native.Mathlib.Omega.{arith}
use Rattle.form.specs.declared.EdgeAt.{EdgeAt}
use Rattle.form.proofs.Drawn.{stored_in}
use Rattle.form.proofs.Stored.{edge_there}
use Rattle.ports.proofs.edge_index.Goals as goal

pub edge_at-e-requires : goal.edge_at-e-requires
edge_at-e-requires c = rw c.body-row.ensures (edge_there (stored_in c.args.drawing) _ _ (omega arith) c.loop-i.invariant.1).held

pub loop-i-preserved : goal.loop-i-preserved
loop-i-preserved c = (
  omega arith,
  ap (λ (e : EdgeAt). e.end) (rw c.body-row.ensures at c.edge_at-e.ensures ∙ (edge_there (stored_in c.args.drawing) _ _ (omega arith) c.loop-i.invariant.1).counts),
)
