-- `parts::add_part` meets its contract.
-- Assumes nothing.
use mathlib.Core.Path.{ap}
use Prim.Native.Nat.{◌-◌}
use native.Mathlib.Omega.{arith}
use Rattle.parts.specs.declared.KindRow.{KindRow}
use Rattle.catalogue.proofs.Bounds.{get_d_below, kind_few}
use Rattle.parts.proofs.add_part.Goals as goal
use Rattle.parts.proofs.add_part.Goals.{After-kind_row-row, Else-label-eq-SPIDER}

pub overflow_add-counts : goal.overflow_add-counts
overflow_add-counts c = omega (arith, get_d_below 16384 c.args.p.counts (omega arith) c.requires.counts (c.args.label - 1))

pub overflow_add-result : goal.overflow_add-result
overflow_add-result c = omega (arith, c.requires.total, ap (λ (r : KindRow). r.price) c.kind_row-row.ensures, kind_few c.args.label)
