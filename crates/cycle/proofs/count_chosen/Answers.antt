-- `cycle::count_chosen` meets its contract.
-- Assumes nothing.
use native.Mathlib.Omega.{arith}
use Rattle.form.proofs.Stored.{stored_rows}
use Rattle.le.specs.Rows.{span}
use Rattle.cycle.proofs.Begin.{drawn}
use Rattle.cycle.proofs.Counted.{none_kept_answers, chosen_counted}
use Rattle.form.proofs.Drawn.{stored_in}
use Rattle.cycle.proofs.count_chosen.Goals as goal

pub flag_nodes-requires-clause-kept_ids : goal.flag_nodes-requires-clause-kept_ids
unfolding span
flag_nodes-requires-clause-kept_ids c = (record { wide = (stored_rows (stored_in c.args.drawing)).low.width; inside = omega arith }, tt)

pub returns-in_default : goal.returns-in_default
unfolding span
returns-in_default c = absurd (none_kept_answers (drawn c.args.drawing) c.in_default.ensures)

pub overflow_sub-result : goal.overflow_sub-result
unfolding span
overflow_sub-result c = omega (arith, chosen_counted (drawn c.args.drawing) c.in-Ok.ensures)

pub returns : goal.returns
unfolding span
returns c = omega (arith, chosen_counted (drawn c.args.drawing) c.in-Ok.ensures)
