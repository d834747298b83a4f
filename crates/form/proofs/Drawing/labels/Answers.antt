-- `form::Drawing::labels` meets its contract.
-- Assumes nothing.
use Rattle.form.proofs.Drawn.{stored_in}
use Rattle.form.proofs.Stored.{stored_rows}
use Rattle.form.proofs.Drawing.labels.Goals as goal

pub label_row-requires : goal.label_row-requires
label_row-requires c = (stored_rows (stored_in c.args.self)).low
