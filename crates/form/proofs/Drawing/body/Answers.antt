-- `form::Drawing::body` meets its contract.
-- Assumes nothing.
use Rattle.form.proofs.Drawn.{stored_in}
use Rattle.form.proofs.Stored.{stored_rows}
use Rattle.form.proofs.Drawing.body.Goals as goal

pub body_row-requires : goal.body_row-requires
body_row-requires c = (stored_rows (stored_in c.args.self)).low
