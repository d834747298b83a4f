-- `pieces::put_rest` meets its contract.
-- Assumes nothing.
use mathlib.Core.Path.{refl}
use native.Mathlib.Omega.{arith}
use Rattle.le.proofs.Rows.{length_span, holds_index}
use Rattle.form.proofs.Drawn.{stored_in}
use Rattle.form.proofs.Stored.{stored_rows}
use Rattle.pieces.proofs.Held.{held}
use Rattle.pieces.proofs.put_rest.Goals as goal

pub body_row-requires : goal.body_row-requires
body_row-requires c = c.requires.0.low

pub copy_numbers-requires : goal.copy_numbers-requires
copy_numbers-requires c = (held c.requires.0.body _ c.body_row.ensures _ refl _ (omega arith), held (stored_rows (stored_in c.args.drawing)).body_held _ c.body.ensures _ refl _ (omega arith))

pub overflow_add-result : goal.overflow_add-result
overflow_add-result c = omega (arith, holds_index c.requires.0.body)

pub returns : goal.returns
returns c = record { stored = cc (c.copy_numbers.ensures, c.body_row.ensures, c.body.ensures); next = rw (length_span) (omega (arith, c.lists.ensures.0)) }
