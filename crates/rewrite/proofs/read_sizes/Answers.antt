-- `rewrite::read_sizes` meets its contract.
-- Assumes nothing.
use native.Mathlib.Omega.{arith}
use Rattle.graph.specs.Answer.{◌>>=◌}
use Rattle.form.proofs.Answers.{gives_passed}
use Rattle.form.proofs.Drawn.{stored_in}
use Rattle.form.proofs.Stored.{unread, stored_rows, stored_bytes}
use Rattle.rewrite.proofs.Ways.{sizes_10, sizes_0}
use Rattle.rewrite.proofs.read_sizes.Goals as goal

pub returns-in_err-drawing : goal.returns-in_err-drawing
unfolding ◌>>=◌
returns-in_err-drawing c = gives_passed _ _ c.from_residual.ensures.1 (rw (unread _ _ c.in_err-drawing.ensures.sizes))

pub returns-then-out-lt-SIZES_BYTES : goal.returns-then-out-lt-SIZES_BYTES
returns-then-out-lt-SIZES_BYTES c = sizes_10 (stored_bytes c.in_ok-drawing.ensures.sizes c.type_inv.src) c.args.out.now (omega arith)

pub put_sizes-requires : goal.put_sizes-requires
put_sizes-requires c = ((stored_rows (stored_in c.in_ok-drawing.drawing)).low, omega arith)

pub returns : goal.returns
returns c = sizes_0 (stored_bytes c.in_ok-drawing.ensures.sizes c.type_inv.src) c.args.out.now (omega arith) _ c.put_sizes.ensures
