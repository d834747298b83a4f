-- `queue::key_at` meets its contract.
-- Assumes nothing.
use native.Mathlib.Omega.{arith}
use Rattle.queue.specs.Places.{key_at}
use Rattle.queue.proofs.key_at.Goals as goal

pub returns : goal.returns
unfolding key_at
returns c = omega (arith, c.word-low.ensures, c.word-high.ensures)
