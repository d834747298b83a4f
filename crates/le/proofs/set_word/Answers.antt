-- `le::set_word` meets its contract.
-- Assumes nothing.
use mathlib.Core.Path.{◌∙◌, ap}
use native.Mathlib.Omega.{arith}
use Rattle.le.specs.Le.{words}
use Rattle.le.proofs.Places.{set_words}
use Rattle.le.proofs.set_word.Goals as goal

pub returns : goal.returns
returns c = let a = c.args in
    ap words c.put4.ensures ∙ set_words a.room.now a.i a.v (omega arith) (omega arith)
