-- `le::word` meets its contract.
-- Assumes nothing.
use mathlib.Core.Path.{◌∙◌, sym}
use native.Mathlib.Omega.{arith}
use Rattle.le.proofs.Places.{get_d_words}
use Rattle.le.proofs.word.Goals as goal

pub returns : goal.returns
returns c = let a = c.args in
    c.get4.ensures ∙ sym (get_d_words a.room.now a.i (omega arith))
