-- `reasons::raise` meets its contract.
-- Assumes nothing.
use mathlib.Core.Path.{sym, ◌∙◌}
use Rattle.le.specs.Le.{words}
use Rattle.reasons.proofs.Ends.{raised_kept, raised_set}
use Rattle.reasons.proofs.raise.Goals as goal

pub returns-then-word-ne0 : goal.returns-then-word-ne0
returns-then-word-ne0 c =
    let a = c.args in
    raised_kept a.x (words a.room.now) (λ e. c.if-word-ne0.true (c.word.ensures ∙ e))

pub returns : goal.returns
returns c =
    let a = c.args in
    c.set_word.ensures ∙ raised_set a.x (words a.room.now) (sym c.word.ensures ∙ c.if-word-ne0.false)
