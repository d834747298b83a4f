-- `loops::lower_live` meets its contract.
-- Assumes nothing.
use mathlib.Core.Path.{sym, ◌∙◌}
use Rattle.le.specs.Le.{words}
use Rattle.loops.proofs.Next.{lower_kept, lower_gone, lower_taken}
use Rattle.loops.proofs.lower_live.Goals as goal

pub returns-then-best-v : goal.returns-then-best-v
returns-then-best-v c = let a = c.args in lower_kept (words a.room.now) a.best a.v c.if-best-v.true

pub returns-then-word-eq0 : goal.returns-then-word-eq0
returns-then-word-eq0 c =
    let a = c.args in
    lower_gone (words a.room.now) a.best a.v (sym c.word.ensures ∙ c.if-word-eq0.true)

pub returns : goal.returns
returns c =
    let a = c.args in
    lower_taken (words a.room.now) a.best a.v c.if-best-v.false (λ z. c.if-word-eq0.false (c.word.ensures ∙ z))
