-- `reasons::put_chosen` meets its contract.
-- Assumes nothing.
use mathlib.Core.Path.{◌∙◌}
use mathlib.Core.List.{[], ◌∷◌}
use Rattle.reasons.specs.Told.{entered}
use Rattle.reasons.proofs.put_chosen.Goals as goal

pub returns : goal.returns
returns c =
    let a = c.args in
    c.put_reason.ensures ∙ (λ i. entered a.out.now a.best (0 ∷ a.stage ∷ c.word-ins.ensures i ∷ c.word-outs.ensures i ∷ []))
