-- `classes::same_label` meets its contract.
-- Assumes nothing.
use mathlib.Core.Path.{ap, ◌∙◌}
use native.Mathlib.Omega.{arith}
use lib.Dec.{eqb}
use Rattle.le.specs.Rows.{entry}
use Rattle.le.proofs.Rows.{holds_less}
use Rattle.classes.proofs.same_label.Goals as goal

pub number-requires : goal.number-requires
number-requires c = holds_less c.requires.1 _ (omega arith)

pub number-requires-2 : goal.number-requires-2
number-requires-2 c = holds_less c.requires.1 _ (omega arith)

pub returns : goal.returns
returns c =
    let a = c.args in
    λ i. eqb ((c.number.ensures.0 ∙ ap (entry a.src.now a.r) c.word-l.ensures) i) (c.number-2.ensures.0 i)
