-- `read::read_as` meets its contract.
-- Assumes nothing.
use mathlib.Core.Path.{sym, ap, ◌∙◌}
use Rattle.graph.specs.Read.{read_as}
use Rattle.graph.proofs.Steps.{stops}
use Rattle.graph.proofs.Verdicts.{alone_3, alone_in}
use Rattle.form.specs.Form.{meant}
use Rattle.form.proofs.Answers.{passed_on}
use Rattle.read.specs.Steps.{measured}
use Rattle.read.proofs.read_as.Goals as goal

pub returns-in_err-v : goal.returns-in_err-v
unfolding read_as
returns-in_err-v c = rw (passed_on _ c.from_residual.ensures.1) (sym (ap (measured c.args.f.width) (stops _ (sym c.in_err-v.ensures))))

pub returns-then-v-f : goal.returns-then-v-f
returns-then-v-f c =
    let a = c.args in
    sym (ap (measured a.f.width) (alone_3 (meant a.f) a.src.now c.in_ok-v.v (sym c.in_ok-v.ensures) c.if-v-f.true))

pub returns : goal.returns
returns c =
    let a = c.args in
    c.read_in.ensures ∙ sym (ap (measured a.f.width) (alone_in (meant a.f) a.src.now c.in_ok-v.v (sym c.in_ok-v.ensures) c.if-v-f.false))
