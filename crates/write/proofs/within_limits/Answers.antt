-- `write::within_limits` meets its contract.
-- Assumes nothing.
use mathlib.Core.Path.{sym, ap, ◌∙◌}
use Rattle.graph.specs.Graph.{Format, sizes_fit}
use Rattle.form.specs.Form.{counts_of}
use Rattle.write.proofs.Results.{narrow_fits}
use Rattle.write.proofs.within_limits.Goals as goal

pub returns-then-y-form1 : goal.returns-then-y-form1
returns-then-y-form1 c = sym (narrow_fits _ c.requires (c.if-y-form1.true ∙ ap (λ (f : Format). f.width) c.form1.ensures))

pub returns : goal.returns
returns c =
    let y = c.args.y in
    c.sizes_fit.ensures ∙ ap (λ (f : Format). sizes_fit f (counts_of y) y.ports) c.form2.ensures
