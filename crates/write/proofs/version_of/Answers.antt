-- `write::version_of` meets its contract.
-- Assumes nothing.
use mathlib.Core.Path.{◌≡◌, sym, ap, ◌∙◌}
use Rattle.graph.specs.Graph.{Format}
use Rattle.write.proofs.Results.{narrow_first, wide_second}
use Rattle.write.proofs.version_of.Goals as goal

width : {f k : Format} → f ≡ k → f.width ≡ k.width
width e = ap (λ (f : Format). f.width) e

pub returns-then-y-form1 : goal.returns-then-y-form1
returns-then-y-form1 c =
    let first = narrow_first c.args.y c.requires (c.if-y-form1.true ∙ width c.form1.ensures) in
    ap (λ (f : Format). f.version) (c.form1-then-y-form1.ensures ∙ sym first)

pub returns-else-y-form1 : goal.returns-else-y-form1
returns-else-y-form1 c =
    let second = wide_second c.args.y c.requires (λ e. c.if-y-form1.false (e ∙ sym (width c.form1.ensures))) in
    ap (λ (f : Format). f.version) (c.form2.ensures ∙ sym second)
