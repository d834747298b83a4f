-- `form::fitting_width` meets its contract.
-- Assumes nothing.
use mathlib.Core.Path.{sym, ap, ◌∙◌}
use Prim.Native.Nat.{ℕ}
use Rattle.graph.specs.Graph.{Format, sizes_fit}
use Rattle.graph.proofs.Versions.{fitting_first, fitting_second}
use Rattle.form.specs.Form.{counts_of}
use Rattle.form.proofs.fitting_width.Goals as goal

abbrev width : Format → ℕ
width f = f.width

pub returns-then-sizes_fit : goal.returns-then-sizes_fit
returns-then-sizes_fit c =
    let z = c.args.z in
    let fits = ap (λ (f : Format). sizes_fit f (counts_of z) z.ports) (sym c.form1.ensures) in
    ap width (c.form1-then-sizes_fit.ensures ∙ sym (fitting_first (counts_of z) z.ports (fits ∙ sym c.sizes_fit.ensures ∙ c.if-sizes_fit.true)))

pub returns-else-sizes_fit : goal.returns-else-sizes_fit
returns-else-sizes_fit c =
    let z = c.args.z in
    let fits = ap (λ (f : Format). sizes_fit f (counts_of z) z.ports) (sym c.form1.ensures) in
    ap width (c.form2.ensures ∙ sym (fitting_second (counts_of z) z.ports (fits ∙ sym c.sizes_fit.ensures ∙ c.if-sizes_fit.false)))
