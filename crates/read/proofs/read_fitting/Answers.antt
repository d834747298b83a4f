-- `read::read_fitting` meets its contract.
-- Assumes nothing.
use mathlib.Core.Path.{◌≡◌, sym, ap, ◌∙◌, subst}
use native.Mathlib.Omega.{arith}
use Rattle.le.specs.Le.{Below}
use Rattle.le.proofs.Numbers.{below_each}
use Rattle.graph.specs.Answer.{answered}
use Rattle.graph.specs.Graph as graph
use Rattle.graph.specs.Graph.{form1}
use Rattle.graph.specs.Read.{read_in}
use Rattle.graph.specs.Versions.{format_numbered, fitting_sizes, fitting, read_fitting}
use Rattle.graph.proofs.Steps.{same_answer, stops, goes}
use Rattle.graph.proofs.Versions.{version1, version_known, fitting_version, same_width, version_passes, version_13, first_fits}
use Rattle.form.specs.Form.{meant, counts_of}
use Rattle.form.specs.declared.Sizes.{Sizes}
use Rattle.form.proofs.Answers.{passed_on, refused_so, answered_so}
use Rattle.read.specs.Steps.{measured}
use Rattle.read.proofs.read_fitting.Goals as goal

pub read_in-requires : goal.read_in-requires
read_in-requires c = (version_known _ _ c.requires.1).0.usable

pub returns-in_err-z : goal.returns-in_err-z
unfolding read_fitting
returns-in_err-z c =
    let a = c.args in
    rw (passed_on _ c.from_residual.ensures.1)
    (sym (ap (measured a.f.width) (stops _ (refused_so _ (read_in (meant a.f) a.src.now) _ c.in_err-z.ensures))))

pub returns-then-f-eq1 : goal.returns-then-f-eq1
returns-then-f-eq1 c =
    let a = c.args in
    let b = a.src.now in
    let first : meant a.f ≡ form1 = same_answer (sym c.requires.1 ∙ ap format_numbered c.if-f-eq1.true ∙ version1.found) in
    let bytes : Below 256 b = below_each 256 b (λ i l. omega (arith, c.type_inv.src i)) in
    let fits = subst (λ (k : graph.Format). read_fitting k b ≡ read_in k b) (sym first) (first_fits b bytes (c.requires.0 ∙ ap answered c.if-f-eq1.true)) in
    c.in_ok-z.ensures ∙ sym (ap (measured a.f.width) fits)

pub returns-then-fitting_width-z : goal.returns-then-fitting_width-z
unfolding read_fitting
returns-then-fitting_width-z c =
    let a = c.args in
    let g = answered_so _ (read_in (meant a.f) a.src.now) c.in_ok-z.z c.in_ok-z.ensures in
    let width : c.fitting_width.result ≡ (fitting g.0).width = c.fitting_width.ensures ∙ ap (λ (z : Sizes). (fitting_sizes (counts_of z) z.ports).width) g.2 in
    sym (ap (measured a.f.width)
    (goes _ g.1 ∙ version_13 g.0 (version_known _ _ c.requires.1).0 (λ e. c.if-fitting_width-z.true (width ∙ e ∙ sym (ap (λ (z : Sizes). z.width) g.2)))))

pub returns : goal.returns
unfolding read_fitting
returns c =
    let a = c.args in
    let g = answered_so _ (read_in (meant a.f) a.src.now) c.in_ok-z.z c.in_ok-z.ensures in
    let width : c.fitting_width.result ≡ (fitting g.0).width = c.fitting_width.ensures ∙ ap (λ (z : Sizes). (fitting_sizes (counts_of z) z.ports).width) g.2 in
    let fits = same_width (fitting_version g.0) (version_known _ _ c.requires.1).0 (sym width ∙ c.if-fitting_width-z.false ∙ ap (λ (z : Sizes). z.width) g.2) in
    c.in_ok-z.ensures ∙ ap (measured a.f.width) (g.1 ∙ sym (goes _ g.1 ∙ version_passes g.0 fits))
