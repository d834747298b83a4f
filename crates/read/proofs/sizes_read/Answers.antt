-- `read::sizes_read` meets its contract.
-- Assumes nothing.
use mathlib.Core.Path.{sym, ap, ◌∙◌}
use Rattle.form.specs.Form.{meant, reading}
use Rattle.graph.specs.Answer.{answered}
use Rattle.graph.specs.Versions.{format_numbered, read_fitting, read}
use Rattle.header.specs.Header.{coded}
use Rattle.form.proofs.Answers.{passed_on, refused_so}
use Rattle.graph.proofs.Steps.{stops, goes}
use Rattle.graph.proofs.Versions.{version_known}
use Rattle.read.proofs.Whole.{version_read, measured_in}
use Rattle.read.proofs.sizes_read.Goals as goal

pub returns-in_err-v : goal.returns-in_err-v
unfolding read
returns-in_err-v c = rw (passed_on _ c.from_residual.ensures.1) (sym (ap reading (stops _ (sym c.in_err-v.ensures))))

pub returns-in_err-f : goal.returns-in_err-f
unfolding read
returns-in_err-f c =
    rw (passed_on _ c.from_residual-in_err-f.ensures.1)
    (sym (ap reading (goes _ (sym c.in_ok-v.ensures) ∙ stops _ (refused_so coded (format_numbered c.in_ok-v.v) _ c.in_err-f.ensures))))

pub read_fitting-requires : goal.read_fitting-requires
read_fitting-requires c =
    let known = version_known _ _ (version_read _ c.in_ok-f.f c.in_ok-f.ensures) in
    (sym c.in_ok-v.ensures ∙ ap answered (sym known.1), known.0.found)

pub returns : goal.returns
unfolding read
returns c =
    let v = version_read _ c.in_ok-f.f c.in_ok-f.ensures in
    let f = meant c.in_ok-f.f in
    let b = c.args.src.now in
    c.read_fitting.ensures ∙ measured_in f (read_fitting f b) ∙ sym (ap reading (goes _ (sym c.in_ok-v.ensures) ∙ goes _ v))
