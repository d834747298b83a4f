-- `read::read_in` meets its contract.
-- Assumes nothing.
use mathlib.Core.Path.{sym, ap, ◌∙◌, subst}
use Prim.Native.Nat.{◌≤◌}
use lib.ListN.{length, drop}
use Rattle.form.specs.Form.{meant, counts_of}
use Rattle.form.specs.declared.Format.{Format}
use Rattle.graph.specs.Form.{header_bytes}
use Rattle.graph.specs.Graph.{Within, Usable}
use Rattle.graph.specs.Read.{read_counts, read_body, read_in}
use Rattle.graph.proofs.Steps.{stops, goes}
use Rattle.graph.proofs.ReadWrite.{counts_passed}
use Rattle.form.proofs.Answers.{passed_on, refused_so}
use Rattle.read.specs.Steps.{measured}
use Rattle.read.proofs.Whole.{head_read}
use Rattle.read.proofs.read_in.Goals as goal

pub returns-in_err-z : goal.returns-in_err-z
unfolding read_in
returns-in_err-z c =
    let a = c.args in
    rw (passed_on _ c.from_residual.ensures.1)
    (sym (ap (measured a.f.width) (stops _ (refused_so _ (read_counts (meant a.f) a.s.now) _ c.in_err-z.ensures))))

pub read_body-requires : goal.read_body-requires
read_body-requires c =
    let a = c.args in
    let z = counts_of c.in_ok-z.z in
    let p = counts_passed (meant a.f) a.s.now z (head_read _ _ c.in_ok-z.z c.in_ok-z.ensures) in
    subst (λ (f : Format). (header_bytes (meant f) ≤ length a.s.now) × Within (meant f) z × Usable (meant f)) (sym c.known_width.ensures) (p.0, p.1, c.requires)

pub returns : goal.returns
unfolding read_in
returns c =
    let a = c.args in
    let z = counts_of c.in_ok-z.z in
    c.read_body.ensures ∙ ap (λ (f : Format). measured f.width (read_body (meant f) (length a.s.now) z (drop (header_bytes (meant f)) a.s.now))) c.known_width.ensures
    ∙ sym (ap (measured a.f.width) (goes _ (head_read _ _ c.in_ok-z.z c.in_ok-z.ensures)))
