-- `edges::refusal_at` meets its contract.
-- Assumes nothing.
use mathlib.Core.Path.{◌∙◌, ap, subst, sym}
use Prim.Native.Nat.{ℕ}
use Rattle.std.specs.Prelude.{Err}
use Rattle.graph.specs.Answer.{◌carrying◌}
use Rattle.form.specs.Form.{meant, meant_by}
use Rattle.edges.specs.Steps.{meant_stop, CountsThere}
use Rattle.edges.specs.declared.Stop.{Stop}
use Rattle.edges.proofs.Small.{small}
use Rattle.edges.proofs.refusal_at.Goals as goal

pub count_over-requires : goal.count_over-requires
count_over-requires c =
    let a = c.args in
    let there = subst (λ (e : Stop). CountsThere a.f.width a.s.now (Err e)) c.in-Over.is c.requires.0 in
    (record { wide = c.requires.1.width; inside = there }, (small c.requires.1).ports)

pub returns-in-Over : goal.returns-in-Over
returns-in-Over c =
    let a = c.args in
    ap (λ (p : ℕ). 4 carrying p) c.count_over.ensures ∙ sym (ap (meant_stop (meant a.f) a.s.now) c.in-Over.is)

pub returns-in-Refused : goal.returns-in-Refused
returns-in-Refused c = let a = c.args in sym (ap (meant_stop (meant a.f) a.s.now) c.in-Refused.is)
