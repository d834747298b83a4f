-- `build::step_at` meets its contract.
-- Assumes nothing.
use mathlib.Core.Path.{◌≡◌, sym, ap, ◌∙◌, subst}
use Prim.Native.Nat.{ℕ, ◌+◌, ◌*◌}
use native.Mathlib.Omega.{arith}
use lib.ListN.{get_or, drop}
use Rattle.std.specs.Prelude.{Result as Returned}
use Rattle.form.specs.Form.{meant_by}
use Rattle.form.specs.declared.Refusal.{Refusal}
use Rattle.graph.specs.Answer.{refused, refusal}
use Rattle.steps.specs.Steps.{read_step}
use Rattle.build.specs.Turns.{number_of, Finds, FoundStep}
use Rattle.build.specs.declared.StepAt.{StepAt}
use Rattle.build.proofs.Finding.{unknown, some, head_cut, lists_cut, whole}
use Rattle.build.proofs.Steps.{passed_on}
use Rattle.build.proofs.step_at.Goals as goal

pub returns-in_err-kind : goal.returns-in_err-kind
returns-in_err-kind c =
    let a = c.args in
    let x = c.in_err-kind.ensures in
    let is = unknown (get_or a.steps.now a.place 0) (drop (a.place + 1) a.steps.now) x.0 ∙ ap (λ (e : Refusal). refused (meant_by e)) (sym x.1) in
    subst (λ (r : Returned StepAt Refusal). Finds (read_step (get_or a.steps.now a.place 0) (drop (a.place + 1) a.steps.now)) r a.steps.now a.place) (sym (passed_on _ c.from_residual.ensures.1)) is

pub returns-then-left-n : goal.returns-then-left-n
returns-then-left-n c =
    let a = c.args in
    subst (λ (k : ℕ). read_step k (drop (a.place + 1) a.steps.now) ≡ refused (refusal 12)) c.in_ok-kind.ensures
    (head_cut (number_of c.in_ok-kind.kind) a.steps.now a.place c.requires (some c.in_ok-kind.kind) (omega (arith, c.head_numbers-n.ensures, c.if-left-n.true)))

pub returns-then-left-n-2 : goal.returns-then-left-n-2
returns-then-left-n-2 c =
    let a = c.args in
    let n = c.head_numbers-n.ensures in
    subst (λ (k : ℕ). read_step k (drop (a.place + 1) a.steps.now) ≡ refused (refusal 12)) c.in_ok-kind.ensures
    (lists_cut (number_of c.in_ok-kind.kind) a.steps.now a.place c.requires (some c.in_ok-kind.kind) (omega (arith, n, c.if-left-n.false)) c.first_count-first.result c.second_count-second.result c.first_count-first.ensures.0 c.second_count-second.ensures.0 (omega (arith, n, c.if-left-n-2.true)))

pub returns : goal.returns
returns c =
    let a = c.args in
    let b = a.steps.now in
    let n = c.head_numbers-n.ensures in
    let kind = c.in_ok-kind.kind in
    let x = c.first_count-first.result in
    let y = c.second_count-second.result in
    let at = a.place + 1 in
    subst (λ (k : ℕ). FoundStep (read_step k (drop at b)) b a.place (record { kind = kind; at = at; first = x; second = y; lists = at + 4 * c.head_numbers-n.result; end = at + 4 * c.head_numbers-n.result + 4 * (x + y) })) c.in_ok-kind.ensures
    (subst (λ (k : ℕ). FoundStep (read_step (number_of kind) (drop at b)) b a.place (record { kind = kind; at = at; first = x; second = y; lists = at + 4 * k; end = at + 4 * k + 4 * (x + y) })) (sym n)
    (whole kind b a.place c.requires (omega (arith, n, c.if-left-n.false)) x y c.first_count-first.ensures.0 c.second_count-second.ensures.0 c.first_count-first.ensures.1 c.second_count-second.ensures.1 (omega (arith, n, c.if-left-n-2.false))))
