-- `edges::read_edges` meets its contract.
-- Assumes nothing.
use mathlib.Core.Path.{sym, ◌∙◌}
use native.Mathlib.Nat.{le_antisymm}
use native.Mathlib.Omega.{arith}
use borrow.Author.Rules.{rules}
use Rattle.form.specs.Form.{meant}
use Rattle.form.proofs.Answers.{passed_on}
use Rattle.edges.specs.Steps.{meant_stop}
use Rattle.edges.proofs.Edge.{one_more, stopped, ended, begun}
use Rattle.edges.proofs.read_edges.Goals as goal

pub loop-i-init : goal.loop-i-init
loop-i-init c = (omega arith, begun (meant c.args.f) c.args.s.now c.args.start (search rules))

pub returns-in_err-reached : goal.returns-in_err-reached
returns-in_err-reached c =
    let a = c.args in
    let l = c.loop-i in
    let e = c.in_err-reached in
    rw (passed_on e.field-0.0 c.from_residual.ensures.1) (
      e.ensures.0,
      λ labels n. stopped (meant a.f) a.s.now a.start l.reached.at l.reached.ports l.reached.bound l.i l.invariant.1
          (meant_stop (meant a.f) a.s.now e.field-0.0) e.ensures.1 labels (omega arith),
    )

pub loop-i-preserved : goal.loop-i-preserved
loop-i-preserved c =
    let a = c.args in
    let l = c.loop-i in
    let e = c.in_ok-reached in
    (omega arith, one_more (meant a.f) a.s.now a.start l.reached.at l.reached.ports l.reached.bound l.i l.invariant.1 e.reached e.ensures.1)

pub returns : goal.returns
returns c =
    let a = c.args in
    let l = c.loop-i in
    let e = le_antisymm l.invariant.0 c.loop-i-test.false in
    (tt, λ labels n. ended (meant a.f) a.s.now a.start l.reached.at l.reached.ports l.reached.bound l.i l.invariant.1 labels (n ∙ sym e))
