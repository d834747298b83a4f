-- `range::lines::put_refusals` meets its contract.
-- Assumes nothing.
use mathlib.Core.Path.{◌≡◌, subst}
use Prim.Native.Nat.{ℕ, ◌-◌}
use native.Mathlib.Omega.{arith}
use Rattle.graph.specs.Lists.{joined, range}
use Rattle.text.specs.Text.{Printed}
use Rattle.amounts.proofs.Texts.{printed_more}
use Rattle.range.specs.Glance.{refusal_line}
use Rattle.range.proofs.lines.put_refusals.Goals as goal

pub loop-no-preserved : goal.loop-no-preserved
loop-no-preserved c =
    let l = c.loop-no in
    let p = c.put_refused-next.ensures in
    (omega arith, printed_more (refusal_line c.args.refusals.now) l.no l.invariant.0 l.invariant.1 p.printed, omega (arith, p.upper_bound, l.invariant.2))

pub returns-clause-printed : goal.returns-clause-printed
returns-clause-printed c =
    let l = c.loop-no in
    subst (λ (n : ℕ). Printed c.args.out.now c.args.at (joined (refusal_line c.args.refusals.now) (range 1 n)) l.out l.next) (let all : l.no - 1 ≡ 17 = omega arith in all) l.invariant.1
