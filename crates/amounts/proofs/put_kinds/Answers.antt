-- `amounts::put_kinds` meets its contract.
-- Assumes nothing.
use mathlib.Core.Path.{◌≡◌, subst}
use Prim.Native.Nat.{ℕ, ◌-◌}
use native.Mathlib.Omega.{arith}
use Rattle.graph.specs.Lists.{joined, range}
use Rattle.text.specs.Text.{Printed}
use Rattle.amounts.specs.Amounts.{kind_line}
use Rattle.amounts.proofs.Texts.{printed_more}
use Rattle.amounts.proofs.put_kinds.Goals as goal

pub loop-label-preserved : goal.loop-label-preserved
loop-label-preserved c =
    let l = c.loop-label in
    let p = c.put_kind-next.ensures in
    (omega arith, printed_more (kind_line c.args.counts.now) l.label l.invariant.0 l.invariant.1 p.printed, omega (arith, p.upper_bound, l.invariant.2))

pub returns-clause-printed : goal.returns-clause-printed
returns-clause-printed c =
    let l = c.loop-label in
    subst (λ (n : ℕ). Printed c.args.out.now c.args.at (joined (kind_line c.args.counts.now) (range 1 n)) l.out l.next) (let all : l.label - 1 ≡ 12 = omega arith in all) l.invariant.1
