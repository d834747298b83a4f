-- `le::number` meets its contract.
-- Assumes nothing.
use mathlib.Core.Path.{sym, ap, ◌∙◌}
use Prim.Native.Nat.{ℕ, ◌+◌, ◌*◌}
use native.Mathlib.Omega.{arith}
use borrow.Author.Rules.{rules}
use Rattle.le.specs.Le.{number_at}
use Rattle.le.specs.Rows.{entry}
use Rattle.le.proofs.Rows.{four}
use Rattle.le.proofs.number.Goals as goal

pub returns-then-r-eq2 : goal.returns-then-r-eq2
unfolding entry
returns-then-r-eq2 c = let a = c.args in
    (c.get2.ensures.0 ∙ ap (λ (w : ℕ). number_at w a.s.now (a.r.at + a.k * w)) (sym c.if-r-eq2.true), omega arith)

pub returns-else-r-eq2 : goal.returns-else-r-eq2
unfolding entry
returns-else-r-eq2 c = let a = c.args in
    let e = four c.requires.wide c.if-r-eq2.false in
    (c.get4.ensures ∙ ap (λ (w : ℕ). number_at w a.s.now (a.r.at + a.k * w)) (sym e), search rules)
