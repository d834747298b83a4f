-- `le::put_number` meets its contract.
-- Assumes nothing.
use mathlib.Core.Path.{sym, ap, ◌∙◌}
use Prim.Native.Nat.{ℕ, ◌+◌, ◌*◌}
use lib.Seq.{sets}
use Rattle.le.specs.Le.{bytes}
use Rattle.le.proofs.Rows.{four, puts_one}
use Rattle.le.proofs.put_number.Goals as goal

pub returns-then-r-eq2 : goal.returns-then-r-eq2
returns-then-r-eq2 c = let a = c.args in
    c.put2.ensures
    ∙ ap (λ (w : ℕ). sets a.d.now (a.r.at + a.k * w) (bytes w a.v)) (sym c.if-r-eq2.true) ∙ sym (puts_one a.d.now a.r a.k a.v)

pub returns-else-r-eq2 : goal.returns-else-r-eq2
returns-else-r-eq2 c = let a = c.args in
    let e = four c.requires.0.wide c.if-r-eq2.false in
    c.put4.ensures ∙ ap (λ (w : ℕ). sets a.d.now (a.r.at + a.k * w) (bytes w a.v)) (sym e) ∙ sym (puts_one a.d.now a.r a.k a.v)
