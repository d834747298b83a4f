-- `form::highest` meets its contract.
-- Assumes nothing.
use mathlib.Core.Path.{sym, ap}
use Prim.Native.Nat.{ℕ, ◌-◌, ◌^◌}
use Rattle.le.proofs.Rows.{four}
use Rattle.form.proofs.highest.Goals as goal

pub returns-then-width-eq2 : goal.returns-then-width-eq2
returns-then-width-eq2 c = ap (λ (w : ℕ). 256 ^ w - 1) (sym c.if-width-eq2.true)

pub returns-else-width-eq2 : goal.returns-else-width-eq2
returns-else-width-eq2 c = ap (λ (w : ℕ). 256 ^ w - 1) (sym (four c.requires c.if-width-eq2.false))
