-- `text::put_refusal` meets its contract.
-- Assumes nothing.
use mathlib.Core.Path.{subst}
use Prim.Native.Nat.{ℕ}
use Rattle.text.specs.Text.{Printed, refused_line}
use Rattle.text.proofs.put_refusal.Goals as goal

pub returns-clause-printed : goal.returns-clause-printed
returns-clause-printed c = subst (λ (n : ℕ). Printed c.args.out.now 0 (refused_line n) c.put_refused.new.out c.put_refused.result) c.number.ensures.0 c.put_refused.ensures.printed
