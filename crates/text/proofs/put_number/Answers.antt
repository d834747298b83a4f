-- `text::put_number` meets its contract: the fewest digits that hold a number of 64 bits are at most 20, and they are its decimal.
-- Assumes nothing.
use mathlib.Core.Path.{◌≡◌, sym, subst, ◌∙◌}
use mathlib.Core.List.{List}
use Prim.Native.Nat.{ℕ, ◌≤◌}
use native.Mathlib.Omega.{arith}
use lib.ListN.{take}
use Rattle.text.specs.Text.{Printed, decimal}
use Rattle.text.proofs.Texts.{decimal_digits, fewest_few}
use Rattle.text.proofs.put_number.Goals as goal

pub returns-clause-printed : goal.returns-clause-printed
returns-clause-printed c =
    let p = c.put_text in
    let d = c.decimal-k in
    let a = c.args in
    let few : d.result ≤ 20 = fewest_few d.result a.n d.ensures.len (omega arith) in
    let e : take d.result d.new.out ≡ decimal a.n = d.ensures.digits ∙ sym (decimal_digits d.result a.n d.ensures.len few) in
    subst (λ (l : List ℕ). Printed a.out.now a.at l p.new.out p.result) e p.ensures
