-- `edges::ports_at` meets its contract.
-- Assumes nothing.
use mathlib.Core.Path.{◌≡◌, ap}
use Prim.Native.Nat.{ℕ, ◌+◌}
use native.Mathlib.Omega.{arith}
use Rattle.le.specs.Le.{number_at}
use Rattle.le.proofs.Places.{number_halves, number_two}
use Rattle.le.proofs.Rows.{four}
use Rattle.edges.proofs.ports_at.Goals as goal

pub get4-requires : goal.get4-requires
get4-requires c = omega (arith, four c.requires.wide c.if-width-eq2.false)

pub get4-requires-else-width-eq2 : goal.get4-requires-else-width-eq2
get4-requires-else-width-eq2 c = omega (arith, four c.requires.wide c.if-width-eq2.false)

pub returns-then-width-eq2 : goal.returns-then-width-eq2
returns-then-width-eq2 c =
    let a = c.args in
    let b = a.s.now in
    let k = c.type_inv.s in
    let e : a.width ≡ 2 = c.if-width-eq2.true in
    let here : number_at a.width b a.at + number_at a.width b (a.at + a.width) ≡ number_at 2 b a.at + number_at 2 b (a.at + 2) =
    ap (λ (w : ℕ). number_at w b a.at + number_at w b (a.at + w)) e in
    omega (
      arith,
      number_halves b a.at (omega arith),
      number_two b a.at (omega arith),
      number_two b (a.at + 2) (omega arith),
      k a.at,
      k (a.at + 1),
      k (a.at + 2),
      k (a.at + 2 + 1),
    )

pub returns-else-width-eq2 : goal.returns-else-width-eq2
returns-else-width-eq2 c =
    let a = c.args in
    let b = a.s.now in
    let e : a.width ≡ 4 = four c.requires.wide c.if-width-eq2.false in
    let here : number_at a.width b a.at + number_at a.width b (a.at + a.width) ≡ number_at 4 b a.at + number_at 4 b (a.at + 4) =
    ap (λ (w : ℕ). number_at w b a.at + number_at w b (a.at + w)) e in
    omega arith
