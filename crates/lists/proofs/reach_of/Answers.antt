-- `lists::reach_of` meets its contract.
-- Assumes nothing.
use mathlib.Core.Path.{◌≡◌, ap}
use Prim.Native.Nat.{ℕ, ◌<◌}
use native.Mathlib.Omega.{arith}
use lib.ListN.{length, drop}
use Rattle.le.specs.Le.{numbers}
use Rattle.le.specs.Rows.{row_at, place_in, span}
use Rattle.le.proofs.Rows.{length_span}
use Rattle.lists.specs.Reach.{reach}
use Rattle.lists.proofs.Reach.{reach_highest}
use Rattle.lists.proofs.reach_of.Goals as goal

pub returns-then-n-eq0 : goal.returns-then-n-eq0
returns-then-n-eq0 c =
    let a = c.args in
    let none : a.n ≡ 0 = c.if-n-eq0.true in
    omega (arith, ap (λ (n : ℕ). reach (numbers a.width n (drop a.at a.s.now))) none)

pub returns : goal.returns
unfolding span
returns c =
    let a = c.args in
    let r = row_at a.at a.width in
    let xs = span a.s.now r 0 a.n in
    let some : 0 < length xs = omega (arith, length_span a.s.now r 0 a.n) in
    let start : place_in r 0 ≡ a.at = omega arith in
    let same : reach xs ≡ reach (numbers a.width a.n (drop a.at a.s.now)) = ap (λ (at : ℕ). reach (numbers a.width a.n (drop at a.s.now))) start in
    omega (arith, c.highest_of-most.ensures, reach_highest xs some)
