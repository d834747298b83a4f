-- `lists::number_at` meets its contract.
-- Assumes nothing.
use mathlib.Core.Path.{◌≡◌, ap, ◌∙◌}
use Prim.Native.Nat.{◌+◌, ◌*◌}
use native.Mathlib.Omega.{arith}
use Rattle.le.specs.Le.{number_at}
use Rattle.le.specs.Rows.{entry}
use Rattle.lists.proofs.number_at.Goals as goal

pub returns : goal.returns
unfolding entry
returns c =
    let a = c.args in
    let e : a.at + 0 * a.width ≡ a.at = omega arith in
    (c.number.ensures.0 ∙ ap (number_at a.width a.s.now) e, c.number.ensures.1)
