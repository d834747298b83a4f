-- `write::put_two` meets its contract.
-- Assumes nothing.
use mathlib.Core.Path.{ap, ◌∙◌}
use mathlib.Core.List.{List, ◌∷◌, []}
use Prim.Native.Nat.{ℕ, ◌+◌}
use native.Mathlib.Omega.{arith}
use Rattle.le.specs.Rows.{puts}
use Rattle.le.proofs.Rows.{holds_index, puts_append}
use Rattle.write.proofs.put_two.Goals as goal

pub overflow_add-k : goal.overflow_add-k
overflow_add-k c = omega (arith, holds_index c.requires.0)

pub returns : goal.returns
returns c =
    let a = c.args in
    c.put_number-2.ensures
    ∙ ap (λ (b : List ℕ). puts b a.r (a.k + 1) (a.b ∷ [])) c.put_number.ensures
    ∙ puts_append a.out.now a.r a.k (a.a ∷ []) (a.b ∷ [])
