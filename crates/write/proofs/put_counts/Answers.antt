-- `write::put_counts` meets its contract.
-- Assumes nothing.
use mathlib.Core.Path.{ap, ◌∙◌}
use mathlib.Core.List.{List, ◌∷◌, []}
use Prim.Native.Nat.{ℕ}
use Rattle.le.specs.Rows.{row_at, puts}
use Rattle.le.proofs.Rows.{puts_append}
use Rattle.write.proofs.put_counts.Goals as goal

pub returns : goal.returns
returns c =
    let a = c.args in
    let y = a.y in
    let r = row_at 5 y.width in
    c.put_number.ensures
    ∙ ap (λ (b : List ℕ). puts b r 4 (y.pairs ∷ []))
    (c.put_two-2.ensures
    ∙ ap (λ (b : List ℕ). puts b r 2 (y.sources ∷ y.targets ∷ [])) c.put_two.ensures
    ∙ puts_append a.out.now r 0 (y.nodes ∷ y.edges ∷ []) (y.sources ∷ y.targets ∷ []))
    ∙ puts_append a.out.now r 0 (y.nodes ∷ y.edges ∷ y.sources ∷ y.targets ∷ []) (y.pairs ∷ [])
