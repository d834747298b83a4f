-- `rewrite::put_sizes` meets its contract.
-- Assumes nothing.
use mathlib.Core.List.{List, [], ◌∷◌}
use mathlib.Core.Path.{ap, ◌∙◌}
use Prim.Native.Nat.{ℕ}
use Rattle.le.specs.Rows.{row_at, puts}
use Rattle.le.proofs.Rows.{puts_append}
use Rattle.rewrite.proofs.put_sizes.Goals as goal

pub returns : goal.returns
returns c =
    let a = c.args in
    let z = a.z in
    let r = row_at 0 4 in
    let old = a.out.now in
    c.put_two-3.ensures
    ∙ ap (λ (b : List ℕ). puts b r 4 (z.targets ∷ z.pairs ∷ []))
    (c.put_two-2.ensures
    ∙ ap (λ (b : List ℕ). puts b r 2 (z.ports ∷ z.sources ∷ [])) c.put_two.ensures
    ∙ puts_append old r 0 (z.nodes ∷ z.edges ∷ []) (z.ports ∷ z.sources ∷ []))
    ∙ puts_append old r 0 (z.nodes ∷ z.edges ∷ z.ports ∷ z.sources ∷ []) (z.targets ∷ z.pairs ∷ [])
