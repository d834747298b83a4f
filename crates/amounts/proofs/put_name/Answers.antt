-- `amounts::put_name` meets its contract.
-- Assumes nothing.
use mathlib.Core.List.{List, [], ◌∷◌}
use mathlib.Core.Path.{◌≡◌, ◌∙◌, sym, subst}
use Prim.Native.Nat.{ℕ, ◌-◌}
use lib.ListN.{get_or, get_or-map}
use denote.Bor.{Bor}
use Rattle.catalogue.specs.Price.{Kind, kind, catalogue, kind_of}
use Rattle.text.specs.Text.{ascii, Printed}
use Rattle.amounts.proofs.put_name.Goals as goal

-- a text of twelve by its index is the bytes by their index
bytes_at : (a b c d e f g h i j k l none : Bor (List ℕ)) (at : ℕ)
    → (get_or {A = Bor (List ℕ)} (a ∷ b ∷ c ∷ d ∷ e ∷ f ∷ g ∷ h ∷ i ∷ j ∷ k ∷ l ∷ []) at none).now
    ≡ get_or (a.now ∷ b.now ∷ c.now ∷ d.now ∷ e.now ∷ f.now ∷ g.now ∷ h.now ∷ i.now ∷ j.now ∷ k.now ∷ l.now ∷ []) at none.now
bytes_at a b c d e f g h i j k l none at = sym (get_or-map (λ (x : Bor (List ℕ)). x.now) (a ∷ b ∷ c ∷ d ∷ e ∷ f ∷ g ∷ h ∷ i ∷ j ∷ k ∷ l ∷ []) at none)

pub returns-clause-printed : goal.returns-clause-printed
unfolding kind_of
returns-clause-printed c =
    let name : c.as_bytes.result.now ≡ ascii (kind_of c.args.label).name =
    (c.as_bytes.ensures.value ∙ bytes_at _ _ _ _ _ _ _ _ _ _ _ _ _ (c.args.label - 1)) ∙ get_or-map (λ (k : Kind). ascii k.name) catalogue (c.args.label - 1) (kind "" 0 0 0) in
    subst (λ (l : List ℕ). Printed c.args.out.now c.args.at l c.put_text.new.out c.put_text.result) name c.put_text.ensures
