-- Which drawing of a range is the dearest. Assumes nothing.
use Rattle.std.specs.Prelude.{◌≡◌, List, ◌∷◌, ℕ, zero, suc, ◌≤◌, ◌<◌}
use Rattle.graph.specs.Answer.{Answer, answered}
use Rattle.catalogue.specs.Price.{Priced}

-- the answer of drawing k is a price
pub data PricedAt : List (Answer Priced) → ℕ → Priced → Type 0 where
  first : {more : List (Answer Priced)} {p : Priced} → PricedAt (answered p ∷ more) zero p
  later : {a : Answer Priced} {more : List (Answer Priced)} {k : ℕ} {p : Priced} → PricedAt more k p → PricedAt (a ∷ more) (suc k) p

-- the drawing k, with total m, is the dearest, and the first such
pub record FirstDearest (answers : List (Answer Priced)) (k m : ℕ) : Type 0 where
  pub drawing : Priced
  pub there : PricedAt answers k drawing
  pub costs : drawing.total ≡ m
  pub most : (j : ℕ) (p : Priced) → PricedAt answers j p → p.total ≤ m
  pub cheaper : (j : ℕ) (p : Priced) → j < k → PricedAt answers j p → p.total < m
