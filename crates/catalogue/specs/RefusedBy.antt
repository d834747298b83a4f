-- Which refusals the priced parts list and the range can give. Assumes nothing.
use Rattle.std.specs.Prelude.{List, [], ◌∷◌, ℕ}

abbrev pub price_refusals : List ℕ
price_refusals = 1 ∷ 2 ∷ 3 ∷ 4 ∷ 5 ∷ 6 ∷ 13 ∷ 8 ∷ 14 ∷ 15 ∷ 10 ∷ []

abbrev pub price_range_refusals : List ℕ
price_range_refusals = 17 ∷ 10 ∷ []
