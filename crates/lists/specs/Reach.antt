-- How far ids reach: the least bound that is above each of them.
-- Assumes nothing.
use Rattle.std.specs.Prelude.{ℕ, suc, max, List, [], ◌∷◌}

abbrev pub reach : List ℕ → ℕ
reach [] = 0
reach (x ∷ xs) = max (suc x) (reach xs)

-- the highest of them, 0 where there is none
abbrev pub highest : List ℕ → ℕ
highest [] = 0
highest (x ∷ xs) = max x (highest xs)
