-- Which refusals a call with a list of steps can give, as docs/INTERFACE.md has them, and which of them a step can.
-- Assumes nothing.
use Rattle.std.specs.Prelude.{List, [], ◌∷◌, ℕ}

abbrev pub build_refusals : List ℕ
build_refusals = 1 ∷ 2 ∷ 3 ∷ 4 ∷ 5 ∷ 6 ∷ 13 ∷ 12 ∷ 7 ∷ 9 ∷ 10 ∷ []

abbrev pub step_refusals : List ℕ
step_refusals = 12 ∷ 7 ∷ 9 ∷ []
