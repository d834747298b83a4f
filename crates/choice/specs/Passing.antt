-- The numbers below a bound that pass a test, as an ascending list: how an engine lists what it has marked.
-- Assumes nothing.
use Rattle.std.specs.Prelude.{Bool, cond, List, [], ◌∷◌, ◌++◌, ℕ, zero, suc}

-- v, if it passes
abbrev pub shown : (ℕ → Bool) → ℕ → List ℕ
shown p v = cond (p v) (v ∷ []) []

-- those below k, ascending
abbrev pub shown_below : (ℕ → Bool) → ℕ → List ℕ
shown_below p zero = []
shown_below p (suc k) = shown_below p k ++ shown p k
