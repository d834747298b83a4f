-- The lists that calls are given: a row of the lent bytes, from their front.
-- Assumes nothing.
use Rattle.std.specs.Prelude.{ℕ, List}
use Rattle.le.specs.Rows.{Holds, row_at, span}

-- bytes that a call was given hold a list of n numbers of this width
abbrev pub Lent : List ℕ → ℕ → ℕ → Type 0
Lent b width n = Holds b (row_at 0 width) n

-- the numbers
abbrev pub lent : List ℕ → ℕ → ℕ → List ℕ
lent b width n = span b (row_at 0 width) 0 n
