-- Rows of numbers in lent bytes: what stands in one, and what writing into one leaves.
-- Assumes nothing.
use Rattle.std.specs.Prelude.{List, ℕ, ◌+◌, ◌*◌, ◌≤◌, length, drop}
use Rattle.std.proofs.lemmas.List.Edits.{sets}
use Rattle.le.specs.Le.{Wide, number_at, numbers, row}
use Rattle.le.specs.declared.Row.{Row}

-- the row that begins at a place, its numbers this wide
abbrev pub row_at : ℕ → ℕ → Row
row_at at width = record { at = at; width = width }

-- the place of number k of a row
abbrev pub place_in : Row → ℕ → ℕ
place_in r k = r.at + k * r.width

-- the bytes have room for the first n numbers of a row
pub record Holds (b : List ℕ) (r : Row) (n : ℕ) : Type 0 where
  pub wide : Wide r.width
  pub inside : place_in r n ≤ length b

-- number k of a row
unfoldable pub entry : List ℕ → Row → ℕ → ℕ
entry b r k = number_at r.width b (place_in r k)

-- n numbers of a row, from number k on
unfoldable pub span : List ℕ → Row → ℕ → ℕ → List ℕ
span b r k n = numbers r.width n (drop (place_in r k) b)

-- the bytes with these numbers put into a row, from number k on
unfoldable pub puts : List ℕ → Row → ℕ → List ℕ → List ℕ
puts b r k ns = sets b (place_in r k) (row r.width ns)
