-- 02, T-07, for the cost desk: amounts, and the lines of the kinds and of the loop buffers.
-- Assumes nothing.
use Rattle.std.specs.Prelude.{◌≡◌, List, [], ◌∷◌, ◌++◌, ℕ, ◌+◌, ◌-◌, ◌*◌, ◌/◌, ◌%◌, length, get_or}
use Rattle.le.specs.Le.{Below}
use Rattle.catalogue.specs.Price.{kind_of, buffer_price}
use Rattle.text.specs.Text.{ascii, decimal, field}

-- "amounts in cents with two decimals": hundredths of a cent
unfoldable pub amount : ℕ → List ℕ
amount n = decimal (n / 100) ++ ascii "." ++ ((48 + n % 100 / 10) ∷ (48 + n % 10) ∷ [])

-- what follows a name: how many, and what they cost together
abbrev pub rest : ℕ → ℕ → List ℕ
rest count cost = field " " count ++ ascii " " ++ amount cost ++ ascii "\n"

-- how often a kind stands in the counts
abbrev pub count_of : List ℕ → ℕ → ℕ
count_of counts label = get_or {A = ℕ} counts (label - 1) 0

-- a kind
abbrev pub kind_line : List ℕ → ℕ → List ℕ
kind_line counts label = ascii (kind_of label).name ++ rest (count_of counts label) (count_of counts label * (kind_of label).price)

-- the loop buffers
abbrev pub buffers_line : ℕ → List ℕ
buffers_line buffers = ascii "loop buffer" ++ rest buffers (buffer_price * buffers)

-- a count of 32 bits for each kind
pub record Counters (counts : List ℕ) : Type 0 where
  pub twelve : length counts ≡ 12
  pub few : Below 4294967296 counts
