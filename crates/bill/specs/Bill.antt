-- 02, T-07, for the cost desk: what the program prints for any bytes.
-- Assumes nothing.
use Rattle.std.specs.Prelude.{List, ◌++◌, ℕ}
use Rattle.graph.specs.Answer.{Answer, refused, answered}
use Rattle.graph.specs.Lists.{joined}
use Rattle.amounts.specs.Amounts.{amount, kind_line, buffers_line}
use Rattle.catalogue.specs.Price.{kinds, Priced, price}
use Rattle.text.specs.Text.{ascii, refused_line}

-- the total
abbrev pub total_line : ℕ → List ℕ
total_line total = ascii "total " ++ amount total ++ ascii "\n"

-- these counts, buffers and total
abbrev pub list_text : List ℕ → ℕ → ℕ → List ℕ
list_text counts buffers total = joined (kind_line counts) kinds ++ buffers_line buffers ++ total_line total

-- "on a refusal one line, `refused` and the number"
abbrev pub told : Answer Priced → List ℕ
told (refused r) = refused_line r.no
told (answered p) = list_text p.counts p.buffers p.total

-- what is printed for any bytes
unfoldable pub bill_text : List ℕ → List ℕ
bill_text b = told (price b)

-- the bytes of the buffer into which the list is put: more than the longest one has
abbrev pub bill_room : ℕ
bill_room = 1024
