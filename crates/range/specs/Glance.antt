-- 02, T-13, for the cost desk: what the program prints for any bytes.
-- Assumes nothing.
use Rattle.std.specs.Prelude.{cond, List, [], ◌++◌, map, ℕ, eqb, length}
use Rattle.graph.specs.Answer.{Answer, refused, answered}
use Rattle.graph.specs.Lists.{joined}
use Rattle.amounts.specs.Amounts.{amount, count_of, kind_line, buffers_line}
use Rattle.catalogue.specs.Price.{kinds, price}
use Rattle.catalogue.specs.Range.{drawings_in, most_drawings, refusal_numbers, Report, report_of}
use Rattle.text.specs.Text.{ascii, field, refused_line}

-- "drawings 3 priced 2"
abbrev pub head_line : ℕ → ℕ → List ℕ
head_line drawings priced = field "drawings " drawings ++ field " priced " priced ++ ascii "\n"

-- "one `refused by` line for each number that occurs"
abbrev pub refusal_line : List ℕ → ℕ → List ℕ
refusal_line refusals n = cond (eqb (count_of refusals n) 0) [] (field "refused by " n ++ field ": " (count_of refusals n) ++ ascii "\n")

-- the sum
abbrev pub sum_line : ℕ → List ℕ
sum_line sum = ascii "sum " ++ amount sum ++ ascii "\n"

-- "no `dearest` line where there is none"
abbrev pub dearest_line : ℕ → List ℕ
dearest_line index = cond (eqb index 4294967295) [] (field "dearest " index ++ ascii "\n")

-- the mean
abbrev pub mean_line : ℕ → ℕ → List ℕ
mean_line mean remainder = ascii "mean " ++ amount mean ++ field " remainder " remainder ++ ascii "\n"

-- "the twelve kinds and the buffers as in `bill`"
abbrev pub report_text : ℕ → Report → List ℕ
report_text drawings r =
    head_line drawings r.priced ++ joined (refusal_line r.refusals) refusal_numbers ++ joined (kind_line r.parts) kinds ++ buffers_line r.buffers
    ++ sum_line r.sum ++ dearest_line r.dearest ++ mean_line r.mean r.remainder

-- a slice that is refused: one line, as of a drawing
abbrev pub told : Answer (List (List ℕ)) → List ℕ
told (refused r) = refused_line r.no
told (answered forms) = report_text (length forms) (report_of (map price forms))

-- what is printed for any bytes
unfoldable pub range_text : List ℕ → List ℕ
range_text b = told (drawings_in most_drawings b)

-- the bytes of the buffer into which the report is put: more than the longest one has
abbrev pub range_room : ℕ
range_room = 2048
