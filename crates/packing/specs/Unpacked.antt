-- What a caller takes out of the returned number: code, a and b, as OHG_CODE, OHG_A and OHG_B of the header do.
-- Assumes nothing.
use Rattle.std.specs.Prelude.{ℕ, ◌/◌, ◌%◌, ◌^◌, min}
use Rattle.graph.specs.Answer.{Answer, refused, answered, Result}

-- of a number
abbrev pub code_in : ℕ → ℕ
code_in r = r % 256

abbrev pub a_in : ℕ → ℕ
a_in r = r / 256 % 2 ^ 24

abbrev pub b_in : ℕ → ℕ
b_in r = r / 2 ^ 32

-- what they have to be of a call's answer: of a refusal its number, 0, and its place or the highest number; of an answer 0 and its two numbers
abbrev pub code_of : Answer Result → ℕ
code_of (refused r) = r.no
code_of (answered x) = 0

abbrev pub a_of : Answer Result → ℕ
a_of (refused r) = 0
a_of (answered x) = x.a

abbrev pub b_of : Answer Result → ℕ
b_of (refused r) = min r.place 4294967295
b_of (answered x) = x.b
