-- Texts as bytes, numbers in decimal, and bytes put at a place.
-- Assumes nothing.
use Rattle.std.specs.Prelude.{◌≡◌, cond, List, [], ◌∷◌, ◌++◌, ℕ, zero, suc, ◌+◌, ◌/◌, ◌%◌, ltb, length}
use Prim.Native.Char.{code}
use Prim.Native.String.{String, [] as no_text, ◌∷◌ as ◌then◌}
use Rattle.std.proofs.lemmas.List.Edits.{sets}

-- a text in ASCII
abbrev pub ascii : String → List ℕ
ascii no_text = []
ascii (c then s) = code c ∷ ascii s

-- a number of at most so many digits in decimal: a digit, or the digits of its tenth part and the last one
abbrev pub numeral : ℕ → ℕ → List ℕ
numeral zero n = []
numeral (suc most) n = cond (ltb n 10) ((48 + n) ∷ []) (numeral most (n / 10) ++ ((48 + n % 10) ∷ []))

-- a number in decimal, with no zero in front; it is below 10 ^ 20, as every number of 64 bits is
unfoldable pub decimal : ℕ → List ℕ
decimal = numeral 20

-- a word and a number
abbrev pub field : String → ℕ → List ℕ
field word n = ascii word ++ decimal n

-- 01: "On a refusal it prints one line, `refused` and the number."
abbrev pub refused_line : ℕ → List ℕ
refused_line n = field "refused " n ++ ascii "\n"

-- these bytes were put at a place, and next is the place after them
pub record Printed (old : List ℕ) (place : ℕ) (bytes new : List ℕ) (next : ℕ) : Type 0 where
  pub holds : new ≡ sets old place bytes
  pub ends : next ≡ place + length bytes
