-- Packing is inverted: what a caller takes out of the number that a call returns is the answer's code, a and b.
-- Assumes nothing.
use mathlib.Core.Path.{◌≡◌, refl}
use Prim.Native.Nat.{ℕ}
use native.Mathlib.Omega.{arith}
use Rattle.graph.specs.Answer.{Answer, refused, answered, Result}
use Rattle.packing.specs.Packed.{packed, Ranged}
use Rattle.packing.specs.Unpacked.{code_in, a_in, b_in, code_of, a_of, b_of}

-- the code: 0 of an answer, the number of a refusal
pub code_of_packed : (x : Answer Result) {r : ℕ} → Ranged x → r ≡ packed x → code_in r ≡ code_of x
code_of_packed (refused q) h e = omega (arith, (h.no q refl).1)
code_of_packed (answered y) h e = omega arith

-- a: the first number of an answer, 0 of a refusal
pub a_of_packed : (x : Answer Result) {r : ℕ} → Ranged x → r ≡ packed x → a_in r ≡ a_of x
a_of_packed (refused q) h e = omega (arith, (h.no q refl).1)
a_of_packed (answered y) h e = omega (arith, (h.numbers y refl).0)

-- b: the second number of an answer, the place of a refusal
pub b_of_packed : (x : Answer Result) {r : ℕ} → Ranged x → r ≡ packed x → b_in r ≡ b_of x
b_of_packed (refused q) h e = omega (arith, (h.no q refl).1)
b_of_packed (answered y) h e = omega (arith, (h.numbers y refl).0)
