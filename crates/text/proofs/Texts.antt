-- Laws of a program's text: bytes put one after the other, and a number's digits.
-- Assumes nothing.
use mathlib.Core.Path.{◌≡◌, refl, sym, ap, subst, ◌∙◌}
use mathlib.Core.Bool.{Bool, true, false}
use mathlib.Core.List.{List, [], ◌∷◌, ◌++◌}
use Prim.Native.Nat.{ℕ, zero, suc, ◌+◌, ◌*◌, ◌/◌, ◌%◌, ◌^◌, ◌-◌, ◌≤◌, ◌<◌}
use native.Mathlib.Nat.{pow-suc, one-le-pow, pow-le-pow_right, mod-lt, mod-eq_of_lt}
use native.Mathlib.Omega.{arith}
use lib.Dec.{leb}
use lib.ListN.{length-append}
use lib.Seq.{sets}
use borrow.Author.Tests.{lt-ltb, le-ltb, leb-true, leb-false}
use Rattle.io.specs.Digits.{last_digits, hex_digit_ascii, IsDigitCount}
use Rattle.le.proofs.Stores.{sets_append}
use Rattle.text.specs.Text.{numeral, decimal, Printed}

-- bytes put after others are put with them
pub printed_then : {a b c : List ℕ} {place mid next : ℕ} (x y : List ℕ) → Printed a place x b mid → Printed b mid y c next → Printed a place (x ++ y) c next
printed_then {a} {b} {c} {place} {mid} {next} x y p q = record {
  holds = q.holds ∙ ap (λ (l : List ℕ). sets l mid y) p.holds ∙ ap (λ (k : ℕ). sets (sets a place x) k y) p.ends ∙ sym (sets_append a place x y);
  ends = omega (arith, length-append x y, p.ends, q.ends);
}

-- the digit of a number below ten
glyph_digit : (d : ℕ) → d < 10 → hex_digit_ascii d ≡ 48 + d
glyph_digit d l = rw (lt-ltb d 10 l) refl

-- the fewest digits of a number are those that decimal has
numeral_digits : (most k n : ℕ) → IsDigitCount 10 1 n k → k ≤ most → numeral most n ≡ last_digits 10 k n
numeral_digits zero zero n f h = absurd (omega (arith, f.0))
numeral_digits zero (suc k) n f h = absurd (omega arith)
numeral_digits (suc most) zero n f h = absurd (omega (arith, f.0))
numeral_digits (suc most) (suc zero) n f h =
    let l : n < 10 = f.1 in
    let e : n % 10 ≡ n = mod-eq_of_lt l in
    rw (lt-ltb n 10 l, e) (ap (λ (d : ℕ). d ∷ []) (sym (glyph_digit n l)))
numeral_digits (suc most) (suc (suc k)) n f h =
    let e : suc (suc k) - 1 ≡ suc k = omega arith in
    let e' : k ≡ suc k - 1 = omega arith in
    let many : 10 ^ suc k ≤ n = subst (λ (j : ℕ). 10 ^ j ≤ n) e (f.2 (omega arith)) in
    let some : 1 ≤ 10 ^ k = one-le-pow k 10 (omega arith) in
    let tens : 10 ^ suc k ≡ 10 ^ k * 10 = pow-suc 10 k in
    let more : 10 ^ suc (suc k) ≡ 10 ^ suc k * 10 = pow-suc 10 (suc k) in
    let fewer : IsDigitCount 10 1 (n / 10) (suc k) =
    (omega arith, omega (arith, f.1), λ _. subst (λ (j : ℕ). 10 ^ j ≤ n / 10) e' (omega arith)) in
    rw (le-ltb n 10 (omega arith)) (ap (λ (l : List ℕ). l ++ ((48 + n % 10) ∷ [])) (numeral_digits most (suc k) (n / 10) fewer (omega arith))
    ∙ ap (λ (d : ℕ). last_digits 10 (suc k) (n / 10) ++ (d ∷ [])) (sym (glyph_digit (n % 10) (mod-lt n (omega arith)))))

-- so `io::decimal` puts what `decimal` says
pub decimal_digits : (k n : ℕ) → IsDigitCount 10 1 n k → k ≤ 20 → decimal n ≡ last_digits 10 k n
unfolding decimal
decimal_digits k n f h = numeral_digits 20 k n f h

-- a number of 64 bits has at most 20 digits
pub fewest_few : (k n : ℕ) → IsDigitCount 10 1 n k → n < 18446744073709551616 → k ≤ 20
fewest_few k n f h = go (leb k 20) refl
  where
    tens : {i j : ℕ} → i ≤ j → 10 ^ i ≤ 10 ^ j
    tens h = pow-le-pow_right (omega arith) h

    go : (b : Bool) → leb k 20 ≡ b → k ≤ 20
    go true e = leb-true k 20 e
    go false e =
        let long : 20 ≤ k - 1 = omega (arith, leb-false k 20 e) in
        absurd (omega (arith, f.2 (omega (arith, leb-false k 20 e)), tens long))
