-- Laws of the lines: one part after the other.
-- Assumes nothing.
use mathlib.Core.Path.{◌≡◌, refl, sym, ap, subst, ◌∙◌}
use mathlib.Core.List.{List, [], ◌∷◌, ◌++◌, append-nil}
use Prim.Native.Nat.{ℕ, ◌+◌, ◌-◌, ◌/◌, ◌%◌, ◌≤◌}
use native.Mathlib.Nat.{add-zero}
use native.Mathlib.Omega.{arith}
use Rattle.graph.specs.Lists.{joined, range}
use Rattle.graph.proofs.Laws.{joined_append}
use Rattle.graph.proofs.Lists.{range_add}
use Rattle.text.specs.Text.{ascii, decimal, field, Printed}
use Rattle.text.proofs.Texts.{printed_then}
use Rattle.amounts.specs.Amounts.{amount, rest}

-- an amount
pub printed_amount : {a b c d : List ℕ} {at i j k : ℕ} (n : ℕ) → Printed a at (decimal (n / 100)) b i → Printed b i (ascii ".") c j
    → Printed c j ((48 + n % 100 / 10) ∷ (48 + n % 10) ∷ []) d k → Printed a at (amount n) d k
unfolding amount
printed_amount n p q r = printed_then (decimal (n / 100) ++ ascii ".") _ (printed_then (decimal (n / 100)) (ascii ".") p q) r

-- what follows a name
pub printed_rest : {a b c d e : List ℕ} {at i j k l : ℕ} (count cost : ℕ) → Printed a at (field " " count) b i → Printed b i (ascii " ") c j → Printed c j (amount cost) d k
    → Printed d k (ascii "\n") e l → Printed a at (rest count cost) e l
printed_rest count cost p q r s =
    printed_then (field " " count ++ ascii " " ++ amount cost) (ascii "\n")
    (printed_then (field " " count ++ ascii " ") (amount cost) (printed_then (field " " count) (ascii " ") p q) r) s

-- ---- a line for each number from 1 on

module _ (line : ℕ → List ℕ) where
  -- none is put yet
  pub printed_none : (a : List ℕ) (at : ℕ) → Printed a at (joined line (range 1 0)) a at
  printed_none a at = record { holds = refl; ends = sym (add-zero at) }

  -- one more
  pub printed_more : {a b c : List ℕ} {at mid next : ℕ} (k : ℕ) → 1 ≤ k → Printed a at (joined line (range 1 (k - 1))) b mid → Printed b mid (line k) c next → Printed a at (joined line (range 1 (k + 1 - 1))) c next
  printed_more {a} {b} {c} {at} {mid} {next} k l p q =
      let n : ℕ = k - 1 in
      let e : 1 + n ≡ k = omega arith in
      let m : k + 1 - 1 ≡ n + 1 = omega arith in
      let more : joined line (range 1 (k + 1 - 1)) ≡ joined line (range 1 n) ++ line k =
      ap (λ (m : ℕ). joined line (range 1 m)) m ∙ ap (joined line) (range_add 1 n 1) ∙ joined_append line (range 1 n) ((1 + n) ∷ [])
      ∙ ap (λ (l : List ℕ). joined line (range 1 n) ++ l) (append-nil (line (1 + n)) ∙ ap line e) in
      subst (λ (l : List ℕ). Printed a at l c next) (sym more) (printed_then (joined line (range 1 n)) (line k) p q)
