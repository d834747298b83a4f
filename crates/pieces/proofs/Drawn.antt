-- A form that is written from left to right: what it is after one more store, where that store says in its own words which row, which index and which numbers.
-- Assumes nothing.
use mathlib.Core.List.{List, [], ◌++◌}
use mathlib.Core.Path.{◌≡◌, ◌∙◌}
use Prim.Native.Nat.{ℕ}
use lib.ListN.{length}
use Rattle.le.specs.Rows.{puts}
use Rattle.le.specs.declared.Row.{Row}
use Rattle.form.specs.Form.{labels_of, body_of}
use Rattle.form.specs.declared.Sizes.{Sizes}
use Rattle.write.specs.Write.{drawn}
use Rattle.write.proofs.Results.{drawn_labels, drawn_numbers}

module _ (old : List ℕ) (y : Sizes) (ls : List ℕ) where
  pub more_labels : (ms : List ℕ) {o n xs : List ℕ} {r : Row} {k : ℕ} → o ≡ drawn old y ls [] → n ≡ puts o r k xs → r ≡ labels_of y → k ≡ length ls → xs ≡ ms
      → n ≡ drawn old y (ls ++ ms) []
  more_labels ms {k = k} p h is at e = h ∙ (λ i. puts (p i) (is i) k (e i)) ∙ drawn_labels old y ls ms k at

  pub more_numbers : (ns ms : List ℕ) {o n xs : List ℕ} {r : Row} {k : ℕ} → o ≡ drawn old y ls ns → n ≡ puts o r k xs → r ≡ body_of y → k ≡ length ns → xs ≡ ms
      → n ≡ drawn old y ls (ns ++ ms)
  more_numbers ns ms {k = k} p h is at e = h ∙ (λ i. puts (p i) (is i) k (e i)) ∙ drawn_numbers old y ls ns ms k at
