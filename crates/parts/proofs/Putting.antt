-- The answer's bytes, put one part after the other.
-- Assumes nothing.
use mathlib.Core.List.{List, [], ◌∷◌, ◌++◌}
use mathlib.Core.Path.{◌≡◌, refl, sym, ap, ◌∙◌}
use Prim.Native.Nat.{ℕ, ◌+◌, ◌*◌, ◌≤◌, ◌<◌}
use native.Mathlib.Numerals.{add-one}
use native.Mathlib.Omega.{arith}
use lib.ListN.{length, get_or, take}
use lib.Seq.{sets, take_all, take-suc, length-take-le}
use Rattle.le.specs.Le.{bytes, row}
use Rattle.le.specs.Rows.{row_at, puts}
use Rattle.le.proofs.Numbers.{length_row}
use Rattle.le.proofs.Rows.{puts_append}
use Rattle.le.proofs.Stores.{sets_append}

module _ (at : ℕ) where
  -- one number more
  pub row_next : (old out new ns : List ℕ) (k : ℕ) → k < length ns → out ≡ puts old (row_at at 4) 0 (take k ns) → new ≡ puts out (row_at at 4) k (get_or ns k 0 ∷ [])
      → new ≡ puts old (row_at at 4) 0 (take (k + 1) ns)
  row_next old out new ns k l is next =
      let r = row_at at 4 in
      let n : k ≡ 0 + length (take k ns) = omega (arith, length-take-le k ns (omega arith)) in
      let more : take k ns ++ (get_or ns k 0 ∷ []) ≡ take (k + 1) ns = rw add-one (sym (take-suc ns k 0 l)) in
      next ∙ (λ i. puts (is i) r (n i) (get_or ns k 0 ∷ [])) ∙ puts_append old r 0 (take k ns) (get_or ns k 0 ∷ []) ∙ ap (puts old r 0) more

  -- all of them
  pub row_put : (old out ns : List ℕ) (k : ℕ) → length ns ≤ k → out ≡ puts old (row_at at 4) 0 (take k ns) → out ≡ sets old at (row 4 ns)
  unfolding puts
  row_put old out ns k l is =
      let place : at + 0 * 4 ≡ at = omega arith in
      is ∙ (λ i. sets old (place i) (row 4 (take_all k ns l i)))

-- two runs, the second where the first ends
pub put_twice : (old mid new xs ys : List ℕ) (at : ℕ) (n : ℕ) → length xs ≡ n → mid ≡ sets old at xs → new ≡ sets mid (at + n) ys → new ≡ sets old at (xs ++ ys)
put_twice old mid new xs ys at n long is next =
    next ∙ (λ i. sets (is i) (at + sym long i) ys) ∙ sym (sets_append old at xs ys)

-- twelve counts, the buffers and the total
pub all_put : (old a b c counts : List ℕ) (buffers total : ℕ) → length counts ≡ 12 → a ≡ sets old 0 (row 4 counts) → b ≡ sets a 48 (bytes 4 buffers) → c ≡ sets b 52 (bytes 8 total)
    → c ≡ sets old 0 (row 4 counts ++ (bytes 4 buffers ++ bytes 8 total))
all_put old a b c counts buffers total twelve p q r =
    let long : length (row 4 counts) ≡ 48 = length_row 4 counts ∙ ap (λ (n : ℕ). n * 4) twelve in
    put_twice old a c (row 4 counts) (bytes 4 buffers ++ bytes 8 total) 0 48 long p (put_twice a b c (bytes 4 buffers) (bytes 8 total) 48 4 refl q r)
