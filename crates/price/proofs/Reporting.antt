-- The report's bytes, put one part after the other.
-- Assumes nothing.
use mathlib.Core.List.{List, ◌++◌}
use mathlib.Core.Path.{◌≡◌, refl, ap, ◌∙◌}
use Prim.Native.Nat.{ℕ, ◌*◌}
use native.Mathlib.Omega.{arith}
use lib.ListN.{length, length-append}
use lib.Seq.{sets}
use Rattle.le.specs.Le.{bytes, row}
use Rattle.le.proofs.Numbers.{length_row}
use Rattle.price.specs.Totals.{front_of}
use Rattle.price.specs.declared.range.Totals.{Totals}
use Rattle.parts.proofs.Putting.{put_twice}

-- the counts in front
pub totals_put : (old a b c d refusals parts : List ℕ) (priced buffers : ℕ) → length refusals ≡ 17 → length parts ≡ 12
    → a ≡ sets old 0 (bytes 4 priced) → b ≡ sets a 4 (row 4 refusals) → c ≡ sets b 72 (row 4 parts) → d ≡ sets c 120 (bytes 4 buffers)
    → d ≡ sets old 0 (bytes 4 priced ++ (row 4 refusals ++ (row 4 parts ++ bytes 4 buffers)))
totals_put old a b c d refusals parts priced buffers seventeen twelve p q r s =
    let l₁ : length (row 4 refusals) ≡ 68 = length_row 4 refusals ∙ ap (λ (n : ℕ). n * 4) seventeen in
    let l₂ : length (row 4 parts) ≡ 48 = length_row 4 parts ∙ ap (λ (n : ℕ). n * 4) twelve in
    put_twice old a d (bytes 4 priced) (row 4 refusals ++ (row 4 parts ++ bytes 4 buffers)) 0 4 refl p
    (put_twice a b d (row 4 refusals) (row 4 parts ++ bytes 4 buffers) 4 68 l₁ q
    (put_twice b c d (row 4 parts) (bytes 4 buffers) 72 48 l₂ r s))

-- and both
pub report_put : (old a b front amounts : List ℕ) → length front ≡ 124 → a ≡ sets old 0 front → b ≡ sets a 124 amounts → b ≡ sets old 0 (front ++ amounts)
report_put old a b front amounts long p q = put_twice old a b front amounts 0 124 long p q

pub front_long : (t : Totals) → length t.refusals ≡ 17 → length t.parts ≡ 12 → length (front_of t) ≡ 124
front_long t seventeen twelve =
    omega (arith, length-append (row 4 t.refusals) (row 4 t.parts ++ bytes 4 t.buffers), length-append (row 4 t.parts) (bytes 4 t.buffers), length_row 4 t.refusals, length_row 4 t.parts)
