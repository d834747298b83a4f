-- What a key says, and that comparing keys is comparing scores first and then ids, the lower one first.
-- Assumes nothing.
use mathlib.Core.Path.{◌≡◌}
use mathlib.Core.Logic.{◌⊎◌, inl, inr}
use Prim.Native.Nat.{ℕ, ◌*◌, ◌≤◌, ◌<◌}
use native.Mathlib.Decide.{dec_le}
use native.Mathlib.Nat.{lt_of_not-le, mul-le-mul}
use native.Mathlib.Omega.{arith}
use Rattle.queue.specs.Keys.{radix, key, id_of, in_of, score_of}

module _ (v i o : ℕ) (low : v < radix) (small : i < radix) where
  pub key_id : id_of (key v i o) ≡ v
  unfolding key id_of
  key_id = omega arith

  pub key_in : in_of (key v i o) ≡ i
  unfolding key in_of
  key_in = omega arith

  pub key_score : score_of (key v i o) ≡ i * o
  unfolding key score_of
  key_score = omega arith

  -- a key that is not above another: a lower score, or the same and no lower id
  pub key_le : (w j p : ℕ) → w < radix → j < radix → key v i o ≤ key w j p → (i * o < j * p) ⊎ ((i * o ≡ j * p) × (w ≤ v))
  unfolding key
  key_le w j p l s h = go (dec_le (j * p) (i * o))
    where
      go : Dec (j * p ≤ i * o) → (i * o < j * p) ⊎ ((i * o ≡ j * p) × (w ≤ v))
      go (yes y) = inr (omega arith, omega arith)
      go (no y) = inl (lt_of_not-le y)

-- fewer arcs, a key that is not above
pub key_mono : (v i o j p : ℕ) → i ≤ j → o ≤ p → key v i o ≤ key v j p
unfolding key
key_mono v i o j p a b = omega (arith, mul-le-mul a b)
