-- The queue in a list of words: a key has two words, the low one first, from word base on; and what its functions leave there.
-- Assumes nothing.
use Rattle.std.specs.Prelude.{◌≡◌, List, [], ◌∷◌, ℕ, zero, suc, ◌+◌, ◌-◌, ◌*◌, ◌/◌, ◌%◌, ◌≤◌, ◌<◌, get_or, set}
use Rattle.le.specs.Le.{Outside}
use Rattle.queue.specs.Keys.{Sinking, Sunk, Rising, Pushed}

-- key i
unfoldable pub key_at : List ℕ → ℕ → ℕ → ℕ
key_at W base i = get_or W (base + 2 * i) 0 + 4294967296 * get_or W (base + 2 * i + 1) 0

-- the numbers that a function has at the first n places
unfoldable pub list_of : (ℕ → ℕ) → ℕ → List ℕ
list_of f zero = []
list_of f (suc n) = f zero ∷ list_of (λ i. f (suc i)) n

-- the first n keys
unfoldable pub keys_in : List ℕ → ℕ → ℕ → List ℕ
keys_in W base n = list_of (key_at W base) n

-- W with k as key i
unfoldable pub placed : List ℕ → ℕ → ℕ → ℕ → List ℕ
placed W base i k = set (set W (base + 2 * i) (k % 4294967296)) (base + 2 * i + 1) (k / 4294967296)

-- of the keys below key i, c is the larger
pub record Larger (K : List ℕ) (n i c : ℕ) : Type 0 where
  pub positive : 0 < c
  pub inside : c < n
  pub parent : (c - 1) / 2 ≡ i
  pub most : (j : ℕ) → 0 < j → j < n → (j - 1) / 2 ≡ i → get_or K j 0 ≤ get_or K c 0

-- k may be put into the gap
pub record Sinks (W X : List ℕ) (base n k gap : ℕ) : Type 0 where
  pub sinking : Sinking (keys_in W base n) (keys_in X base n) k gap
  pub below : (j : ℕ) → 0 < j → j < n → (j - 1) / 2 ≡ gap → get_or (keys_in X base n) j 0 ≤ k
  pub frame : Outside base (base + 2 * n) W X

-- k stands instead of the top
pub record Replaced (W X : List ℕ) (base n k : ℕ) : Type 0 where
  pub sunk : Sunk (keys_in W base n) (keys_in X base n) k
  pub frame : Outside base (base + 2 * n) W X

-- k may be put into the gap
pub record Rises (W X : List ℕ) (base n k gap : ℕ) : Type 0 where
  pub rising : Rising (keys_in W base n) (keys_in X base (n + 1)) n k gap
  pub above : 0 < gap → k ≤ get_or (keys_in X base (n + 1)) ((gap - 1) / 2) 0
  pub frame : Outside base (base + 2 * (n + 1)) W X

-- k is added
pub record Added (W X : List ℕ) (base n k : ℕ) : Type 0 where
  pub pushed : Pushed (keys_in W base n) (keys_in X base (n + 1)) k
  pub frame : Outside base (base + 2 * (n + 1)) W X
