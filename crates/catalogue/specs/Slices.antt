-- What a slice of drawings is. Assumes nothing.
use Rattle.std.specs.Prelude.{◌≡◌, List, [], ◌∷◌, ◌++◌, ℕ, ◌^◌, ◌≤◌, ◌<◌, length}
use Rattle.le.specs.Le.{bytes}
use Rattle.graph.specs.Lists.{joined}

-- a stored form with its length before it
abbrev pub prefixed : List ℕ → List ℕ
prefixed form = bytes 4 (length form) ++ form

-- each length has 4 bytes
abbrev pub Short : List (List ℕ) → Type 0
Short [] = Unit {0}
Short (form ∷ forms) = (length form < 256 ^ 4) × Short forms

-- the slice is these drawings, one after the other, k at most
pub record SliceOf (k : ℕ) (b : List ℕ) (forms : List (List ℕ)) : Type 0 where
  pub whole : joined prefixed forms ≡ b
  pub short : Short forms
  pub few : length forms ≤ k
