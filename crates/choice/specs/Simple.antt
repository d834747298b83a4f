-- Directed cycles that pass no vertex twice.
-- Assumes nothing.
use Rattle.std.specs.Prelude.{List, [], ◌∷◌, ℕ}
use Rattle.choice.specs.Arcs.{Arc, In, Cycle}

-- no number stands twice in the list
abbrev pub Distinct : List ℕ → Type 0
Distinct [] = Unit {0}
Distinct (x ∷ xs) = (In x xs → ⊥) × Distinct xs

-- a directed cycle that passes no vertex twice
pub record SimpleCycle (arcs : List Arc) (c : List ℕ) : Type 0 where
  pub cycle : Cycle arcs c
  pub once : Distinct c

-- no such cycle exists
abbrev pub NoSimpleCycle : List Arc → Type 0
NoSimpleCycle arcs = (c : List ℕ) → SimpleCycle arcs c → ⊥
