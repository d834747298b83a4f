-- Edges where they stand in bytes, before it is known whether their ids are those of nodes; and the walk that looks for the first that is not.
-- Assumes nothing.
use Rattle.std.specs.Prelude.{ℕ, zero, suc, ◌+◌, ◌*◌, ◌≤◌, cond, List, [], ◌∷◌, ◌++◌, ◌≡◌, ltb, length, drop}
use Rattle.le.specs.Le.{number_at, numbers}
use Rattle.graph.specs.Graph.{Edge}
use Rattle.graph.specs.Lists.{first_bad}

-- how many entries the edge at a place has, and the place after it
abbrev pub ports_at : ℕ → List ℕ → ℕ → ℕ
ports_at w b at = number_at w b at + number_at w b (at + w)

abbrev pub edge_end : ℕ → List ℕ → ℕ → ℕ
edge_end w b at = at + (2 + ports_at w b at) * w

-- so many edges stand from one place to another, each wholly within the bytes
abbrev pub Spans : ℕ → List ℕ → ℕ → ℕ → ℕ → Type 0
Spans w b at zero to = at ≡ to
Spans w b at (suc n) to = (edge_end w b at ≤ length b) × Spans w b (edge_end w b at) n to

-- and these are they
abbrev pub StandAt : ℕ → List ℕ → ℕ → List Edge → ℕ → Type 0
StandAt w b at [] to = at ≡ to
StandAt w b at (e ∷ es) to =
    (edge_end w b at ≤ length b) × (e.sources ++ e.targets ≡ numbers w (ports_at w b at) (drop (at + 2 * w) b)) × StandAt w b (edge_end w b at) es to

-- the place of the first id not below the bound: among those of so many edges from a place on, else among so many ids after them
abbrev pub bad_place : ℕ → ℕ → List ℕ → ℕ → ℕ → ℕ → ℕ
bad_place w bound b at zero ids = at + first_bad bound (numbers w ids (drop at b)) * w
bad_place w bound b at (suc n) ids =
    let k = first_bad bound (numbers w (ports_at w b at) (drop (at + 2 * w) b)) in
    cond (ltb k (ports_at w b at)) (at + 2 * w + k * w) (bad_place w bound b (edge_end w b at) n ids)
