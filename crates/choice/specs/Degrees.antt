-- What an engine needs of arcs and of the choice: the two lists of each vertex, the arcs between two, and what is left to be given.
-- Assumes nothing.
use Rattle.std.specs.Prelude.{Bool, ◌&&◌, cond, List, [], ◌∷◌, ◌⊎◌, ◌↔◌, ℕ, suc, ◌+◌, T, eqb}
use Rattle.choice.specs.Arcs.{Arc, In, how_many, Set, has, vertices, without, Loose}
use Rattle.choice.specs.Choice.{Chooses}

-- the far ends of the arcs whose near end is v, in the arcs' order
unfoldable pub ends_at : (Arc → ℕ) → (Arc → ℕ) → ℕ → List Arc → List ℕ
ends_at near far v [] = []
ends_at near far v (a ∷ more) = let r = ends_at near far v more in cond (eqb (near a) v) (far a ∷ r) r

-- where the arcs out of v lead to
abbrev pub outgoing : List Arc → ℕ → List ℕ
outgoing arcs v = ends_at (λ a. a.from) (λ a. a.to) v arcs

-- where the arcs into v come from
abbrev pub incoming : List Arc → ℕ → List ℕ
incoming arcs v = ends_at (λ a. a.to) (λ a. a.from) v arcs

-- how many arcs lead from u to v
unfoldable pub between : List Arc → ℕ → ℕ → ℕ
between arcs u v = how_many (λ a. eqb a.to v && eqb a.from u) arcs

-- what an engine has told so far, S being left: whatever run goes on from S is a run of the whole, with what was `picked`, in any order, and counted as
-- `free`. Whether there is such a run need not be known.
pub record Sofar (arcs : List Arc) (may : ℕ → Bool) (n : ℕ) (S : Set) (picked : List ℕ) (free : ℕ) : Type 0 where
  pub onward : (ids : List ℕ) (more : ℕ) → Chooses arcs may S ids more
      → (all : List ℕ) × Chooses arcs may (vertices n) all (free + more) × ((x : ℕ) → In x all ↔ (In x picked ⊎ In x ids))

-- U is reached from S by k free removals, one after the other, as a loop makes them
pub data Frees (arcs : List Arc) (S : Set) : Set → ℕ → Type 0 where
  untouched : Frees arcs S S 0
  freed : {U : Set} {k : ℕ} (v : ℕ) → Frees arcs S U k → T (has U v) → Loose arcs U v → Frees arcs S (without v U) (suc k)
