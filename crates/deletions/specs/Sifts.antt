-- Making the map, and one turn of sifting a table.
-- Assumes nothing.
use Rattle.std.specs.Prelude.{◌≡◌, Bool, not, cond, ◌||◌, List, [], ◌∷◌, ℕ, ◌+◌, ◌*◌, ◌<◌, eqb, length, get_or, set}
use Rattle.std.proofs.lemmas.List.Edits.{sets}
use Rattle.graph.specs.Lists.{among, flat}
use Rattle.ledger.specs.declared.Renaming.{Renaming}
use Rattle.ledger.specs.Tables.{map_at, gone}
use Rattle.ledger.specs.Left.{mapped, kept_word, kept_pair}

-- the map of n ids has 1 for those that are listed, and 0 for the others
pub record Marked (W : List ℕ) (n : ℕ) (ids : List ℕ) : Type 0 where
  pub each : (i : ℕ) → i < n → mapped W i ≡ cond (among ids i) 1 0

-- the test that such a map makes
abbrev pub is_marked : List ℕ → ℕ → Bool
is_marked W i = not (eqb (mapped W i) 0)

-- the new id of i, where `to` stay before it
pub record Numbered (W X : List ℕ) (i to r : ℕ) : Type 0 where
  pub words : X ≡ set W (map_at + i) (cond (is_marked W i) gone to)
  pub next : r ≡ to + cond (is_marked W i) 0 1

-- entry k of a table of words
pub record WordTurn (W X : List ℕ) (ids : Bool) (off k to r : ℕ) : Type 0 where
  pub words : X ≡ sets W (off + to) (kept_word W ids k (get_or W (off + k) 0))
  pub next : r ≡ to + length (kept_word W ids k (get_or W (off + k) 0))

-- two words, if neither is that of an id that goes
unfoldable pub both_stay : ℕ → ℕ → List (ℕ × ℕ)
both_stay a b = cond (eqb a gone || eqb b gone) [] ((a, b) ∷ [])

-- entry k of a table of pairs
pub record PairTurn (W X : List ℕ) (how : Renaming) (off k to r : ℕ) : Type 0 where
  pub words : X ≡ sets W (off + 2 * to) (flat (kept_pair W how (get_or W (off + 2 * k) 0, get_or W (off + 2 * k + 1) 0)))
  pub next : r ≡ to + length (kept_pair W how (get_or W (off + 2 * k) 0, get_or W (off + 2 * k + 1) 0))
