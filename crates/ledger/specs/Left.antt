-- What is left of a table when nodes or edges go, by the map of new ids in the room.
-- Assumes nothing.
use Rattle.std.specs.Prelude.{◌≡◌, Bool, cond, ◌||◌, List, [], ◌∷◌, ◌++◌, ℕ, suc, ◌+◌, ◌*◌, ◌/◌, ◌%◌, ◌≤◌, ◌<◌, leb, eqb, get_or}
use Rattle.le.specs.Le.{Outside}
use Rattle.graph.specs.Delete.{new_id}
use Rattle.graph.specs.Lists.{joined}
use Rattle.ledger.specs.declared.Renaming.{Renaming}
use Rattle.ledger.specs.declared.Renaming.TheVariants.{NodeOfPort, EdgeOfPort, BothEnds}
use Rattle.ledger.specs.Tables.{map_at, map_size, gone}
use Rattle.ledger.specs.Ledger.{words_in, pairs_in}

-- the map of n ids: the new id of each, or that it goes
pub record Mapped (W : List ℕ) (goes : ℕ → Bool) (n : ℕ) : Type 0 where
  pub each : (i : ℕ) → i < n → get_or W (map_at + i) 0 ≡ cond (goes i) gone (new_id goes i)

-- what the map has for an id
abbrev pub mapped : List ℕ → ℕ → ℕ
mapped W id = get_or W (map_at + id) 0

-- ---- tables of words

-- entry i of a table, if it stays: an id is given its new one, a label stays with its own id
unfoldable pub kept_word : List ℕ → Bool → ℕ → ℕ → List ℕ
kept_word W ids i x = cond (eqb (mapped W (cond ids x i)) gone) [] (cond ids (mapped W x) x ∷ [])

-- what is left of entries whose first is entry i
abbrev pub kept_words : List ℕ → Bool → ℕ → List ℕ → List ℕ
kept_words W ids i [] = []
kept_words W ids i (x ∷ xs) = kept_word W ids i x ++ kept_words W ids (suc i) xs

-- the table of n words from off on was W's, and r are left of it in X
pub record WordsLeft (W X : List ℕ) (ids : Bool) (off n r : ℕ) : Type 0 where
  pub left : words_in X off r ≡ kept_words W ids 0 (words_in W off n)
  pub few : r ≤ n
  pub frame : Outside off (off + n) W X

-- ---- tables of pairs

-- the first of a pair: as it is, a half with its edge's new id, or the new id
unfoldable pub first_left : List ℕ → Renaming → ℕ → ℕ
first_left W NodeOfPort a = a
first_left W EdgeOfPort a = cond (leb map_size (mapped W (a / 2))) gone (2 * mapped W (a / 2) + a % 2)
first_left W BothEnds a = mapped W a

-- the second: as it is, or its new id
unfoldable pub second_left : List ℕ → Renaming → ℕ → ℕ
second_left W NodeOfPort b = mapped W b
second_left W EdgeOfPort b = b
second_left W BothEnds b = mapped W b

-- the pair, if both stay
unfoldable pub kept_pair : List ℕ → Renaming → ℕ × ℕ → List (ℕ × ℕ)
kept_pair W how p =
    cond (eqb (first_left W how p.0) gone || eqb (second_left W how p.1) gone) [] ((first_left W how p.0, second_left W how p.1) ∷ [])

-- the table of n pairs from off on was W's, and r are left of it in X
pub record PairsLeft (W X : List ℕ) (how : Renaming) (off n r : ℕ) : Type 0 where
  pub left : pairs_in X off r ≡ joined (kept_pair W how) (pairs_in W off n)
  pub few : r ≤ n
  pub frame : Outside off (off + 2 * n) W X
