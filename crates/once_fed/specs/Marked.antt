-- The table of the once-fed check: a byte for each node, 1 for an entry that uses it and 2 for one that feeds it.
-- Assumes nothing.
use Rattle.std.specs.Prelude.{ℕ, ◌+◌, ◌-◌, ◌*◌, ◌≤◌, ◌<◌, ◌≡◌, ◌⊎◌, Bool, true, false, List, ◌++◌, get_or}
use Rattle.graph.specs.Lists.{occurrences}
use Rattle.once_fed.specs.declared.Way.{Way}
use Rattle.once_fed.specs.declared.Way.TheVariants as way

-- what a way to mark a node adds to its byte: 1 as used, 2 as fed; 3 less it is what the other way adds
abbrev pub added : Way → ℕ
added way.Used = 1
added way.Fed = 2

-- the table after the entries that marked in a way and those that marked in the other, in which no node occurs twice in one way
pub record Marked (table : List ℕ) (nodes way : ℕ) (entries others : List ℕ) : Type 0 where
  pub is : (id : ℕ) → id < nodes → get_or table id 0 ≡ way * occurrences id entries + (3 - way) * occurrences id others
  pub once : (id : ℕ) → id < nodes → (occurrences id entries ≤ 1) × (occurrences id others ≤ 1)

-- a node that occurs twice in one way among these entries
pub record Twice (nodes : ℕ) (entries others : List ℕ) : Type 0 where
  pub id : ℕ
  pub known : id < nodes
  pub twice : (1 < occurrences id entries) ⊎ (1 < occurrences id others)

-- whether entries could mark: yes and the table after them, or no and a node that occurs twice
abbrev pub Fared : Bool → List ℕ → ℕ → ℕ → List ℕ → List ℕ → Type 0
Fared true table nodes way entries others = Marked table nodes way entries others
Fared false table nodes way entries others = Twice nodes entries others

-- entries more in one way
abbrev pub Marks : List ℕ → List ℕ → ℕ → Bool → ℕ → List ℕ → Type 0
Marks old new nodes r way more = (entries others : List ℕ) → Marked old nodes way entries others → Fared r new nodes way (entries ++ more) others

-- entries more in one way, and then some in the other
abbrev pub MarksBoth : List ℕ → List ℕ → ℕ → Bool → ℕ → List ℕ → List ℕ → Type 0
MarksBoth old new nodes r way more rest =
    (entries others : List ℕ) → Marked old nodes way entries others → Fared r new nodes way (entries ++ more) (others ++ rest)

-- whether every node is marked in both ways: yes and each is, or no and a node that is not
abbrev pub AllMarked : Bool → List ℕ → ℕ → Type 0
AllMarked true table nodes = (id : ℕ) → id < nodes → get_or table id 0 ≡ 3
AllMarked false table nodes = (id : ℕ) × (id < nodes) × (get_or table id 0 ≡ 3 → ⊥)
