-- 02, T-01: the classes while they are found, in the first words of the work room. A word for each node holds a node of its class that is not above it.
-- Assumes nothing.
use Rattle.std.specs.Prelude.{◌≡◌, List, ℕ, ◌≤◌, ◌<◌, Result, cond, eqb, length, get_or}
use Rattle.graph.specs.Delete.{new_id}
use Rattle.graph.specs.Answer.{Answer, answered}
use Rattle.graph.specs.Graph.{Graph}
use Rattle.graph.specs.Merge.{united, absorbed, Merged, quotient}
use Rattle.form.specs.Form.{told, telling}
use Rattle.form.specs.declared.Refusal.{Refusal}

-- no word of a node is above it
pub record Falls (n : ℕ) (W : List ℕ) : Type 0 where
  pub low : (v : ℕ) → v < n → get_or W v 0 ≤ v

-- the classes are those of the table of least members: a node's word is of its class, and is the node itself only at the least member
pub record Forest (n : ℕ) (table W : List ℕ) : Type 0 where
  pub long : length table ≡ n
  pub falls : Falls n W
  pub class : (v : ℕ) → v < n → get_or table (get_or W v 0) 0 ≡ get_or table v 0
  pub top : (v : ℕ) → v < n → get_or W v 0 ≡ v → get_or table v 0 ≡ v

-- the first words are a table of n entries
pub record Tabled (n : ℕ) (table W : List ℕ) : Type 0 where
  pub long : length table ≡ n
  pub is : (v : ℕ) → v < n → get_or W v 0 ≡ get_or table v 0

-- r was found for v: whatever classes the words had, they have, and r is the least member of v's
pub record Found (n : ℕ) (W X : List ℕ) (v r : ℕ) : Type 0 where
  pub falls : Falls n X
  pub low : r ≤ v
  pub keeps : (table : List ℕ) → Forest n table W → Forest n table X
  pub leader : (table : List ℕ) → Forest n table W → (r ≡ get_or table v 0) × (get_or table r 0 ≡ r)

-- x was reached from v
pub record Climbed (n : ℕ) (W X : List ℕ) (v x : ℕ) : Type 0 where
  pub falls : Falls n X
  pub low : x ≤ v
  pub keeps : (table : List ℕ) → Forest n table W → Forest n table X
  pub class : (table : List ℕ) → Forest n table W → get_or table x 0 ≡ get_or table v 0

-- v and w were joined: the classes are those of one more pair
pub record Joins (n : ℕ) (W X : List ℕ) (v w : ℕ) : Type 0 where
  pub falls : Falls n X
  pub unites : (table : List ℕ) → Forest n table W → Forest n (united (v, w) table) X

-- the words of the first k nodes are the least members of their classes, and those of the other nodes are as they were
pub record Flattened (n : ℕ) (W X : List ℕ) (k : ℕ) : Type 0 where
  pub falls : Falls n X
  pub done : (table : List ℕ) → Forest n table W → (u : ℕ) → u < k → get_or X u 0 ≡ get_or table u 0
  pub rest : (u : ℕ) → k ≤ u → u < n → get_or X u 0 ≡ get_or W u 0

-- ---- the numbers of the classes

-- the words are a table of least members
pub record Names (n : ℕ) (table W : List ℕ) : Type 0 where
  pub tabled : Tabled n table W
  pub low : (v : ℕ) → v < n → get_or table v 0 ≤ v
  pub leader : (v : ℕ) → v < n → get_or table (get_or table v 0) 0 ≡ get_or table v 0

-- node k, whose least member has the word l, gets its class's number: the next one if k is that member, or else the number that l got
abbrev pub number_of : List ℕ → ℕ → ℕ → ℕ → ℕ
number_of W k count l = cond (eqb l k) count (get_or W l 0)

-- the first k nodes have the numbers of their classes, of which there are as many as counted
pub record Counted (n : ℕ) (W X : List ℕ) (k count : ℕ) : Type 0 where
  pub few : count ≤ k
  pub rest : (u : ℕ) → k ≤ u → u < n → get_or X u 0 ≡ get_or W u 0
  pub sum : (table : List ℕ) → Names n table W → count ≡ new_id (absorbed table) k
  pub done : (table : List ℕ) → Names n table W → (u : ℕ) → u < k → get_or X u 0 ≡ new_id (absorbed table) (get_or table u 0)

-- ---- what merging finds

-- the refusal, or how many classes there are
abbrev pub class_count : Answer Merged → Answer ℕ
class_count = telling (λ m. length m.graph.labels)

-- the answer tells of the graph whether it can be merged, and then the first words are the map
pub record MapMade (g : Graph) (X : List ℕ) (r : Result ℕ Refusal) : Type 0 where
  pub answer : told r ≡ class_count (quotient g)
  pub map : (m : Merged) → quotient g ≡ answered m → Tabled (length g.labels) m.ids X
