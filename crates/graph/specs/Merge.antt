-- 02, T-01: the pending pairs carried out.
-- Assumes nothing.
use Rattle.std.specs.Prelude.{ℕ, min, ◌≤◌, Bool, not, cond, ◌||◌, length, get_or, eqb}
use mathlib.Core.List.{List, [], ◌∷◌, map, Memᴰ}
use Rattle.graph.specs.Lists.{range, same}
use Rattle.graph.specs.Graph.{Edge, Graph}
use Rattle.graph.specs.Answer.{Answer, answered, refusal, ◌else◌, ◌>>◌}
use Rattle.graph.specs.Delete.{new_id, remaining}

-- ---- what a class is

-- "nodes joined by pairs": the least equivalence that holds of the pairs
pub data Joined (pairs : List (ℕ × ℕ)) : ℕ → ℕ → Type 0 where
  paired : {v w : ℕ} → Memᴰ (v, w) pairs → Joined pairs v w
  itself : {v : ℕ} → Joined pairs v v
  turned : {v w : ℕ} → Joined pairs v w → Joined pairs w v
  onward : {u v w : ℕ} → Joined pairs u v → Joined pairs v w → Joined pairs u w

-- "their least member": l is in v's class, and nothing below it is
pub record Least (pairs : List (ℕ × ℕ)) (v l : ℕ) : Type 0 where
  pub inside : Joined pairs v l
  pub lowest : (w : ℕ) → Joined pairs v w → l ≤ w

-- ---- the classes as a table: at place v, the least member of v's class

-- one more pair makes one class of two; its least member is the lesser of theirs
abbrev pub united : ℕ × ℕ → List ℕ → List ℕ
united p table =
    let a = get_or table p.0 0 in
    let b = get_or table p.1 0 in
    map (λ l. cond (eqb l a || eqb l b) (min a b) l) table

-- without pairs each of the n nodes is a class of its own
abbrev pub leaders : ℕ → List (ℕ × ℕ) → List ℕ
leaders n [] = range 0 n
leaders n (p ∷ ps) = united p (leaders n ps)

-- that of a graph. hypergraph.rs, `coequalizer`
abbrev pub classes : Graph → List ℕ
classes g = leaders (length g.labels) g.pairs

-- ---- the graph with one node for each class

-- v is not the least member of its class
abbrev pub absorbed : List ℕ → ℕ → Bool
absorbed table v = not (eqb (get_or table v 0) v)

-- "numbered in order of their least member": a class's number is how many least members are below its own.
-- "a map .. for each old node": the number of its class
abbrev pub numbered : List ℕ → List ℕ
numbered table = map (new_id (absorbed table)) table

-- ids looked up in such a map
abbrev pub looked : List ℕ → List ℕ → List ℕ
looked table ids = map (λ id. get_or table id 0) ids

abbrev pub looked_edge : List ℕ → Edge → Edge
looked_edge new e = record { label = e.label; sources = looked new e.sources; targets = looked new e.targets }

-- "become one node each, .. all entries renamed, no pairs left"; the new ids are handed in
abbrev pub contracted : List ℕ → List ℕ → Graph → Graph
contracted table new g = record {
  labels = remaining (absorbed table) 0 g.labels;
  edges = map (looked_edge new) g.edges;
  sources = looked new g.sources;
  targets = looked new g.targets;
  pairs = [];
}

-- the new graph, and the new id of each old node
pub record Merged : Type 0 where
  pub graph : Graph
  pub ids : List ℕ

abbrev pub merged : Graph → Merged
merged g = let new = numbered (classes g) in record { graph = contracted (classes g) new g; ids = new }

-- no "two nodes of one class have different labels": each has the label of its class's least member
abbrev pub agreeing : Graph → Bool
agreeing g = same (looked g.labels (classes g)) g.labels

-- 11: two nodes of one class have different labels. open_hypergraph.rs, `quotient`
unfoldable pub quotient : Graph → Answer Merged
quotient g = do
  agreeing g else refusal 11
  answered (merged g)
