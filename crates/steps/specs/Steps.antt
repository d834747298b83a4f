-- 02, T-02, "Many building steps in one call": the steps, and their layout. A byte of kind, then 4-byte numbers, whatever the version of the graph: first those
-- that every step of the kind has, with the counts of its lists; then the lists.
-- Assumes nothing.
use Rattle.std.specs.Prelude.{ℕ, zero, suc, ◌+◌, ◌*◌, List, [], ◌∷◌, ◌++◌, cond, ◌||◌, length, get_or, take, drop, leb, ltb, eqb}
use Rattle.le.specs.Le.{row, numbers}
use Rattle.graph.specs.Lists.{joined}
use Rattle.graph.specs.Answer.{Answer, refused, answered, refusal, ◌else◌, ◌>>◌}

-- "building and deleting steps (the eight calls of `hypergraph.rs` that read a graph ..)"
pub data Step : Type 0 where
  node_step : (label : ℕ) → Step
  edge_step : (label : ℕ) (sources targets : List ℕ) → Step
  operation_step : (label : ℕ) (sources targets : List ℕ) → Step
  pair_step : (v w : ℕ) → Step
  source_step : (edge label : ℕ) → Step
  target_step : (edge label : ℕ) → Step
  without_edges_step : (ids : List ℕ) → Step
  without_nodes_step : (ids : List ℕ) → Step

-- ---- a step as bytes

abbrev pub kind_of : Step → ℕ
kind_of (node_step label) = 1
kind_of (edge_step label sources targets) = 2
kind_of (operation_step label sources targets) = 3
kind_of (pair_step v w) = 4
kind_of (source_step edge label) = 5
kind_of (target_step edge label) = 6
kind_of (without_edges_step ids) = 7
kind_of (without_nodes_step ids) = 8

abbrev pub head_of : Step → List ℕ
head_of (node_step label) = label ∷ []
head_of (edge_step label sources targets) = label ∷ length sources ∷ length targets ∷ []
head_of (operation_step label sources targets) = label ∷ length sources ∷ length targets ∷ []
head_of (pair_step v w) = v ∷ w ∷ []
head_of (source_step edge label) = edge ∷ label ∷ []
head_of (target_step edge label) = edge ∷ label ∷ []
head_of (without_edges_step ids) = length ids ∷ []
head_of (without_nodes_step ids) = length ids ∷ []

abbrev pub lists_of : Step → List ℕ
lists_of (node_step label) = []
lists_of (edge_step label sources targets) = sources ++ targets
lists_of (operation_step label sources targets) = sources ++ targets
lists_of (pair_step v w) = []
lists_of (source_step edge label) = []
lists_of (target_step edge label) = []
lists_of (without_edges_step ids) = ids
lists_of (without_nodes_step ids) = ids

-- a step as bytes, and steps one after the other
abbrev pub step_bytes : Step → List ℕ
step_bytes step = kind_of step ∷ (row 4 (head_of step) ++ row 4 (lists_of step))

abbrev pub steps_bytes : List Step → List ℕ
steps_bytes = joined step_bytes

-- ---- reading steps

-- how many numbers a step of this kind begins with; 0 for an unknown kind
abbrev pub head_numbers : ℕ → ℕ
head_numbers kind = get_or (0 ∷ 1 ∷ 3 ∷ 3 ∷ 2 ∷ 2 ∷ 2 ∷ 1 ∷ 1 ∷ []) kind 0

-- how many entries its lists have: both counts of kinds 2 and 3, the count of 7 and 8
abbrev pub list_numbers : ℕ → List ℕ → ℕ
list_numbers kind head =
    cond (eqb kind 2 || eqb kind 3) (get_or head 1 0 + get_or head 2 0) (cond (eqb kind 7 || eqb kind 8) (get_or head 0 0) 0)

-- the step of a known kind with these numbers
abbrev pub step_of : ℕ → List ℕ → List ℕ → Step
step_of kind head lists =
    let a = get_or head 0 0 in
    let b = get_or head 1 0 in
    cond (eqb kind 1) (node_step a) (cond (eqb kind 2) (edge_step a (take b lists) (drop b lists)) (cond (eqb kind 3) (operation_step a (take b lists) (drop b lists))
    (cond (eqb kind 4) (pair_step a b) (cond (eqb kind 5) (source_step a b) (cond (eqb kind 6) (target_step a b)
    (cond (eqb kind 7) (without_edges_step lists) (without_nodes_step lists)))))))

-- the step of this kind, and the bytes that follow it: "12, a step of unknown kind or cut short"
unfoldable pub read_step : ℕ → List ℕ → Answer (Step × List ℕ)
read_step kind b = do
  let n = head_numbers kind
  ltb 0 n else refusal 12
  leb (n * 4) (length b) else refusal 12
  let head = numbers 4 n b
  let body = drop (n * 4) b
  let m = list_numbers kind head
  leb (m * 4) (length body) else refusal 12
  answered (step_of kind head (numbers 4 m body), drop (m * 4) body)

-- the steps in turn, at most so many; one that is refused is the last, since nothing after it can be read
abbrev pub steps_within : ℕ → List ℕ → List (Answer Step)
steps_within zero b = []
steps_within (suc most) [] = []
steps_within (suc most) (kind ∷ b) = elim (read_step kind b) [
  | refused r ↦ refused r ∷ []
  | answered x ↦ answered x.0 ∷ steps_within most x.1
]

-- all of them: each has a byte at least
abbrev pub steps_in : List ℕ → List (Answer Step)
steps_in b = steps_within (length b) b
