-- 02, T-02: what a call with a list of steps answers. A read, the steps one after the other, and the last graph's form: each step is found (12), checked (7) and
-- limited (9) before the next one is looked at; 10 of the last graph only.
-- Assumes nothing.
use Rattle.std.specs.Prelude.{ℕ, suc, ◌+◌, ◌*◌, List, [], ◌∷◌, length, leb}
use Rattle.graph.specs.Lists.{all_below, first_bad}
use Rattle.graph.specs.Graph.{Graph, largest, within_limits}
use Rattle.graph.specs.Answer.{Refusal, Answer, refused, answered, refusal, ◌carrying◌, Result, lay, ◌else◌, ◌>>=◌, ◌>>◌}
use Rattle.graph.specs.Versions.{read}
use Rattle.graph.specs.Build.{new_node, new_edge, new_operation, unify, add_edge_source, add_edge_target}
use Rattle.graph.specs.Delete.{delete_edges, delete_nodes}
use Rattle.graph.specs.Calls.{known, made}
use Rattle.steps.specs.Steps.{Step, node_step, edge_step, operation_step, pair_step, source_step, target_step, without_edges_step, without_nodes_step, steps_in}

-- ---- a step

-- 7: ids of which one is not below its count, carrying the index of the first such
unfoldable pub known_all : ℕ → List ℕ → Answer (List ℕ)
known_all count ids = do
  all_below count ids else 7 carrying first_bad count ids
  answered ids

-- what a step makes of a graph, as its call would: ids given singly carry 0, in a list the entry's index
unfoldable pub stepped : Step → Graph → Answer Graph
stepped (node_step label) g = answered (new_node label g)
stepped (edge_step label sources targets) g = do
  sources ← known_all (length g.labels) sources
  targets ← known_all (length g.labels) targets
  answered (new_edge label sources targets g)
stepped (operation_step label sources targets) g = answered (new_operation label sources targets g)
stepped (pair_step v w) g = do
  v ← known (length g.labels) v
  w ← known (length g.labels) w
  answered (unify v w g)
stepped (source_step edge label) g = do
  edge ← known (length g.edges) edge
  answered (add_edge_source edge label g)
stepped (target_step edge label) g = do
  edge ← known (length g.edges) edge
  answered (add_edge_target edge label g)
stepped (without_edges_step ids) g = do
  gone ← known_all (length g.edges) ids
  answered (delete_edges gone g)
stepped (without_nodes_step ids) g = do
  gone ← known_all (length g.labels) ids
  answered (delete_nodes gone g)

-- 9 "at every step"
unfoldable pub limited : Graph → Answer Graph
limited g = do
  within_limits largest g else refusal 9
  answered g

-- a step that was read or refused, carried out: 12 comes "before its own checks"
unfoldable pub turn : Answer Step → Graph → Answer Graph
turn step g = do
  step ← step
  h ← stepped step g
  limited h

-- ---- the steps

-- "A refusal at a step refuses the whole call, with that refusal's number and the step's index from 0"
pub data Built (A : Type 0) : Type 0 where
  stopped : (index : ℕ) → Refusal → Built A
  built : A → Built A

infixl 11 ◌at_step◌
infixr 10 ◌then◌
unfoldable pub ◌at_step◌ : {A : Type 0} → Answer A → ℕ → Built A
◌at_step◌ (refused r) k = stopped k r
◌at_step◌ (answered a) k = built a

unfoldable pub ◌then◌ : {A B : Type 0} → Built A → (A → Built B) → Built B
◌then◌ (stopped k r) next = stopped k r
◌then◌ (built a) next = next a

-- steps from this index on, one after the other
abbrev pub turns : ℕ → List (Answer Step) → Graph → Built Graph
turns k [] g = built g
turns k (step ∷ steps) g = (turn step g) at_step k then λ h. turns (suc k) steps h

-- ---- the call

-- "A refusal of the graph read, and 10, carry index zero"; "10 is tried for the last graph only"
unfoldable pub on_steps : List ℕ → List ℕ → ℕ → Built Result
on_steps b steps room =
    read b at_step 0 then λ s. turns 0 (steps_in steps) s.graph then λ g. made room (record { graph = g; id = 0 }) at_step 0

-- 10 before all else: work room shorter than docs/ says for the call
unfoldable pub built_in_room : {A : Type 0} → ℕ → ℕ → Built A → Built A
built_in_room needed lent answer = (leb needed lent else refusal 10) at_step 0 then λ u. answer

-- the tables: half, node and next port of each port; the first port of each half; node labels, edge labels, global lists, pairs; and a map of nodes or edges
abbrev pub room_build : ℕ
room_build =
    4 * (3 * largest.most_ports + 2 * largest.most.edges + (largest.most.nodes + largest.most.edges) + (largest.most.sources + largest.most.targets)
    + 2 * largest.most.pairs + (largest.most.nodes + largest.most.edges))

abbrev pub build_call : List ℕ → List ℕ → ℕ → ℕ → Built Result
build_call b steps room work_room = built_in_room room_build work_room (on_steps b steps room)

-- what the answer buffer holds after it: a refusal does not write to it
abbrev pub laid_built : Built Result → List ℕ → List ℕ
laid_built (stopped k r) old = old
laid_built (built x) old = lay x.bytes old
