-- 02, T-02: the same by the exported single calls, one after the other, each on the bytes that the one before it answered.
-- Assumes nothing.
use Rattle.std.specs.Prelude.{ℕ, suc, ◌+◌, ◌*◌, ◌-◌, ◌^◌, min, ◌≡◌, List, [], ◌∷◌, ◌++◌, map, length}
use Rattle.le.specs.Le.{Below, row}
use Rattle.graph.specs.Graph.{largest}
use Rattle.graph.specs.Form.{form_bytes}
use Rattle.graph.specs.Answer.{Refusal, Answer, refused, answered, reply, Result, writing, ◌>>=◌}
use Rattle.graph.specs.Versions.{read}
use Rattle.graph.specs.Calls.{fit, new_node_call, new_edge_call, new_operation_call, unify_call, add_edge_source_call, add_edge_target_call, room_delete_edges, delete_edges_call, room_delete_nodes, delete_nodes_call}
use Rattle.steps.specs.Steps.{Step, node_step, edge_step, operation_step, pair_step, source_step, target_step, without_edges_step, without_nodes_step, head_of, lists_of}
use Rattle.steps.specs.Calls.{Built, built, ◌at_step◌, ◌then◌}

-- ---- one call

-- "room enough": the largest form, and the longest map
abbrev pub enough : ℕ
enough = form_bytes largest largest.most largest.most_ports

abbrev pub enough_map : ℕ
enough_map = largest.most.nodes * largest.width

-- the bytes of an id in a list beside these bytes: the width of the graph read
unfoldable pub width_of : List ℕ → ℕ
width_of b = reply 2 (λ s. s.format.width) (read b)

-- a list of ids of this width; one that has no room in its bytes is sent as the largest that has, which no graph of the width has either
abbrev pub sent_id : ℕ → ℕ → ℕ
sent_id w id = min id (256 ^ w - 1)

abbrev pub sent : ℕ → List ℕ → List ℕ
sent w ids = row w (map (sent_id w) ids)

-- the call of a step on stored bytes, by its exported name
abbrev pub call_of : Step → List ℕ → Answer Result
call_of (node_step label) b = new_node_call b label enough
call_of (edge_step label sources targets) b = new_edge_call b label (sent (width_of b) sources) (sent (width_of b) targets) enough
call_of (operation_step label sources targets) b = new_operation_call b label (row 4 sources) (row 4 targets) enough
call_of (pair_step v w) b = unify_call b v w enough
call_of (source_step edge label) b = add_edge_source_call b edge label enough
call_of (target_step edge label) b = add_edge_target_call b edge label enough
call_of (without_edges_step ids) b = delete_edges_call b (sent (width_of b) ids) enough room_delete_edges
call_of (without_nodes_step ids) b = delete_nodes_call b (sent (width_of b) ids) enough enough_map room_delete_nodes

-- the bytes of the graph that it answers; "no maps or ids are answered"
unfoldable pub single : Step → List ℕ → Answer (List ℕ)
single step b = do
  m ← call_of step b
  answered m.bytes

-- a step that was read or refused
abbrev pub single_of : Answer Step → List ℕ → Answer (List ℕ)
single_of step b = step >>= λ x. single x b

-- ---- one after the other

-- "the graph that the steps one by one would give with room enough at each"
abbrev pub singly : ℕ → List (Answer Step) → List ℕ → Built (List ℕ)
singly k [] b = built b
singly k (step ∷ steps) b = (single_of step b) at_step k then λ form. singly (suc k) steps form

-- the last form, into the room
unfoldable pub lastly : ℕ → List ℕ → Built Result
lastly room form = (fit room form >>= λ form. answered (writing form 0)) at_step 0

-- the first call that refuses: the steps before it give a form, on which it is refused so
pub record StopsAt (k : ℕ) (steps : List (Answer Step)) (b : List ℕ) (index : ℕ) (r : Refusal) : Type 0 where
  pub before : List (Answer Step)
  pub step : Answer Step
  pub after : List (Answer Step)
  pub form : List ℕ
  pub split : steps ≡ before ++ (step ∷ after)
  pub counted : index ≡ k + length before
  pub given : singly k before b ≡ built form
  pub refuses : single_of step form ≡ refused r

-- ---- steps as bytes

-- a step whose numbers fit their 4 bytes
pub record Writable (step : Step) : Type 0 where
  pub head : Below (256 ^ 4) (head_of step)
  pub lists : Below (256 ^ 4) (lists_of step)

-- each step that was read is such
abbrev pub AllWritable : List (Answer Step) → Type 0
AllWritable [] = Unit {0}
AllWritable (refused r ∷ steps) = AllWritable steps
AllWritable (answered x ∷ steps) = Writable x × AllWritable steps
