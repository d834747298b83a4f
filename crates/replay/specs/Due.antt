-- What a recorded call is by the definitions, and when it agrees.
-- Assumes nothing.
use Rattle.std.specs.Prelude.{ℕ, ◌-◌, ◌≡◌, cond, ◌&&◌, ◌||◌, List, [], eqb, leb, length, take, drop, replicate}
use Rattle.graph.specs.Answer.{Answer, Result, refused, refusal, laid, laid_map}
use Rattle.graph.specs.Calls.{read_call, rewrite_call, empty_call, discrete_call, identity_call, singleton_call, new_node_call, new_edge_call, new_operation_call, unify_call, add_edge_source_call, add_edge_target_call, delete_edges_call, delete_nodes_call, quotient_call, spiderize_call, spiderize_nodes_call, once_fed_call}
use Rattle.choice.specs.Calls.{cycle_breaking_nodes_call, cycle_breaking_nodes_keeping_call, cycle_breaking_nodes_scanning_call, find_loop_call, no_loop_call, reasons_call}
use Rattle.packing.specs.Packed.{packed}
use Rattle.replay.specs.declared.list.Record.{Record}

-- the bytes of the list from one place up to another, none where they do not lie in it
unfoldable pub part_of : List ℕ → ℕ → ℕ → List ℕ
part_of list from to = cond (leb from to && leb to (length list)) (take (to - from) (drop from list)) []

-- what is handed to a call: numbers, inputs, and the lengths of its answer buffer, its map and its work room; what it does not take is 0 or empty
pub record Handed : Type 0 where
  pub x : ℕ
  pub y : ℕ
  pub one : List ℕ
  pub two : List ℕ
  pub three : List ℕ
  pub out : ℕ
  pub map : ℕ
  pub room : ℕ

-- the answer of the call of this number, by the definition of its own name
unfoldable pub answer_to : ℕ → Handed → Answer Result
answer_to n h =
    cond (eqb n 0) (read_call h.one h.out)
    (cond (eqb n 1) (rewrite_call h.one h.out)
    (cond (eqb n 2) (empty_call h.out)
    (cond (eqb n 3) (discrete_call h.one h.out)
    (cond (eqb n 4) (identity_call h.one h.out)
    (cond (eqb n 5) (singleton_call h.x h.one h.two h.out)
    (cond (eqb n 6) (new_node_call h.one h.x h.out)
    (cond (eqb n 7) (new_edge_call h.one h.x h.two h.three h.out)
    (cond (eqb n 8) (new_operation_call h.one h.x h.two h.three h.out)
    (cond (eqb n 9) (unify_call h.one h.x h.y h.out)
    (cond (eqb n 10) (add_edge_source_call h.one h.x h.y h.out)
    (cond (eqb n 11) (add_edge_target_call h.one h.x h.y h.out)
    (cond (eqb n 12) (delete_edges_call h.one h.two h.out h.room)
    (cond (eqb n 13) (delete_nodes_call h.one h.two h.out h.map h.room)
    (cond (eqb n 14) (cycle_breaking_nodes_call h.one h.out h.room)
    (cond (eqb n 15) (spiderize_call h.one h.out h.room)
    (cond (eqb n 16) (spiderize_nodes_call h.one h.two h.out h.room)
    (cond (eqb n 17) (no_loop_call h.one h.room)
    (cond (eqb n 18) (once_fed_call h.one h.room)
    (cond (eqb n 19) (quotient_call h.one h.out h.map h.room)
    (cond (eqb n 20) (cycle_breaking_nodes_keeping_call h.one h.two h.out h.room)
    (cond (eqb n 21) (cycle_breaking_nodes_scanning_call h.one h.two h.out h.room)
    (cond (eqb n 22) (find_loop_call h.one h.out h.room)
    (cond (eqb n 23) (reasons_call h.one h.out h.room)
    (refused (refusal 0)))))))))))))))))))))))))

-- what the answer buffer holds afterwards: the two checks have none
unfoldable pub out_after : ℕ → Answer Result → List ℕ → List ℕ
out_after n a old = cond (eqb n 17 || eqb n 18) old (laid a old)

-- and the buffer of a map: two calls answer one
unfoldable pub map_after : ℕ → Answer Result → List ℕ → List ℕ
map_after n a old = cond (eqb n 13 || eqb n 19) (laid_map a old) old

-- the number that is due is the one that the definition gives, and so are the bytes of both buffers
pub record Agreed (n : ℕ) (h : Handed) (due : ℕ) (old new old_map new_map : List ℕ) : Type 0 where
  pub number : due ≡ packed (answer_to n h)
  pub buffer : new ≡ out_after n (answer_to n h) old
  pub map : new_map ≡ map_after n (answer_to n h) old_map

-- what a record of the list hands to its call, with answer buffers and work room of these lengths
unfoldable pub handed_by : List ℕ → Record → ℕ → ℕ → ℕ → Handed
handed_by list q out map room = record {
  x = q.numbers.one;
  y = q.numbers.two;
  one = part_of list q.inputs.one.from q.inputs.one.to;
  two = part_of list q.inputs.two.from q.inputs.two.to;
  three = part_of list q.inputs.three.from q.inputs.three.to;
  out = out;
  map = map;
  room = room;
}

-- what every answer buffer is filled with before a call
abbrev pub filled : ℕ → List ℕ
filled n = replicate n 165

-- a record says what the definitions say: the number, and the bytes of both buffers, which had been filled, of some lengths
pub record Due (list : List ℕ) (q : Record) : Type 0 where
  pub out : ℕ
  pub map : ℕ
  pub agreed : Agreed q.operation (handed_by list q out map q.room) q.due (filled out) (part_of list q.answers.one.from q.answers.one.to) (filled map) (part_of list q.answers.two.from q.answers.two.to)
