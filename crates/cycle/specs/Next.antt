-- The top of the queue is made to agree with the present degrees: a stale top is replaced by the present key, which sinks. Nothing is ever taken out:
-- the key of a node that has gone has score 0 and sinks below every live one, so the queue keeps its length. Assumes nothing.
use Rattle.std.specs.Prelude.{◌≡◌, Bool, ◌&&◌, not, List, ℕ, ◌+◌, ◌*◌, ◌<◌, eqb, ltb, get_or, take}
use Rattle.cycle.specs.declared.Candidate.{Candidate}
use Rattle.tables.specs.Tables.{picked_at, queue_at}
use Rattle.le.specs.Le.{Outside}
use Rattle.queue.specs.Keys.{id_of, key_now, Queued}
use Rattle.queue.specs.Places.{keys_in}

-- node v with i arcs in and o arcs out
abbrev pub candidate_of : ℕ → ℕ → ℕ → Candidate
candidate_of v i o = record { score = i * o; id = v; indegree = i; outdegree = o }

-- which vertices may be chosen: the nodes that are not flagged as kept
abbrev pub may : List ℕ → ℕ → ℕ → Bool
may W nodes v = ltb v nodes && not (eqb (get_or W (picked_at + v) 0) 2)

-- no node is flagged as kept
abbrev pub NoneKept : List ℕ → ℕ → Type 0
NoneKept W nodes = (v : ℕ) → v < nodes → get_or W (picked_at + v) 0 ≡ 2 → ⊥

-- the degrees of the halves of n vertices
abbrev pub degrees_in : List ℕ → ℕ → List ℕ
degrees_in W n = take (2 * n) W

-- the top is node v with its present key
pub record Agreed (W X : List ℕ) (nodes n m v : ℕ) : Type 0 where
  pub queued : Queued (may W nodes) (degrees_in X n) (keys_in X queue_at m)
  pub is : v ≡ id_of (get_or (keys_in X queue_at m) 0 0)
  pub agrees : key_now (degrees_in X n) v ≡ get_or (keys_in X queue_at m) 0 0
  pub frame : Outside queue_at (queue_at + 2 * m) W X
