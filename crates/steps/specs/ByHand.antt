-- 02, T-02 by hand: lists of steps as bytes, on the empty graph, on P7 and on the most nodes of each version, and what the call gives.
-- Assumes nothing.
use Rattle.std.specs.Prelude.{ℕ, List, [], ◌∷◌, ◌++◌, replicate, take}
use Rattle.graph.specs.Answer.{refusal, ◌carrying◌, Result, writing}
use Rattle.graph.specs.Damage.{p7_form}
use Rattle.steps.specs.Calls.{Built, stopped, built, on_steps}

-- a number below 256 as 4 bytes
abbrev pub four : ℕ → List ℕ
four n = n ∷ 0 ∷ 0 ∷ 0 ∷ []

-- nothing, in version 1
abbrev pub empty_form : List ℕ
empty_form = 79 ∷ 72 ∷ 71 ∷ 1 ∷ 0 ∷ replicate 10 0

-- new_node 5, new_node 6, new_edge 9 from 0 to 1, new_edge 10 from 1 to 0
abbrev pub p6_steps : List ℕ
p6_steps =
    1 ∷ four 5 ++ (1 ∷ four 6 ++ (2 ∷ four 9 ++ (four 1 ++ (four 1 ++ (four 0 ++ (four 1 ++ (2 ∷ four 10 ++ (four 1 ++ (four 1 ++ (four 1 ++ four 0))))))))))

-- P6 with these labels
abbrev pub p6_form : List ℕ
p6_form =
    79 ∷ 72 ∷ 71 ∷ 1 ∷ 0 ∷ 2 ∷ 0 ∷ 2 ∷ 0 ∷ 0 ∷ 0 ∷ 0 ∷ 0 ∷ 0 ∷ 0
    ∷ 5 ∷ 0 ∷ 0 ∷ 0 ∷ 6 ∷ 0 ∷ 0 ∷ 0 ∷ 9 ∷ 0 ∷ 0 ∷ 0 ∷ 10 ∷ 0 ∷ 0 ∷ 0
    ∷ 1 ∷ 0 ∷ 1 ∷ 0 ∷ 0 ∷ 0 ∷ 1 ∷ 0 ∷ 1 ∷ 0 ∷ 1 ∷ 0 ∷ 1 ∷ 0 ∷ 0 ∷ 0 ∷ []

-- unify 0 1, unify 2 0, delete_nodes 1 1
abbrev pub p8_steps : List ℕ
p8_steps = 4 ∷ four 0 ++ (four 1 ++ (4 ∷ four 2 ++ (four 0 ++ (8 ∷ four 2 ++ (four 1 ++ four 1)))))

-- P8: edges 0>0 and 1>1, the pair (1,0)
abbrev pub p8_form : List ℕ
p8_form =
    79 ∷ 72 ∷ 71 ∷ 1 ∷ 0 ∷ 2 ∷ 0 ∷ 2 ∷ 0 ∷ 0 ∷ 0 ∷ 0 ∷ 0 ∷ 1 ∷ 0
    ∷ 7 ∷ 0 ∷ 0 ∷ 0 ∷ 7 ∷ 0 ∷ 0 ∷ 0 ∷ 9 ∷ 0 ∷ 0 ∷ 0 ∷ 10 ∷ 0 ∷ 0 ∷ 0
    ∷ 1 ∷ 0 ∷ 1 ∷ 0 ∷ 0 ∷ 0 ∷ 0 ∷ 0 ∷ 1 ∷ 0 ∷ 1 ∷ 0 ∷ 1 ∷ 0 ∷ 1 ∷ 0 ∷ 1 ∷ 0 ∷ 0 ∷ 0 ∷ []

-- new_operation 3 with source labels 1 and target labels 2, 4; add_edge_source 0 8; add_edge_target 0 9; delete_edges 0
abbrev pub other_steps : List ℕ
other_steps =
    3 ∷ four 3 ++ (four 1 ++ (four 2 ++ (four 1 ++ (four 2 ++ (four 4 ++ (5 ∷ four 0 ++ (four 8 ++ (6 ∷ four 0 ++ (four 9 ++ (7 ∷ four 1 ++ four 0))))))))))

-- of these the first three: nodes 1 2 4 8 9, and 0 3>1 2 4
abbrev pub operation_form : List ℕ
operation_form =
    79 ∷ 72 ∷ 71 ∷ 1 ∷ 0 ∷ 5 ∷ 0 ∷ 1 ∷ 0 ∷ 0 ∷ 0 ∷ 0 ∷ 0 ∷ 0 ∷ 0
    ∷ 1 ∷ 0 ∷ 0 ∷ 0 ∷ 2 ∷ 0 ∷ 0 ∷ 0 ∷ 4 ∷ 0 ∷ 0 ∷ 0 ∷ 8 ∷ 0 ∷ 0 ∷ 0 ∷ 9 ∷ 0 ∷ 0 ∷ 0 ∷ 3 ∷ 0 ∷ 0 ∷ 0
    ∷ 2 ∷ 0 ∷ 3 ∷ 0 ∷ 0 ∷ 0 ∷ 3 ∷ 0 ∷ 1 ∷ 0 ∷ 2 ∷ 0 ∷ 4 ∷ 0 ∷ []

-- the five nodes alone
abbrev pub nodes_form : List ℕ
nodes_form =
    79 ∷ 72 ∷ 71 ∷ 1 ∷ 0 ∷ 5 ∷ 0 ∷ 0 ∷ 0 ∷ 0 ∷ 0 ∷ 0 ∷ 0 ∷ 0 ∷ 0
    ∷ 1 ∷ 0 ∷ 0 ∷ 0 ∷ 2 ∷ 0 ∷ 0 ∷ 0 ∷ 4 ∷ 0 ∷ 0 ∷ 0 ∷ 8 ∷ 0 ∷ 0 ∷ 0 ∷ 9 ∷ 0 ∷ 0 ∷ 0 ∷ []

-- two nodes of label 0, and 1,024 (4 * 256) pairs (0,0); one node, and the pair (0,0)
abbrev pub full_pairs : List ℕ
full_pairs = 79 ∷ 72 ∷ 71 ∷ 1 ∷ 0 ∷ 2 ∷ replicate 8 0 ++ (4 ∷ replicate 4104 0)

abbrev pub pair_form : List ℕ
pair_form = 79 ∷ 72 ∷ 71 ∷ 1 ∷ 0 ∷ 1 ∷ replicate 7 0 ++ (1 ∷ replicate 9 0)

-- a row: a stored graph, steps and a room, and what the call is to give
pub record Row : Type 0 where
  pub form : List ℕ
  pub steps : List ℕ
  pub room : ℕ
  pub gives : Built Result

abbrev pub on : List ℕ → List ℕ → ℕ → Built Result → Row
on form steps room gives = record { form = form; steps = steps; room = room; gives = gives }

-- an answer of these bytes
abbrev pub writes : List ℕ → Built Result
writes form = built (writing form 0)

abbrev pub given : Row → Built Result
given row = on_steps row.form row.steps row.room

abbrev pub table : List Row
table =
    -- no steps; building P6; from P7 to P8; the other kinds
    on p7_form [] 59 (writes p7_form)
    ∷ on empty_form p6_steps 47 (writes p6_form)
    ∷ on p7_form p8_steps 51 (writes p8_form)
    ∷ on empty_form (take 43 other_steps) 53 (writes operation_form)
    ∷ on empty_form other_steps 35 (writes nodes_form)
    -- 10, of the last graph only: it is smaller than the one before it
    ∷ on empty_form other_steps 34 (stopped 0 (refusal 10))
    ∷ on p7_form [] 58 (stopped 0 (refusal 10))
    -- a refusal of the graph read: index zero, and its place; before any step is looked at
    ∷ on (take 58 p7_form) (0 ∷ []) 59 (stopped 0 (5 carrying 58))
    -- 12: unknown kinds; a step cut short in its head, in its lists; after a good step; before the step's own checks; after an earlier 7
    ∷ on p7_form (0 ∷ []) 59 (stopped 0 (refusal 12))
    ∷ on p7_form (9 ∷ []) 59 (stopped 0 (refusal 12))
    ∷ on p7_form (1 ∷ 5 ∷ 0 ∷ 0 ∷ []) 59 (stopped 0 (refusal 12))
    ∷ on p7_form (7 ∷ four 2 ++ four 0) 59 (stopped 0 (refusal 12))
    ∷ on p7_form (1 ∷ four 5 ++ (255 ∷ [])) 99 (stopped 1 (refusal 12))
    ∷ on p7_form (7 ∷ four 2 ++ four 9) 59 (stopped 0 (refusal 12))
    ∷ on p7_form (7 ∷ four 1 ++ (four 9 ++ (0 ∷ []))) 59 (stopped 0 (7 carrying 0))
    -- 7 at its step: a single id; the second entry of the first list; the first entry of the second; an id that only 4 bytes hold
    ∷ on p7_form (1 ∷ four 5 ++ (4 ∷ four 3 ++ four 4)) 99 (stopped 1 (7 carrying 0))
    ∷ on p7_form (2 ∷ four 5 ++ (four 2 ++ (four 1 ++ (four 0 ++ (four 3 ++ four 0))))) 99 (stopped 0 (7 carrying 1))
    ∷ on p7_form (2 ∷ four 5 ++ (four 2 ++ (four 1 ++ (four 0 ++ (four 2 ++ four 3))))) 99 (stopped 0 (7 carrying 0))
    ∷ on p7_form (8 ∷ four 2 ++ (four 0 ++ (0 ∷ 0 ∷ 1 ∷ 0 ∷ []))) 99 (stopped 0 (7 carrying 1))
    -- ids are those of the graph that the earlier steps gave: node 3 is new
    ∷ on p7_form (1 ∷ four 5 ++ (8 ∷ four 1 ++ four 3)) 59 (writes p7_form)
    -- version 1 is outgrown and fits again: one pair more than its limit, and node 0 deleted with all of its pairs
    ∷ on full_pairs (4 ∷ four 1 ++ (four 1 ++ (8 ∷ four 1 ++ four 0))) 23 (writes pair_form)
    ∷ on full_pairs (4 ∷ four 1 ++ four 1) 8233 (writes (79 ∷ 72 ∷ 71 ∷ 2 ∷ 0 ∷ 2 ∷ replicate 15 0 ++ (1 ∷ 4 ∷ 0 ∷ 0 ∷ replicate 8200 0 ++ (1 ∷ 0 ∷ 0 ∷ 0 ∷ 1 ∷ 0 ∷ 0 ∷ 0 ∷ []))))
    ∷ []
