-- 02, T-06, by hand: P7's 59 bytes with each kind of damage, lists and ids that are bad, and how each is refused.
-- Assumes nothing.
use Rattle.std.specs.Prelude.{ℕ, List, [], ◌∷◌, ◌++◌, set, take}
use Rattle.graph.specs.Answer.{Refusal, Answer, refused, answered, ◌carrying◌}
use Rattle.graph.specs.Calls.{new_edge_call, new_operation_call, unify_call, add_edge_target_call, discrete_call}

-- 01's bytes of P7: the header; from 15 the node labels; from 27 the edge labels; from 35 one edge, from 47 the other
abbrev pub p7_form : List ℕ
p7_form =
    79 ∷ 72 ∷ 71 ∷ 1 ∷ 0 ∷ 3 ∷ 0 ∷ 2 ∷ 0 ∷ 0 ∷ 0 ∷ 0 ∷ 0 ∷ 0 ∷ 0
    ∷ 7 ∷ 0 ∷ 0 ∷ 0 ∷ 7 ∷ 0 ∷ 0 ∷ 0 ∷ 7 ∷ 0 ∷ 0 ∷ 0 ∷ 9 ∷ 0 ∷ 0 ∷ 0 ∷ 10 ∷ 0 ∷ 0 ∷ 0
    ∷ 1 ∷ 0 ∷ 3 ∷ 0 ∷ 0 ∷ 0 ∷ 0 ∷ 0 ∷ 1 ∷ 0 ∷ 1 ∷ 0
    ∷ 3 ∷ 0 ∷ 1 ∷ 0 ∷ 1 ∷ 0 ∷ 1 ∷ 0 ∷ 2 ∷ 0 ∷ 2 ∷ 0 ∷ []

-- no damage, of which there is no refusal
abbrev pub none : Refusal
none = 0 carrying 0

-- the refusal of an answer
abbrev pub refusal_of : {A : Type 0} → Answer A → Refusal
refusal_of (refused r) = r
refusal_of (answered a) = none

abbrev pub damaged : List (List ℕ × Refusal)
damaged =
    (p7_form, none)
    -- 1: no bytes, 14 bytes
    ∷ ([], 1 carrying 0)
    ∷ (take 14 p7_form, 1 carrying 14)
    -- 2: the first byte changed, the second
    ∷ (set p7_form 0 78, 2 carrying 0)
    ∷ (set p7_form 1 73, 2 carrying 0)
    -- 3: version 7, version 257
    ∷ (set p7_form 3 7, 3 carrying 3)
    ∷ (set p7_form 4 1, 3 carrying 3)
    -- 4: 2,049 nodes; 2,050 edges; 2,048 in a global list; 1,025 pairs; nodes and pairs
    ∷ (set (set p7_form 5 1) 6 8, 4 carrying 5)
    ∷ (set p7_form 8 8, 4 carrying 7)
    ∷ (set p7_form 10 8, 4 carrying 9)
    ∷ (set p7_form 12 8, 4 carrying 11)
    ∷ (set (set p7_form 13 1) 14 4, 4 carrying 13)
    ∷ (set (set p7_form 14 8) 6 8, 4 carrying 5)
    -- read as version 2: 131,075 nodes; cut before its 25 bytes
    ∷ (set p7_form 3 2, 4 carrying 5)
    ∷ (take 24 (set p7_form 3 2), 5 carrying 24)
    -- 5: cut within the labels, an edge's counts, an edge's ids, the other edge's counts, its last id
    ∷ (take 34 p7_form, 5 carrying 34)
    ∷ (take 38 p7_form, 5 carrying 38)
    ∷ (take 46 p7_form, 5 carrying 46)
    ∷ (take 49 p7_form, 5 carrying 49)
    ∷ (take 58 p7_form, 5 carrying 58)
    -- 4: the port sum passes with 8,193 sources, with 8,195 targets; at the other edge with 8,195 sources, with 8,193 targets
    ∷ (set p7_form 36 32, 4 carrying 35)
    ∷ (set p7_form 38 32, 4 carrying 37)
    ∷ (set p7_form 48 32, 4 carrying 47)
    ∷ (set p7_form 50 32, 4 carrying 49)
    -- 8,188 sources are within the limit after 4 ports, but they are not there, and with one target it passes
    ∷ (set (set p7_form 47 252) 48 31, 4 carrying 49)
    -- 5: a count of an edge too large; a global source that is not there; a byte and three too many; a target fewer, so two bytes too many
    ∷ (set p7_form 49 5, 5 carrying 59)
    ∷ (set p7_form 9 1, 5 carrying 59)
    ∷ (p7_form ++ (0 ∷ []), 5 carrying 59)
    ∷ (p7_form ++ (0 ∷ 0 ∷ 0 ∷ []), 5 carrying 59)
    ∷ (set p7_form 49 0, 5 carrying 57)
    -- 6: the first id, one by its high byte, the last; two of them; a global source; the second of a pair
    ∷ (set p7_form 39 3, 6 carrying 39)
    ∷ (set p7_form 44 1, 6 carrying 43)
    ∷ (set p7_form 57 3, 6 carrying 57)
    ∷ (set (set p7_form 57 3) 41 7, 6 carrying 41)
    ∷ (set p7_form 9 1 ++ (5 ∷ 0 ∷ []), 6 carrying 59)
    ∷ (set p7_form 13 1 ++ (2 ∷ 0 ∷ 3 ∷ 0 ∷ []), 6 carrying 61)
    ∷ []

-- 7, of calls on P7: single ids; the first bad id of a list; a list of three bytes; a broken end before a bad id; the first list before the second; labels
abbrev pub calls : List (Refusal × Refusal)
calls =
    (refusal_of (unify_call p7_form 0 3 99), 7 carrying 0)
    ∷ (refusal_of (add_edge_target_call p7_form 2 5 99), 7 carrying 0)
    ∷ (refusal_of (new_edge_call p7_form 5 (0 ∷ 0 ∷ 3 ∷ 0 ∷ 4 ∷ 0 ∷ []) [] 99), 7 carrying 1)
    ∷ (refusal_of (new_edge_call p7_form 5 (0 ∷ 0 ∷ 1 ∷ []) [] 99), 7 carrying 1)
    ∷ (refusal_of (new_edge_call p7_form 5 (9 ∷ 0 ∷ 1 ∷ 0 ∷ 2 ∷ []) [] 99), 7 carrying 2)
    ∷ (refusal_of (new_edge_call p7_form 5 (0 ∷ 0 ∷ 0 ∷ 1 ∷ []) (9 ∷ []) 99), 7 carrying 1)
    ∷ (refusal_of (new_edge_call p7_form 5 (0 ∷ 0 ∷ []) (1 ∷ 0 ∷ 2 ∷ 0 ∷ 3 ∷ 0 ∷ []) 99), 7 carrying 2)
    ∷ (refusal_of (new_operation_call p7_form 5 (0 ∷ 0 ∷ 0 ∷ 0 ∷ []) (0 ∷ 0 ∷ 0 ∷ 0 ∷ 0 ∷ 0 ∷ []) 99), 7 carrying 1)
    ∷ (refusal_of (discrete_call (0 ∷ 0 ∷ 0 ∷ []) 99), 7 carrying 0)
    -- and one that carries zero: 10, of the room; then it is enough
    ∷ (refusal_of (new_edge_call p7_form 5 (0 ∷ 0 ∷ []) [] 68), 10 carrying 0)
    ∷ (refusal_of (new_edge_call p7_form 5 (0 ∷ 0 ∷ []) [] 69), none)
    ∷ []
