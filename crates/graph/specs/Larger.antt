-- 02, T-05, by hand: forms of both versions, for what reading them and calls on them give.
-- Assumes nothing.
use Rattle.std.specs.Prelude.{ℕ, List, [], ◌∷◌, ◌++◌, replicate}
use Rattle.graph.specs.Answer.{Refusal, ◌carrying◌}
use Rattle.graph.specs.Graph.{Graph}
use Rattle.graph.specs.Build.{empty, with_interface, with_nodes}

-- mark and version 2, and five counts of 4 bytes that are below 256
abbrev pub head2 : ℕ → ℕ → ℕ → ℕ → ℕ → List ℕ
head2 n e s t p =
    79 ∷ 72 ∷ 71 ∷ 2 ∷ 0 ∷ n ∷ 0 ∷ 0 ∷ 0 ∷ e ∷ 0 ∷ 0 ∷ 0 ∷ s ∷ 0 ∷ 0 ∷ 0 ∷ t ∷ 0 ∷ 0 ∷ 0 ∷ p ∷ 0 ∷ 0 ∷ 0 ∷ []

-- a form, and how it is refused
pub record Broken : Type 0 where
  pub form : List ℕ
  pub why : Refusal

infix 10 ◌by◌
abbrev pub ◌by◌ : List ℕ → Refusal → Broken
form by r = record { form = form; why = r }

-- 14 bytes; another mark; versions 0, 3 and 256; a header of version 2 of 24 bytes; 16,385 nodes; one node and no label; 65,537 ports at the only edge;
-- an id that is the node count; the empty graph, and one node, in version 2
abbrev pub broken : List Broken
broken =
    (79 ∷ 72 ∷ 71 ∷ 2 ∷ 0 ∷ replicate 9 0 by 1 carrying 14)
    ∷ (79 ∷ 72 ∷ 72 ∷ 2 ∷ 0 ∷ replicate 20 0 by 2 carrying 0)
    ∷ (79 ∷ 72 ∷ 71 ∷ 0 ∷ 0 ∷ replicate 20 0 by 3 carrying 3)
    ∷ (79 ∷ 72 ∷ 71 ∷ 3 ∷ 0 ∷ replicate 20 0 by 3 carrying 3)
    ∷ (79 ∷ 72 ∷ 71 ∷ 0 ∷ 1 ∷ replicate 20 0 by 3 carrying 3)
    ∷ (79 ∷ 72 ∷ 71 ∷ 2 ∷ 0 ∷ replicate 19 255 by 5 carrying 24)
    ∷ (79 ∷ 72 ∷ 71 ∷ 2 ∷ 0 ∷ 1 ∷ 64 ∷ replicate 18 0 by 4 carrying 5)
    ∷ (head2 1 0 0 0 0 by 5 carrying 25)
    ∷ (head2 0 1 0 0 0 ++ (7 ∷ 0 ∷ 0 ∷ 0 ∷ 0 ∷ 0 ∷ 1 ∷ 0 ∷ 1 ∷ 0 ∷ 0 ∷ 0 ∷ []) by 4 carrying 33)
    ∷ (head2 1 0 1 0 0 ++ (7 ∷ 0 ∷ 0 ∷ 0 ∷ 1 ∷ 0 ∷ 0 ∷ 0 ∷ []) by 6 carrying 29)
    ∷ (head2 0 0 0 0 0 by 13 carrying 0)
    ∷ (head2 1 0 0 0 0 ++ (7 ∷ 0 ∷ 0 ∷ 0 ∷ []) by 13 carrying 0)
    ∷ []

-- one node, 1,025 times a global source: the smallest drawing that outgrows version 1
abbrev pub wide : Graph
wide = with_interface (replicate 1025 0) [] (with_nodes (7 ∷ []) empty)

-- its form: 1,025 is 1 + 4 * 256
abbrev pub wide_form : List ℕ
wide_form =
    79 ∷ 72 ∷ 71 ∷ 2 ∷ 0 ∷ 1 ∷ 0 ∷ 0 ∷ 0 ∷ 0 ∷ 0 ∷ 0 ∷ 0 ∷ 1 ∷ 4 ∷ replicate 10 0 ++ (7 ∷ 0 ∷ 0 ∷ 0 ∷ replicate 4100 0)

-- 2,048 nodes of label 0, which is the most of version 1
abbrev pub full1 : List ℕ
full1 = 79 ∷ 72 ∷ 71 ∷ 1 ∷ 0 ∷ 0 ∷ 8 ∷ replicate 8200 0

-- the same nodes and one of label 9, in version 2
abbrev pub full1_and9 : List ℕ
full1_and9 = 79 ∷ 72 ∷ 71 ∷ 2 ∷ 0 ∷ 1 ∷ 8 ∷ replicate 8210 0 ++ (9 ∷ 0 ∷ 0 ∷ 0 ∷ [])

-- 02, T-01: one node of label 7, and 1,025 times the pair of it with itself, which only version 2 holds
abbrev pub paired_form : List ℕ
paired_form = 79 ∷ 72 ∷ 71 ∷ 2 ∷ 0 ∷ 1 ∷ replicate 15 0 ++ (1 ∷ 4 ∷ 0 ∷ 0 ∷ 7 ∷ 0 ∷ 0 ∷ 0 ∷ replicate 8200 0)

-- what it is merged to: the node alone
abbrev pub one_form : List ℕ
one_form = 79 ∷ 72 ∷ 71 ∷ 1 ∷ 0 ∷ 1 ∷ replicate 9 0 ++ (7 ∷ 0 ∷ 0 ∷ 0 ∷ [])
