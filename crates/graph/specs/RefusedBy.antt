-- Which refusals each call can give: the column of refusals in docs/INTERFACE.md, which the tests hold to these lists.
-- Assumes nothing.
use Rattle.std.specs.Prelude.{List, [], ◌∷◌, ℕ}

-- ---- reading and rewriting

abbrev pub read_call_refusals : List ℕ
read_call_refusals = 1 ∷ 2 ∷ 3 ∷ 4 ∷ 5 ∷ 6 ∷ 13 ∷ 10 ∷ []

abbrev pub rewrite_refusals : List ℕ
rewrite_refusals = 1 ∷ 2 ∷ 3 ∷ 4 ∷ 5 ∷ 6 ∷ 13 ∷ 10 ∷ []

-- ---- calls without a graph

abbrev pub empty_refusals : List ℕ
empty_refusals = 10 ∷ []

abbrev pub discrete_refusals : List ℕ
discrete_refusals = 7 ∷ 9 ∷ 10 ∷ []

abbrev pub identity_refusals : List ℕ
identity_refusals = 7 ∷ 9 ∷ 10 ∷ []

abbrev pub singleton_refusals : List ℕ
singleton_refusals = 7 ∷ 9 ∷ 10 ∷ []

-- ---- adding to a graph

abbrev pub new_node_refusals : List ℕ
new_node_refusals = 1 ∷ 2 ∷ 3 ∷ 4 ∷ 5 ∷ 6 ∷ 13 ∷ 9 ∷ 10 ∷ []

abbrev pub new_edge_refusals : List ℕ
new_edge_refusals = 1 ∷ 2 ∷ 3 ∷ 4 ∷ 5 ∷ 6 ∷ 13 ∷ 7 ∷ 9 ∷ 10 ∷ []

abbrev pub new_operation_refusals : List ℕ
new_operation_refusals = 1 ∷ 2 ∷ 3 ∷ 4 ∷ 5 ∷ 6 ∷ 13 ∷ 7 ∷ 9 ∷ 10 ∷ []

abbrev pub unify_refusals : List ℕ
unify_refusals = 1 ∷ 2 ∷ 3 ∷ 4 ∷ 5 ∷ 6 ∷ 13 ∷ 7 ∷ 9 ∷ 10 ∷ []

abbrev pub add_edge_source_refusals : List ℕ
add_edge_source_refusals = 1 ∷ 2 ∷ 3 ∷ 4 ∷ 5 ∷ 6 ∷ 13 ∷ 7 ∷ 9 ∷ 10 ∷ []

abbrev pub add_edge_target_refusals : List ℕ
add_edge_target_refusals = 1 ∷ 2 ∷ 3 ∷ 4 ∷ 5 ∷ 6 ∷ 13 ∷ 7 ∷ 9 ∷ 10 ∷ []

-- ---- deleting and merging, which never pass a limit

abbrev pub delete_edges_refusals : List ℕ
delete_edges_refusals = 1 ∷ 2 ∷ 3 ∷ 4 ∷ 5 ∷ 6 ∷ 13 ∷ 7 ∷ 10 ∷ []

abbrev pub delete_nodes_refusals : List ℕ
delete_nodes_refusals = 1 ∷ 2 ∷ 3 ∷ 4 ∷ 5 ∷ 6 ∷ 13 ∷ 7 ∷ 10 ∷ []

abbrev pub quotient_refusals : List ℕ
quotient_refusals = 1 ∷ 2 ∷ 3 ∷ 4 ∷ 5 ∷ 6 ∷ 13 ∷ 11 ∷ 10 ∷ []

-- ---- spiderizing, which needs no pairs to be gone

abbrev pub spiderize_refusals : List ℕ
spiderize_refusals = 1 ∷ 2 ∷ 3 ∷ 4 ∷ 5 ∷ 6 ∷ 13 ∷ 11 ∷ 9 ∷ 10 ∷ []

abbrev pub spiderize_nodes_refusals : List ℕ
spiderize_nodes_refusals = 1 ∷ 2 ∷ 3 ∷ 4 ∷ 5 ∷ 6 ∷ 13 ∷ 7 ∷ 11 ∷ 9 ∷ 10 ∷ []

-- ---- the once-fed check

abbrev pub once_fed_refusals : List ℕ
once_fed_refusals = 1 ∷ 2 ∷ 3 ∷ 4 ∷ 5 ∷ 6 ∷ 13 ∷ 8 ∷ 10 ∷ []
