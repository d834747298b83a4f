-- Which refusals the choice, with kept nodes and without and by either engine, its reasons, the no-loop check and the loop that is shown can give, as docs/INTERFACE.md has them.
-- Assumes nothing.
use Rattle.std.specs.Prelude.{List, [], ◌∷◌, ℕ}

abbrev pub cycle_breaking_nodes_refusals : List ℕ
cycle_breaking_nodes_refusals = 1 ∷ 2 ∷ 3 ∷ 4 ∷ 5 ∷ 6 ∷ 13 ∷ 8 ∷ 10 ∷ []

abbrev pub cycle_breaking_nodes_keeping_refusals : List ℕ
cycle_breaking_nodes_keeping_refusals = 1 ∷ 2 ∷ 3 ∷ 4 ∷ 5 ∷ 6 ∷ 13 ∷ 7 ∷ 8 ∷ 16 ∷ 10 ∷ []

abbrev pub cycle_breaking_nodes_scanning_refusals : List ℕ
cycle_breaking_nodes_scanning_refusals = 1 ∷ 2 ∷ 3 ∷ 4 ∷ 5 ∷ 6 ∷ 13 ∷ 7 ∷ 8 ∷ 16 ∷ 10 ∷ []

abbrev pub no_loop_refusals : List ℕ
no_loop_refusals = 1 ∷ 2 ∷ 3 ∷ 4 ∷ 5 ∷ 6 ∷ 13 ∷ 8 ∷ 10 ∷ []

abbrev pub find_loop_refusals : List ℕ
find_loop_refusals = 1 ∷ 2 ∷ 3 ∷ 4 ∷ 5 ∷ 6 ∷ 13 ∷ 8 ∷ 10 ∷ []

abbrev pub reasons_refusals : List ℕ
reasons_refusals = 1 ∷ 2 ∷ 3 ∷ 4 ∷ 5 ∷ 6 ∷ 13 ∷ 8 ∷ 10 ∷ []
