-- The step of each kind, by the numbers that code reads.
-- Assumes nothing.
use mathlib.Core.List.{List, ◌++◌}
use mathlib.Core.Path.{◌≡◌, sym, ap, ◌∙◌}
use Prim.Native.Nat.{ℕ, ◌+◌, ◌*◌, ◌<◌}
use native.Mathlib.Omega.{arith}
use lib.Dec.{lit<}
use lib.ListN.{get_or, take, drop}
use lib.Seq.{drop-drop, take_at, drop_at}
use Rattle.le.specs.Le.{number_at, numbers}
use Rattle.le.proofs.Numbers.{length_numbers}
use Rattle.le.proofs.Rows.{numbers_append}
use Rattle.steps.specs.Steps.{node_step, edge_step, operation_step, pair_step, source_step, target_step, without_edges_step, without_nodes_step, head_numbers, step_of}
use Rattle.build.specs.Turns.{number_of, first_numbers, second_numbers, step_in, StepThere}
use Rattle.build.specs.declared.StepAt.{StepAt}
use Rattle.build.proofs.Lists.{head_at_lem}

module _ (b : List ℕ) (place : ℕ) (p : StepAt) (s : StepThere b place p) where
  -- as a step of a kind that is known
  of_kind_lem : (k : ℕ) → number_of p.kind ≡ k → step_in b p ≡ step_of k (numbers 4 (head_numbers k) (drop p.at b)) (numbers 4 (p.first + p.second) (drop p.lists b))
  unfolding step_in
  of_kind_lem k e = ap (λ (j : ℕ). step_of j (numbers 4 (head_numbers j) (drop p.at b)) (numbers 4 (p.first + p.second) (drop p.lists b))) e

  -- its numbers
  one : (n : ℕ) → 0 < n → get_or (numbers 4 n (drop p.at b)) 0 0 ≡ number_at 4 b p.at
  one n h = let e : p.at + 4 * 0 ≡ p.at = omega arith in head_at_lem b p.at n 0 h ∙ ap (number_at 4 b) e

  two : (n : ℕ) → 1 < n → get_or (numbers 4 n (drop p.at b)) 1 0 ≡ number_at 4 b (p.at + 4)
  two n h = let e : p.at + 4 * 1 ≡ p.at + 4 = omega arith in head_at_lem b p.at n 1 h ∙ ap (number_at 4 b) e

  pub node_kind : number_of p.kind ≡ 1 → step_in b p ≡ node_step (number_at 4 b p.at)
  node_kind e = of_kind_lem 1 e ∙ ap node_step (one 1 (lit< tt))

  pub pair_kind : number_of p.kind ≡ 4 → step_in b p ≡ pair_step (number_at 4 b p.at) (number_at 4 b (p.at + 4))
  pair_kind e = of_kind_lem 4 e ∙ (λ i. pair_step (one 2 (lit< tt) i) (two 2 (lit< tt) i))

  pub source_kind : number_of p.kind ≡ 5 → step_in b p ≡ source_step (number_at 4 b p.at) (number_at 4 b (p.at + 4))
  source_kind e = of_kind_lem 5 e ∙ (λ i. source_step (one 2 (lit< tt) i) (two 2 (lit< tt) i))

  pub target_kind : number_of p.kind ≡ 6 → step_in b p ≡ target_step (number_at 4 b p.at) (number_at 4 b (p.at + 4))
  target_kind e = of_kind_lem 6 e ∙ (λ i. target_step (one 2 (lit< tt) i) (two 2 (lit< tt) i))

  -- its lists
  split : numbers 4 (p.first + p.second) (drop p.lists b) ≡ numbers 4 p.first (drop p.lists b) ++ numbers 4 p.second (drop (p.lists + 4 * p.first) b)
  split =
      let e : p.lists + p.first * 4 ≡ p.lists + 4 * p.first = omega arith in
      numbers_append 4 p.first p.second (drop p.lists b) ∙ ap (λ (l : List ℕ). numbers 4 p.first (drop p.lists b) ++ numbers 4 p.second l) (drop-drop (p.first * 4) p.lists b ∙ ap (λ (i : ℕ). drop i b) e)

  front : take p.first (numbers 4 (p.first + p.second) (drop p.lists b)) ≡ numbers 4 p.first (drop p.lists b)
  front = ap (take p.first) split ∙ take_at (numbers 4 p.first (drop p.lists b)) (numbers 4 p.second (drop (p.lists + 4 * p.first) b)) p.first (length_numbers 4 p.first (drop p.lists b))

  back : drop p.first (numbers 4 (p.first + p.second) (drop p.lists b)) ≡ numbers 4 p.second (drop (p.lists + 4 * p.first) b)
  back = ap (drop p.first) split ∙ drop_at (numbers 4 p.first (drop p.lists b)) (numbers 4 p.second (drop (p.lists + 4 * p.first) b)) p.first (length_numbers 4 p.first (drop p.lists b))

  first_of : (k : ℕ) → number_of p.kind ≡ k → p.first ≡ first_numbers k (numbers 4 (head_numbers k) (drop p.at b))
  first_of k e = s.first ∙ ap (λ (j : ℕ). first_numbers j (numbers 4 (head_numbers j) (drop p.at b))) e

  second_of : (k : ℕ) → number_of p.kind ≡ k → p.second ≡ second_numbers k (numbers 4 (head_numbers k) (drop p.at b))
  second_of k e = s.second ∙ ap (λ (j : ℕ). second_numbers j (numbers 4 (head_numbers j) (drop p.at b))) e

  pub edge_kind : number_of p.kind ≡ 2 → step_in b p ≡ edge_step (number_at 4 b p.at) (numbers 4 p.first (drop p.lists b)) (numbers 4 p.second (drop (p.lists + 4 * p.first) b))
  edge_kind e =
      let L = numbers 4 (p.first + p.second) (drop p.lists b) in
      of_kind_lem 2 e ∙ (λ i. edge_step (one 3 (lit< tt) i) (take (sym (first_of 2 e) i) L) (drop (sym (first_of 2 e) i) L)) ∙ (λ i. edge_step (number_at 4 b p.at) (front i) (back i))

  pub operation_kind : number_of p.kind ≡ 3 → step_in b p ≡ operation_step (number_at 4 b p.at) (numbers 4 p.first (drop p.lists b)) (numbers 4 p.second (drop (p.lists + 4 * p.first) b))
  operation_kind e =
      let L = numbers 4 (p.first + p.second) (drop p.lists b) in
      of_kind_lem 3 e ∙ (λ i. operation_step (one 3 (lit< tt) i) (take (sym (first_of 3 e) i) L) (drop (sym (first_of 3 e) i) L)) ∙ (λ i. operation_step (number_at 4 b p.at) (front i) (back i))

  pub edges_kind : number_of p.kind ≡ 7 → step_in b p ≡ without_edges_step (numbers 4 p.first (drop p.lists b))
  edges_kind e =
      let n : p.first + p.second ≡ p.first = omega (arith, second_of 7 e) in
      of_kind_lem 7 e ∙ ap (λ (k : ℕ). without_edges_step (numbers 4 k (drop p.lists b))) n

  pub nodes_kind : number_of p.kind ≡ 8 → step_in b p ≡ without_nodes_step (numbers 4 p.first (drop p.lists b))
  nodes_kind e =
      let n : p.first + p.second ≡ p.first = omega (arith, second_of 8 e) in
      of_kind_lem 8 e ∙ ap (λ (k : ℕ). without_nodes_step (numbers 4 k (drop p.lists b))) n
