-- What the steps of the calls answer.
-- Assumes nothing.
use mathlib.Core.List.{List}
use mathlib.Core.Path.{◌≡◌, ap}
use Prim.Native.Nat.{ℕ}
use Rattle.graph.specs.Answer.{answered, ◌>>=◌}
use Rattle.graph.specs.Build.{new_node, unify}
use Rattle.graph.specs.Calls.{known, new_node_step, unify_step}
use Rattle.form.specs.Stored.{graph_of, Stored}
use Rattle.form.specs.declared.Sizes.{Sizes}
use Rattle.form.proofs.Stored.{stored_rows, nodes_are}
use Rattle.write.proofs.Calls.{next}

module _ {b : List ℕ} {z : Sizes} (s : Stored b z) where
  pub new_node_next : (label : ℕ) → new_node_step label (graph_of b) ≡ answered (next (new_node label (graph_of b)) z.nodes)
  unfolding new_node_step
  new_node_next label = ap (λ (n : ℕ). answered (next (new_node label (graph_of b)) n)) (nodes_are (stored_rows s))

  pub unify_ids : (v w : ℕ) → unify_step v w (graph_of b) ≡ (known z.nodes v >>= λ x. known z.nodes w >>= λ y. answered (next (unify x y (graph_of b)) 0))
  unfolding unify_step
  unify_ids v w = ap (λ (n : ℕ). known n v >>= λ x. known n w >>= λ y. answered (next (unify x y (graph_of b)) 0)) (nodes_are (stored_rows s))
