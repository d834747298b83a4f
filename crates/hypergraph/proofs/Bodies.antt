-- The labels, the body and the sizes of each graph that is built, in terms of those of the graph from which it is built.
-- Assumes nothing.
use mathlib.Core.List.{List, [], ◌∷◌, ◌++◌, map, append_assoc, append-nil}
use mathlib.Core.Path.{◌≡◌}
use Prim.Native.Nat.{ℕ, ◌+◌}
use lib.ListN.{length-append}
use Rattle.graph.specs.Build.{discrete, new_node, unify}
use Rattle.graph.specs.Form.{label_row, body}
use Rattle.graph.specs.Graph.{Graph}
use Rattle.graph.specs.Versions.{fitting}
use Rattle.graph.proofs.Lists.{flat_append}
use Rattle.form.specs.Form.{sizes_of}
use Rattle.form.specs.Stored.{Stored, graph_of}
use Rattle.form.specs.declared.Sizes.{Sizes}
use Rattle.write.specs.Write.{counted_as, fitted}

-- ---- labels and bodies

pub discrete_labels : (labels : List ℕ) → label_row (discrete labels) ≡ labels
unfolding discrete
discrete_labels labels = append-nil labels

pub new_node_labels : (label : ℕ) (g : Graph) → label_row (new_node label g) ≡ g.labels ++ (label ∷ map (λ e. e.label) g.edges)
unfolding new_node
new_node_labels label g = append_assoc g.labels (label ∷ []) (map (λ e. e.label) g.edges)

pub unify_body : (v w : ℕ) (g : Graph) → body (unify v w g) ≡ body g ++ (v ∷ w ∷ [])
unfolding unify
unify_body v w g = rw (flat_append g.pairs ((v, w) ∷ [])) (simp append_assoc)

-- ---- sizes

module _ {b : List ℕ} {z : Sizes} (s : Stored b z) where
  pub new_node_sizes : (label : ℕ) → fitted (counted_as (z.nodes + 1) z.edges z.sources z.targets z.pairs) z.ports
      ≡ sizes_of (fitting (new_node label (graph_of b))) (new_node label (graph_of b))
  unfolding new_node
  new_node_sizes label = rw (s.sizes, length-append (graph_of b).labels)

  pub unify_sizes : (v w : ℕ) → fitted (counted_as z.nodes z.edges z.sources z.targets (z.pairs + 1)) z.ports
      ≡ sizes_of (fitting (unify v w (graph_of b))) (unify v w (graph_of b))
  unfolding unify
  unify_sizes v w = rw (s.sizes, length-append (graph_of b).pairs)
