-- The labels, the body and the sizes of a graph with an edge more, in terms of those of the graph from which it is built.
-- Assumes nothing.
use mathlib.Core.List.{List, [], ◌∷◌, ◌++◌, map, append_assoc, append-nil, map-append}
use mathlib.Core.Path.{◌≡◌, refl, sym, ◌∙◌}
use Prim.Native.Nat.{ℕ, ◌+◌}
use native.Mathlib.Omega.{arith}
use lib.ListN.{length, length-append}
use Rattle.le.specs.Rows.{puts}
use Rattle.le.specs.declared.Row.{Row}
use Rattle.graph.specs.Build.{new_edge, new_operation}
use Rattle.graph.specs.Form.{edge_row, label_row, body}
use Rattle.graph.specs.Graph.{Edge, Graph, edge_entries}
use Rattle.graph.specs.Lists.{joined, flat, range}
use Rattle.graph.specs.Versions.{fitting}
use Rattle.graph.proofs.Laws.{joined_append}
use Rattle.graph.proofs.Lists.{length_range}
use Rattle.form.specs.Form.{sizes_of, body_of}
use Rattle.form.specs.Stored.{Stored, graph_of}
use Rattle.form.specs.declared.Sizes.{Sizes}
use Rattle.write.specs.Write.{counted_as, fitted, drawn}
use Rattle.pieces.proofs.Drawn.{more_numbers}

-- ---- labels and bodies

module _ (label : ℕ) (ss ts : List ℕ) (g : Graph) where
  new_edge_labels : label_row (new_edge label ss ts g) ≡ g.labels ++ (map (λ e. e.label) g.edges ++ (label ∷ []))
  unfolding new_edge
  new_edge_labels = rw (map-append (λ (e : Edge). e.label) g.edges)

  new_edge_body : body (new_edge label ss ts g)
      ≡ ((joined edge_row g.edges ++ (length ss ∷ length ts ∷ [])) ++ (ss ++ ts)) ++ (g.sources ++ (g.targets ++ flat g.pairs))
  unfolding new_edge
  new_edge_body = rw (joined_append edge_row g.edges) (simp (append_assoc, append-nil))

  -- a graph with an edge more, written as far as that edge's two counts, and then its ids and the lists
  pub edge_drawn : (old : List ℕ) (y : Sizes) {o p q ids lists : List ℕ} {r : Row} {j k : ℕ}
      → o ≡ drawn old y (g.labels ++ (map (λ e. e.label) g.edges ++ (label ∷ []))) (joined edge_row g.edges ++ (length ss ∷ length ts ∷ []))
      → p ≡ puts o r j ids → r ≡ body_of y → j ≡ length (joined edge_row g.edges) + 2 → ids ≡ ss ++ ts
      → q ≡ puts p (body_of y) k lists → k ≡ j + (length ss + length ts) → lists ≡ g.sources ++ (g.targets ++ flat g.pairs)
      → q ≡ drawn old y (label_row (new_edge label ss ts g)) (body (new_edge label ss ts g))
  edge_drawn old y a b is at ids c end lists =
      let labels = g.labels ++ (map (λ (e : Edge). e.label) g.edges ++ (label ∷ [])) in
      let rows = joined edge_row g.edges in
      let counts = length ss ∷ length ts ∷ [] in
      let l₁ = length-append rows counts in
      let l₂ = length-append (rows ++ counts) (ss ++ ts) in
      let l₃ = length-append ss ts in
      more_numbers old y labels ((rows ++ counts) ++ (ss ++ ts)) (g.sources ++ (g.targets ++ flat g.pairs))
      (more_numbers old y labels (rows ++ counts) (ss ++ ts) a b is (omega arith) ids) c refl (omega arith) lists
      ∙ (λ i. drawn old y (sym new_edge_labels i) (sym new_edge_body i))

-- ---- sizes

-- the ports of edges with one more
ports_more : (es : List Edge) (e : Edge) → length (edge_entries (es ++ (e ∷ []))) ≡ length (edge_entries es) + (length e.sources + length e.targets)
ports_more es e = rw (joined_append (λ (e : Edge). e.sources ++ e.targets) es (e ∷ []), append-nil (e.sources ++ e.targets)) (simp length-append)

module _ {b : List ℕ} {z : Sizes} (s : Stored b z) where
  module _ (label : ℕ) (ss ts : List ℕ) (m n : ℕ) (is_m : m ≡ length ss) (is_n : n ≡ length ts) where
    pub new_edge_sizes : fitted (counted_as z.nodes (z.edges + 1) z.sources z.targets z.pairs) (z.ports + (m + n))
        ≡ sizes_of (fitting (new_edge label ss ts (graph_of b))) (new_edge label ss ts (graph_of b))
    unfolding new_edge
    new_edge_sizes = rw (s.sizes, is_m, is_n, length-append (graph_of b).edges, ports_more (graph_of b).edges (record { label = label; sources = ss; targets = ts }))

    pub new_operation_sizes : fitted (counted_as (z.nodes + (m + n)) (z.edges + 1) z.sources z.targets z.pairs) (z.ports + (m + n))
        ≡ sizes_of (fitting (new_operation label ss ts (graph_of b))) (new_operation label ss ts (graph_of b))
    unfolding new_operation new_edge
    new_operation_sizes =
        let from = length (graph_of b).labels in
        let sources = range from (length ss) in
        let targets = range (from + length ss) (length ts) in
        rw (
          s.sizes,
          is_m,
          is_n,
          length-append (graph_of b).labels,
          length-append ss,
          length-append (graph_of b).edges,
          ports_more (graph_of b).edges (record { label = label; sources = sources; targets = targets }),
          length_range from (length ss),
          length_range (from + length ss) (length ts),
        )
