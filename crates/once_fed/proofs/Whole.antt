-- The edges, then the global lists, and the answer.
-- Assumes nothing.
use mathlib.Core.Bool.{Bool, true, false}
use mathlib.Core.List.{List}
use mathlib.Core.Path.{◌≡◌}
use Prim.Native.Nat.{ℕ, ◌+◌}
use native.Mathlib.Omega.{arith}
use Rattle.once_fed.specs.Marked.{Twice, Fared, MarksBoth, AllMarked}
use Rattle.form.specs.Form.{body_of, lists_from}
use Rattle.form.specs.Drawn.{graph_in}
use Rattle.form.specs.Stored.{graph_of, Stored}
use Rattle.form.specs.declared.Drawing.{Drawing}
use Rattle.form.specs.declared.Sizes.{Sizes}
use Rattle.graph.specs.Checks.{feeds, uses, monogamous}
use Rattle.graph.specs.Graph.{edge_sources, edge_targets}
use Rattle.le.specs.Rows.{span}
use Rattle.le.specs.declared.Row.{Row}
use Rattle.form.proofs.Drawn.{stored_in}
use Rattle.form.proofs.Stored.{stored_rows}
use Rattle.graph.proofs.Monogamous.{occurrences_append}
use Rattle.once_fed.proofs.Edges.{is_nodes}
use Rattle.once_fed.proofs.Marked.{twice_among, twice_not, marked_says}

-- the global lists stand in the row
module _ (d : Drawing) (row : Row) (is : row ≡ body_of d.sizes) (k : ℕ) (at : k ≡ lists_from d.sizes) where
  pub sources_there : span d.src.now row k d.sizes.sources ≡ (graph_in d).sources
  sources_there = rw (is, at) (stored_rows (stored_in d)).sources

  pub targets_there : span d.src.now row (k + d.sizes.sources) d.sizes.targets ≡ (graph_in d).targets
  targets_there = rw (is, at) (stored_rows (stored_in d)).targets

module _ {b : List ℕ} {z : Sizes} (s : Stored b z) (r : Bool) where
  -- the edges mark a node twice
  pub edges_stop : r ≡ false → (table : List ℕ) → Fared r table z.nodes 2 (edge_targets (graph_of b).edges) (edge_sources (graph_of b).edges) → monogamous (graph_of b) ≡ false
  edges_stop e table h =
      let g = graph_of b in
      let t : Twice z.nodes (edge_targets g.edges) (edge_sources g.edges) = rw e at h in
      twice_not g (rw (is_nodes s) at (twice_among (feeds g) (uses g) (λ v. omega (arith, occurrences_append v (edge_targets g.edges) g.sources))
      (λ v. omega (arith, occurrences_append v (edge_sources g.edges) g.targets)) t))

  -- they do not, and then come the global lists
  pub lists_marked : r ≡ true → (old : List ℕ) → Fared r old z.nodes 2 (edge_targets (graph_of b).edges) (edge_sources (graph_of b).edges)
      → (new : List ℕ) (q : Bool) → MarksBoth old new z.nodes q 2 (graph_of b).sources (graph_of b).targets → Fared q new z.nodes 2 (feeds (graph_of b)) (uses (graph_of b))
  lists_marked e old h new q f = f (edge_targets (graph_of b).edges) (edge_sources (graph_of b).edges) (rw e at h)

  -- the global lists mark a node twice
  pub lists_stop : r ≡ false → (table : List ℕ) → Fared r table z.nodes 2 (feeds (graph_of b)) (uses (graph_of b)) → monogamous (graph_of b) ≡ false
  lists_stop e table h = twice_not (graph_of b) (rw (e, is_nodes s) at h)

  -- they do not, and what stands in the table decides
  pub lists_end : r ≡ true → (table : List ℕ) → Fared r table z.nodes 2 (feeds (graph_of b)) (uses (graph_of b)) → (q : Bool) → AllMarked q table z.nodes → q ≡ monogamous (graph_of b)
  lists_end e table h q all = marked_says (graph_of b) table (rw (e, is_nodes s) at h) q (rw (is_nodes s) at all)
