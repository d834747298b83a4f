-- A stored drawing: the tables have room for it, and an edge that was read is the graph's.
-- Assumes nothing.
use mathlib.Core.Path.{◌≡◌, sym, ap, ◌∙◌, subst}
use mathlib.Core.List.{List}
use Prim.Native.Nat.{ℕ, ◌+◌, ◌<◌}
use native.Mathlib.Omega.{arith}
use lib.ListN.{length, get_or}
use Rattle.le.specs.Le.{Below}
use Rattle.le.specs.Rows.{Holds, span}
use Rattle.le.specs.declared.Row.{Row}
use Rattle.le.proofs.Numbers.{below_widen}
use Rattle.le.proofs.Rows.{holds_less}
use Rattle.graph.specs.Form.{no_edge, edge_start}
use Rattle.form.specs.Form.{body_of, edge_in}
use Rattle.form.specs.Stored.{graph_of, Stored}
use Rattle.form.specs.declared.EdgeAt.{EdgeAt}
use Rattle.form.specs.declared.Sizes.{Sizes}
use Rattle.form.proofs.Stored.{edge_there}
use Rattle.choice.specs.Drawing.{vertex_count}
use Rattle.marks.specs.Tables.{most_nodes}
use Rattle.sweeps.proofs.Going.{Drawn}

module _ {b : List ℕ} {z : Sizes} (s : Stored b z) where
  pub is_nodes : z.nodes ≡ length (graph_of b).labels
  is_nodes = ap (λ (y : Sizes). y.nodes) s.sizes

  pub is_edges : z.edges ≡ length (graph_of b).edges
  is_edges = ap (λ (y : Sizes). y.edges) s.sizes

  pub is_all : z.nodes + z.edges ≡ vertex_count (graph_of b)
  is_all = λ i. is_nodes i + is_edges i

  pub drawn : Drawn (graph_of b)
  drawn = record {
    proper = s.formed.proper;
    few_nodes = s.within.counts.nodes;
    few = omega (arith, s.within.counts.nodes, s.within.counts.edges);
    few_ports = s.within.ports;
    known = λ i l. let e = edge_there s i (edge_start (graph_of b).edges i) (omega (arith, is_edges)) (λ j. edge_start (graph_of b).edges i) in (e.sources_known, e.targets_known);
  }

  -- edge i, read at index k of a row
  pub record Read (r : Row) (i : ℕ) (e : EdgeAt) : Type 0 where
    pub held : Holds b r (e.first + e.sources + e.targets)
    pub sources_are : span b r e.first e.sources ≡ (get_or (graph_of b).edges i no_edge).sources
    pub targets_are : span b r (e.first + e.sources) e.targets ≡ (get_or (graph_of b).edges i no_edge).targets
    pub low_sources : Below most_nodes (span b r e.first e.sources)
    pub low_targets : Below most_nodes (span b r (e.first + e.sources) e.targets)
    pub next : e.end ≡ edge_start (graph_of b).edges (i + 1)

  -- its counts stand in the row
  pub counts_held : (r : Row) → r ≡ body_of z → (i k : ℕ) → i < z.edges → k ≡ edge_start (graph_of b).edges i → Holds b r (k + 2)
  counts_held r is i k l e = subst (λ (q : Row). Holds b q (k + 2)) (sym is) (edge_there s i k l e).held

  read_body_lem : (i k : ℕ) → i < z.edges → k ≡ edge_start (graph_of b).edges i → (e : EdgeAt) → e ≡ edge_in b (body_of z) k → Read (body_of z) i e
  unfolding edge_in
  read_body_lem i k l at e is =
      let h = edge_there s i k l at in
      subst (Read (body_of z) i) (sym (is ∙ h.counts)) (record {
        held = holds_less h.ids_held _ (omega (arith, ap (λ (x : EdgeAt). x.sources) h.counts, ap (λ (x : EdgeAt). x.targets) h.counts, ap (λ (x : EdgeAt). x.end) h.counts));
        sources_are = h.source_ids;
        targets_are = h.target_ids;
        low_sources = subst (Below most_nodes) (sym h.source_ids) (below_widen (get_or (graph_of b).edges i no_edge).sources s.within.counts.nodes h.sources_known);
        low_targets = subst (Below most_nodes) (sym h.target_ids) (below_widen (get_or (graph_of b).edges i no_edge).targets s.within.counts.nodes h.targets_known);
        next = λ j. edge_start (graph_of b).edges (i + 1);
      })

  pub read_edge_lem : (r : Row) → r ≡ body_of z → (i k : ℕ) → i < z.edges → k ≡ edge_start (graph_of b).edges i → (e : EdgeAt) → e ≡ edge_in b r k → Read r i e
  read_edge_lem r is i k l at e h = subst (λ (q : Row). Read q i e) (sym is) (read_body_lem i k l at e (h ∙ ap (λ (q : Row). edge_in b q k) is))
