-- Marking edge by edge.
-- Assumes nothing.
use mathlib.Core.Bool.{Bool, true, false}
use mathlib.Core.List.{List, [], ◌∷◌, ◌++◌, append-nil}
use mathlib.Core.Logic.{inl}
use mathlib.Core.Path.{◌≡◌, refl, sym, ap, ◌∙◌, subst}
use Prim.Native.Nat.{ℕ, suc, ◌+◌, ◌≤◌, ◌<◌}
use native.Mathlib.Omega.{arith}
use lib.ListN.{length, get_or, take, drop}
use lib.Seq.{take_all}
use Rattle.once_fed.specs.Marked.{Marked, Twice, MarksBoth}
use Rattle.form.specs.Form.{body_of, edge_in}
use Rattle.form.specs.Stored.{graph_of, Stored, EdgeThere}
use Rattle.form.specs.declared.EdgeAt.{EdgeAt}
use Rattle.form.specs.declared.Sizes.{Sizes}
use Rattle.graph.specs.Form.{edge_start, no_edge}
use Rattle.graph.specs.Graph.{Edge, edge_sources, edge_targets}
use Rattle.graph.specs.Lists.{joined, occurrences}
use Rattle.le.specs.Le.{Below}
use Rattle.le.specs.Rows.{Holds, span}
use Rattle.le.specs.declared.Row.{Row}
use Rattle.form.proofs.Stored.{edge_there}
use Rattle.graph.proofs.Monogamous.{occurrences_append}
use Rattle.graph.proofs.Laws.{joined_append, joined_at}
use Rattle.graph.proofs.Rows.{take_edges}
use Rattle.le.proofs.Rows.{holds_less}
use Rattle.once_fed.proofs.Marked.{twice_among, twice_other, marked_other}

-- the entries of one way, with those of one edge more
one_more : (part : Edge → List ℕ) (es : List Edge) (i : ℕ) → i < length es → joined part (take (i + 1) es) ≡ joined part (take i es) ++ part (get_or es i no_edge)
one_more part es i l =
    let e = get_or es i no_edge in
    ap (joined part) (take_edges es i l) ∙ joined_append part (take i es) (e ∷ []) ∙ ap (λ (l : List ℕ). joined part (take i es) ++ l) (append-nil (part e))

-- they are among all
among_all : (part : Edge → List ℕ) (es : List Edge) (i : ℕ) → i < length es → (v : ℕ)
    → occurrences v (joined part (take i es) ++ part (get_or es i no_edge)) ≤ occurrences v (joined part es)
among_all part es i l v =
    let front = joined part (take i es) in
    let here = part (get_or es i no_edge) in
    let rest = joined part (drop (suc i) es) in
    omega (arith, ap (occurrences v) (joined_at part es i no_edge l), occurrences_append v front (here ++ rest), occurrences_append v here rest, occurrences_append v front here)

-- the table after the first i edges, and where the next one begins
pub record Sofar (b table : List ℕ) (nodes i k : ℕ) : Type 0 where
  pub is_start : k ≡ edge_start (graph_of b).edges i
  pub marked : Marked table nodes 1 (edge_sources (take i (graph_of b).edges)) (edge_targets (take i (graph_of b).edges))

module _ {b : List ℕ} {z : Sizes} (s : Stored b z) where
  pub is_nodes : z.nodes ≡ length (graph_of b).labels
  is_nodes = ap (λ (y : Sizes). y.nodes) s.sizes

  is_edges : z.edges ≡ length (graph_of b).edges
  is_edges = ap (λ (y : Sizes). y.edges) s.sizes

  pub begun : (table : List ℕ) → Marked table z.nodes 1 [] [] → Sofar b table z.nodes 0 0
  begun table h = record { is_start = refl; marked = h }

  module _ (table : List ℕ) (i k : ℕ) (less : i < z.edges) (sofar : Sofar b table z.nodes i k) where
    pub there : EdgeThere b z (graph_of b) i k
    there = edge_there s i k less sofar.is_start

    -- what the code needs before it marks the edge's nodes, and after
    pub record Fit (r : Row) (e : EdgeAt) : Type 0 where
      pub held : Holds b r (e.first + e.sources + e.targets)
      pub sources_known : Below z.nodes (span b r e.first e.sources)
      pub targets_known : Below z.nodes (span b r (e.first + e.sources) e.targets)
      pub turn : (new : List ℕ) (yes : Bool) → yes ≡ true → MarksBoth table new z.nodes yes 1 (span b r e.first e.sources) (span b r (e.first + e.sources) e.targets)
          → Sofar b new z.nodes (i + 1) e.end
      pub stop : (new : List ℕ) (yes : Bool) → yes ≡ false → MarksBoth table new z.nodes yes 1 (span b r e.first e.sources) (span b r (e.first + e.sources) e.targets)
          → Twice z.nodes (edge_targets (graph_of b).edges) (edge_sources (graph_of b).edges)

    fit_body : (e : EdgeAt) → e ≡ edge_in b (body_of z) k → Fit (body_of z) e
    unfolding edge_in
    fit_body e is =
        let g = graph_of b in
        let d = get_or g.edges i no_edge in
        let h = there in
        let inside : i < length g.edges = omega (arith, is_edges) in
        let before = edge_sources (take i g.edges) in
        let before' = edge_targets (take i g.edges) in
        subst (Fit (body_of z)) (sym (is ∙ h.counts)) (record {
          held =
              holds_less h.ids_held _
              (omega (arith, ap (λ (e : EdgeAt). e.sources) h.counts, ap (λ (e : EdgeAt). e.targets) h.counts, ap (λ (e : EdgeAt). e.end) h.counts));
          sources_known = rw (h.source_ids, is_nodes) h.sources_known;
          targets_known = rw (h.target_ids, is_nodes) h.targets_known;
          turn = λ new yes e f. record {
            is_start = refl;
            marked = rw (one_more (λ (e : Edge). e.sources) g.edges i inside, one_more (λ (e : Edge). e.targets) g.edges i inside, ← h.source_ids, ← h.target_ids)
                (rw e at (f before before' sofar.marked));
          };
          stop = λ new yes e f.
              let t : Twice z.nodes (before ++ d.sources) (before' ++ d.targets) = rw (e, h.source_ids, h.target_ids) at (f before before' sofar.marked) in
              twice_other (twice_among (edge_sources g.edges) (edge_targets g.edges) (among_all (λ e. e.sources) g.edges i inside) (among_all (λ e. e.targets) g.edges i inside) t);
        })

    pub fit : (r : Row) → r ≡ body_of z → (e : EdgeAt) → e ≡ edge_in b r k → Fit r e
    fit r is e h = subst (λ (r : Row). Fit r e) (sym is) (fit_body e (h ∙ ap (λ (r : Row). edge_in b r k) is))

  pub ended : (table : List ℕ) (i k : ℕ) → i ≡ z.edges → Sofar b table z.nodes i k → Marked table z.nodes 2 (edge_targets (graph_of b).edges) (edge_sources (graph_of b).edges)
  ended table i k e sofar =
      let es = (graph_of b).edges in
      let all : take i es ≡ es = take_all i es (omega (arith, is_edges)) in
      marked_other table z.nodes 1 (inl refl) (edge_sources es) (edge_targets es) (rw all at sofar.marked)
