-- An edge met on the walk over the edges: what stands there.
-- Assumes nothing.
use mathlib.Core.List.{List, [], ◌∷◌, ◌++◌}
use mathlib.Core.Path.{◌≡◌, sym, ap, ◌∙◌, subst, subst₂}
use Prim.Native.Nat.{ℕ, ◌+◌, ◌-◌, ◌^◌, ◌≤◌, ◌<◌}
use native.Mathlib.Nat.{zero-add}
use native.Mathlib.Omega.{arith}
use lib.ListN.{length, get_or, take}
use lib.Seq.{take_all, take-length}
use Rattle.le.specs.Le.{Below}
use Rattle.le.specs.Rows.{Holds, entry, span}
use Rattle.le.specs.declared.Row.{Row}
use Rattle.le.proofs.Numbers.{below_append, below_widen}
use Rattle.le.proofs.Rows.{span_append}
use Rattle.graph.specs.Form.{edge_row, edge_start, no_edge}
use Rattle.graph.specs.Graph.{Edge}
use Rattle.graph.specs.Lists.{joined}
use Rattle.graph.proofs.Rows.{at_edge, length_edge_rows}
use Rattle.form.specs.Form.{body_of, lists_from, edge_in}
use Rattle.form.specs.Stored.{graph_of, Stored}
use Rattle.form.specs.declared.EdgeAt.{EdgeAt}
use Rattle.form.specs.declared.Sizes.{Sizes}
use Rattle.form.proofs.Stored.{edge_there}
use Rattle.write.proofs.Grows.{span_two}

-- edge i of the graph that was read
abbrev pub edge_no : List ℕ → ℕ → Edge
edge_no b i = get_or (graph_of b).edges i no_edge

-- e is edge i, which stands at index k
pub record Met (b : List ℕ) (r : Row) (z : Sizes) (i k : ℕ) (e : EdgeAt) : Type 0 where
  pub first : e.first ≡ k + 2
  pub end : e.end ≡ edge_start (graph_of b).edges (i + 1)
  pub past : e.end ≡ k + 2 + (e.sources + e.targets)
  pub held : Holds b r (e.first + (e.sources + e.targets))
  pub sources : span b r e.first e.sources ≡ (edge_no b i).sources
  pub targets : span b r (e.first + e.sources) e.targets ≡ (edge_no b i).targets
  pub ids : span b r e.first (e.sources + e.targets) ≡ (edge_no b i).sources ++ (edge_no b i).targets
  pub whole : span b r k (e.end - k) ≡ edge_row (edge_no b i)
  pub ids_known : Below z.nodes (span b r e.first (e.sources + e.targets))
  pub low : e.sources + e.targets < 2 ^ 32

pub edge_less : {b : List ℕ} {z : Sizes} → Stored b z → (i : ℕ) → i < z.edges → i < length (graph_of b).edges
edge_less s i l = omega (arith, ap (λ (y : Sizes). y.edges) s.sizes)

module _ {b : List ℕ} {z : Sizes} (s : Stored b z) (i k : ℕ) (l : i < z.edges) (at : k ≡ edge_start (graph_of b).edges i) (r : Row) (is : r ≡ body_of z) where
  pub edge_held : Holds b r (k + 2)
  edge_held = subst (λ (r : Row). Holds b r (k + 2)) (sym is) (edge_there s i k l at).held

  pub met : (e : EdgeAt) → e ≡ edge_in b r k → Met b r z i k e
  unfolding edge_in
  met e p =
      let es = (graph_of b).edges in
      let d = edge_no b i in
      let body = body_of z in
      let h = edge_there s i k l at in
      let read : e ≡ edge_in b body k = p ∙ ap (λ (r : Row). edge_in b r k) is in
      let counts = read ∙ h.counts in
      let first = ap (λ (e : EdgeAt). e.first) counts in
      let source_count = ap (λ (e : EdgeAt). e.sources) counts in
      let target_count = ap (λ (e : EdgeAt). e.targets) counts in
      let a : entry b body k ≡ length d.sources = ap (λ (e : EdgeAt). e.sources) h.counts in
      let c : entry b body (k + 1) ≡ length d.targets = ap (λ (e : EdgeAt). e.targets) h.counts in
      let end = ap (λ (e : EdgeAt). e.end) counts in
      let past : e.end ≡ k + 2 + (e.sources + e.targets) = omega (arith, ap (λ (e : EdgeAt). e.end) read, ap (λ (e : EdgeAt). e.sources) read, ap (λ (e : EdgeAt). e.targets) read) in
      let sources = (λ j. span b body (first j) (source_count j)) ∙ h.source_ids in
      let targets = (λ j. span b body (first j + source_count j) (target_count j)) ∙ h.target_ids in
      let ids = span_append b body e.first e.sources e.targets ∙ (λ j. sources j ++ targets j) in
      let many : e.end - k ≡ 2 + (e.sources + e.targets) = omega arith in
      let inside = edge_less s i l in
      let nodes : length (graph_of b).labels ≡ z.nodes = sym (ap (λ (y : Sizes). y.nodes) s.sizes) in
      let found : Met b body z i k e =
      record {
        first = first;
        end = end;
        past = past;
        held = subst (Holds b body) (sym end ∙ past ∙ ap (λ (n : ℕ). n + (e.sources + e.targets)) (sym first)) h.ids_held;
        sources = sources;
        targets = targets;
        ids = ids;
        whole =
            ap (span b body k) many ∙ span_append b body k 2 (e.sources + e.targets)
            ∙ (λ j. (span_two b body k ∙ λ j. a j ∷ c j ∷ []) j ++ ((λ j. span b body (sym first j) (e.sources + e.targets)) ∙ ids) j);
        ids_known = subst₂ Below nodes (sym ids) (below_append _ d.sources d.targets h.sources_known h.targets_known);
        low = omega (arith, (at_edge es [] i inside).inside, length_edge_rows es, s.within.counts.edges, s.within.ports);
      } in
      subst (λ (r : Row). Met b r z i k e) (sym is) found

pub ids_below : {b : List ℕ} {r : Row} {z : Sizes} {i k : ℕ} {e : EdgeAt} → Met b r z i k e → (n : ℕ) → z.nodes ≤ n
    → Below n (span b r e.first (e.sources + e.targets))
ids_below {b} {r} {e = e} m n l = below_widen (span b r e.first (e.sources + e.targets)) l m.ids_known

-- all edges
pub all_edges : {b : List ℕ} {z : Sizes} → Stored b z → (i : ℕ) → z.edges ≤ i → take i (graph_of b).edges ≡ (graph_of b).edges
all_edges {b} {z} s i l = take_all i (graph_of b).edges (omega (arith, ap (λ (y : Sizes). y.edges) s.sizes))

-- what is made of all edges has room, as what a loop makes of them
pub all_fits : (so : List Edge → List ℕ) (es : List Edge) {out : List ℕ} {r : Row} → Holds out r (length (so es)) → Holds out r (0 + length (so (take (length es) es)))
all_fits so es h = rw (zero-add, take-length) h

-- where the edges end
module _ {b : List ℕ} {z : Sizes} (s : Stored b z) where
  pub edges_end : length (joined edge_row (graph_of b).edges) ≡ lists_from z
  edges_end = length_edge_rows (graph_of b).edges ∙ sym (ap lists_from s.sizes)

  pub edge_inside : (i : ℕ) → i < z.edges → edge_start (graph_of b).edges (i + 1) ≤ lists_from z
  edge_inside i l = omega (arith, (at_edge (graph_of b).edges [] i (edge_less s i l)).inside, edges_end)
