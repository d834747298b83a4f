-- The parts of the merged graph: their sizes, and what was put for each.
-- Assumes nothing.
use mathlib.Core.List.{List, [], ◌++◌, map, map-append, append-nil}
use mathlib.Core.Path.{◌≡◌, sym, ap, ◌∙◌, subst}
use Prim.Native.Nat.{ℕ, ◌+◌}
use native.Mathlib.Omega.{arith}
use lib.ListN.{length, length-map, get_or}
use Rattle.le.specs.Le.{Below, words}
use Rattle.le.specs.Rows.{span}
use Rattle.le.specs.declared.Row.{Row}
use Rattle.le.proofs.Numbers.{below_append}
use Rattle.graph.specs.Form.{edge_row, body}
use Rattle.graph.specs.Graph.{Edge, Graph}
use Rattle.graph.specs.Lists.{joined}
use Rattle.graph.specs.Merge.{looked, looked_edge, merged}
use Rattle.graph.specs.Versions.{fitting}
use Rattle.graph.proofs.Merged.{looked_labels, merged_sizes}
use Rattle.form.specs.Form.{sizes_of, labels_of, body_of, body_size, lists_from}
use Rattle.form.specs.Drawn.{graph_in}
use Rattle.form.specs.Stored.{graph_of, Stored}
use Rattle.form.specs.declared.Drawing.{Drawing}
use Rattle.form.specs.declared.Sizes.{Sizes}
use Rattle.form.proofs.Drawn.{stored_in}
use Rattle.form.proofs.Stored.{stored_rows, stored_known}
use Rattle.write.specs.Write.{counted_as, fitted, Put}
use Rattle.write.proofs.Results.{put_then}
use Rattle.write.proofs.Parts.{ids_there}
use Rattle.quotient.specs.Merging.{Mapped}
use Rattle.quotient.proofs.Renamed.{same_looked, same_edges}

module _ {b : List ℕ} {z : Sizes} (s : Stored b z) where
  abbrev old : Graph
  old = graph_of b

  abbrev new : Graph
  new = (merged (graph_of b)).graph

  -- edges and lists keep their sizes
  module _ {y : Sizes} (is : y ≡ sizes_of (fitting new) new) where
    pub labels_size : y.nodes + y.edges ≡ length new.labels + z.edges
    labels_size =
        omega (arith, ap (λ (x : Sizes). x.nodes) is, ap (λ (x : Sizes). x.edges) is, length-map old.edges (looked_edge (merged old).ids), ap (λ (x : Sizes). x.edges) s.sizes)

    pub body_size_lem : body_size y ≡ lists_from z + (z.sources + z.targets)
    body_size_lem =
        ap body_size is
        ∙ omega (
          arith,
          length-map old.edges (looked_edge (merged old).ids),
          (merged_sizes old s.formed.proper).ports,
          length-map old.sources (λ (id : ℕ). get_or (merged old).ids id 0),
          length-map old.targets (λ (id : ℕ). get_or (merged old).ids id 0),
          ap (λ (x : Sizes). x.edges) s.sizes,
          ap (λ (x : Sizes). x.ports) s.sizes,
          ap (λ (x : Sizes). x.sources) s.sizes,
          ap (λ (x : Sizes). x.targets) s.sizes,
        )

  -- the sizes that are found for it
  pub sizes_are : {y : Sizes} {n : ℕ} → y ≡ fitted (counted_as n z.edges z.sources z.targets 0) z.ports → n ≡ length new.labels → y ≡ sizes_of (fitting new) new
  sizes_are e nodes =
      let edges = ap (λ (x : Sizes). x.edges) s.sizes ∙ sym (length-map old.edges (looked_edge (merged old).ids)) in
      let ports = ap (λ (x : Sizes). x.ports) s.sizes ∙ sym (merged_sizes old s.formed.proper).ports in
      let sources = ap (λ (x : Sizes). x.sources) s.sizes ∙ sym (length-map old.sources (λ (id : ℕ). get_or (merged old).ids id 0)) in
      let targets = ap (λ (x : Sizes). x.targets) s.sizes ∙ sym (length-map old.targets (λ (id : ℕ). get_or (merged old).ids id 0)) in
      e ∙ (λ i. fitted (counted_as (nodes i) (edges i) (sources i) (targets i) 0) (ports i))

  pub edge_labels_kept : span b (labels_of z) z.nodes z.edges ≡ map (λ (e : Edge). e.label) new.edges
  edge_labels_kept = (stored_rows s).edge_labels ∙ sym (looked_labels (merged old).ids old.edges)

  -- the ids of both global lists
  lists_known : Below z.nodes (old.sources ++ old.targets)
  lists_known = below_append z.nodes old.sources old.targets (stored_known s).sources (stored_known s).targets

  lists_at_lem : (k : ℕ) → k ≡ lists_from z → span b (body_of z) k (z.sources + z.targets) ≡ old.sources ++ old.targets
  lists_at_lem k e = ap (λ (k : ℕ). span b (body_of z) k (z.sources + z.targets)) e ∙ ids_there s

  pub lists_below : (k : ℕ) → k ≡ lists_from z → Below z.nodes (span b (body_of z) k (z.sources + z.targets))
  lists_below k e = subst (Below z.nodes) (sym (lists_at_lem k e)) lists_known

module _ {d : Drawing} {room : List ℕ} (m : Mapped d room) where
  abbrev z : Sizes
  z = d.sizes

  abbrev ids : List ℕ
  ids = (merged (graph_in d)).ids

  lists_renamed : (k : ℕ) → k ≡ lists_from z
      → looked (words room) (span d.src.now (body_of z) k (z.sources + z.targets)) ≡ looked ids (graph_in d).sources ++ (looked ids (graph_in d).targets ++ [])
  lists_renamed k e =
      ap (looked (words room)) (lists_at_lem (stored_in d) k e) ∙ same_looked z.nodes ids (words room) m.map ((graph_in d).sources ++ (graph_in d).targets) (lists_known (stored_in d))
      ∙ map-append (λ (id : ℕ). get_or ids id 0) (graph_in d).sources (graph_in d).targets
      ∙ ap (λ (l : List ℕ). looked ids (graph_in d).sources ++ l) (sym (append-nil (looked ids (graph_in d).targets)))

  -- all counts and ids
  pub body_put : {out mid out' : List ℕ} {q : Row} {lists end : ℕ} → lists ≡ lists_from z → Put out q 0 (joined edge_row (map (looked_edge (words room)) (graph_in d).edges)) mid lists
      → Put mid q lists (looked (words room) (span d.src.now (body_of z) lists (z.sources + z.targets))) out' end → Put out q 0 (body (merged (graph_in d)).graph) out' end
  body_put {out} {mid} {out'} {q} {lists} {end} e p r =
      put_then (coe 0 1 (i. Put out q 0 (joined edge_row (same_edges z.nodes ids (words room) m.map (graph_in d).edges (stored_known (stored_in d)).edges i)) mid lists) p)
      (coe 0 1 (i. Put mid q lists (lists_renamed lists e i) out' end) r)
