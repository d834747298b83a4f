-- The merged graph, copied into a buffer for the spiderized one: its labels, and its counts and ids.
-- Assumes nothing.
use mathlib.Core.List.{List, [], ◌∷◌, ◌++◌, map}
use mathlib.Core.Path.{◌≡◌, refl, sym, ap, ◌∙◌}
use Prim.Native.Nat.{ℕ, ◌+◌, ◌*◌, ◌-◌, ◌≤◌}
use native.Mathlib.Omega.{arith}
use lib.ListN.{length, length-map, replicate}
use Rattle.form.specs.Form.{sized, sizes_of, labels_of, body_of, lists_from}
use Rattle.form.specs.Drawn.{graph_in}
use Rattle.form.specs.Stored.{format_of}
use Rattle.form.specs.declared.Drawing.{Drawing}
use Rattle.form.specs.declared.Sizes.{Sizes}
use Rattle.form.proofs.Drawn.{stored_in}
use Rattle.form.proofs.Stored.{stored_known}
use Rattle.graph.specs.Form.{edge_row}
use Rattle.graph.specs.Graph.{Edge, Graph, Proper, spider, edge_entries}
use Rattle.graph.specs.Lists.{keep, joined, range, among}
use Rattle.graph.specs.Versions.{fitting}
use Rattle.graph.proofs.Merged.{merged_sizes}
use Rattle.graph.specs.Merge.{looked, looked_edge, merged}
use Rattle.le.specs.Le.{words}
use Rattle.le.specs.Rows.{span, puts}
use Rattle.le.specs.declared.Row.{Row}
use Rattle.le.proofs.Numbers.{below_append}
use Rattle.le.proofs.Rows.{puts_append}
use Rattle.links.specs.Links.{cells, is_listed}
use Rattle.quotient.specs.Merging.{Mapped}
use Rattle.quotient.proofs.Parts.{edge_labels_kept}
use Rattle.quotient.proofs.Renamed.{same_looked, same_edges}
use Rattle.write.specs.Write.{counted_as, fitted, headed}
use Rattle.rewriting.specs.Rewriting.{spidered, fronted, Plan}
use Rattle.rewriting.proofs.Lists.{edges_counted}
use Rattle.copying.proofs.Mapping.{looked_append}
use Rattle.rewriting.proofs.Parts.{planned, sizes_are, edge_labels_lem}

module _ {d : Drawing} {room : List ℕ} (m : Mapped d room) where
  abbrev new : Graph
  new = (merged (graph_in d)).graph

  -- there are as many edges as there were
  pub merged_edges : length new.edges ≡ d.sizes.edges
  merged_edges = length-map (graph_in d).edges (looked_edge (merged (graph_in d)).ids) ∙ edges_counted (stored_in d)

  pub merged_front : {y : Sizes} {nodes : ℕ} {table : List ℕ} (p : Plan new nodes y table) (old : List ℕ) {o₁ o₂ o₃ o₄ : List ℕ} {from to : Row} → from ≡ labels_of d.sizes → to ≡ labels_of y → o₁ ≡ headed old y
      → o₂ ≡ puts o₁ (labels_of y) 0 new.labels → o₃ ≡ puts o₂ to y.nodes (span d.src.now from d.sizes.nodes d.sizes.edges) → o₄ ≡ puts o₃ to (y.nodes + d.sizes.edges) (replicate (y.edges - d.sizes.edges) spider)
      → o₄ ≡ fronted old y new (spidered new nodes (cells table))
  unfolding fronted
  merged_front {y} {nodes} {table} p old {o₁} {o₂} {o₃} is_from is_to e₁ e₂ e₃ e₄ =
      let t = is_listed nodes (cells table) in
      let l = labels_of y in
      let labels = map (λ (e : Edge). e.label) new.edges in
      let n = 2 * length (keep t (range 0 (length new.labels))) in
      let count = merged_edges in
      let many : y.edges - d.sizes.edges ≡ n = omega (arith, (planned p).edges) in
      let edges : d.sizes.edges ≡ length labels = sym count ∙ sym (length-map new.edges (λ (e : Edge). e.label)) in
      let first : o₂ ≡ puts (headed old y) l 0 new.labels = e₂ ∙ ap (λ (o : List ℕ). puts o l 0 new.labels) e₁ in
      let second : o₃ ≡ puts o₂ l y.nodes labels = e₃ ∙ (λ i. puts o₂ (is_to i) y.nodes (span d.src.now (is_from i) d.sizes.nodes d.sizes.edges)) ∙ ap (puts o₂ l y.nodes) (edge_labels_kept (stored_in d)) in
      e₄ ∙ (λ i. puts (second i) (is_to i) (y.nodes + edges i) (replicate (many i) spider)) ∙ puts_append o₂ l y.nodes labels (replicate n spider) ∙ (λ i. puts (first i) l y.nodes (sym (edge_labels_lem t new) i))

  pub merged_entries : (y : Sizes) (old : List ℕ) {o₁ o₂ : List ℕ} {to : Row} → to ≡ body_of y → o₁ ≡ puts old to 0 (joined edge_row (map (looked_edge (words room)) (graph_in d).edges))
      → o₂ ≡ puts o₁ (body_of y) (lists_from y) (looked (words room) ((graph_in d).sources ++ (graph_in d).targets))
      → o₂ ≡ puts (puts old (body_of y) 0 (joined edge_row new.edges)) (body_of y) (lists_from y) (new.sources ++ new.targets)
  merged_entries y old {o₁} {o₂} {to} is e₁ e₂ =
      let g = graph_in d in
      let ids = (merged g).ids in
      let s = stored_known (stored_in d) in
      let edges = same_edges d.sizes.nodes ids (words room) m.map g.edges s.edges in
      let lists = same_looked d.sizes.nodes ids (words room) m.map (g.sources ++ g.targets) (below_append d.sizes.nodes g.sources g.targets s.sources s.targets) ∙ looked_append ids g.sources g.targets in
      e₂ ∙ (λ i. puts ((e₁ ∙ λ j. puts old (is j) 0 (joined edge_row (edges j))) i) (body_of y) (lists_from y) (lists i))

-- its entries are those that were read, each looked up
pub entries_looked : (ids : List ℕ) (es : List Edge) → edge_entries (map (looked_edge ids) es) ≡ looked ids (edge_entries es)
entries_looked ids [] = refl
entries_looked ids (e ∷ es) = (λ i. sym (looked_append ids e.sources e.targets) i ++ entries_looked ids es i) ∙ sym (looked_append ids (e.sources ++ e.targets) (edge_entries es))

module _ {d : Drawing} {room : List ℕ} (m : Mapped d room) where
  pub edges_looked : looked (words room) (edge_entries (graph_in d).edges) ≡ edge_entries (merged (graph_in d)).graph.edges
  edges_looked =
      same_looked d.sizes.nodes (merged (graph_in d)).ids (words room) m.map (edge_entries (graph_in d).edges) (stored_known (stored_in d)).edges ∙ sym (entries_looked (merged (graph_in d)).ids (graph_in d).edges)

  pub lists_looked : looked (words room) ((graph_in d).sources ++ (graph_in d).targets) ≡ (merged (graph_in d)).graph.sources ++ (merged (graph_in d)).graph.targets
  lists_looked =
      let g = graph_in d in
      let s = stored_known (stored_in d) in
      same_looked d.sizes.nodes (merged g).ids (words room) m.map (g.sources ++ g.targets) (below_append d.sizes.nodes g.sources g.targets s.sources s.targets)
      ∙ looked_append (merged g).ids g.sources g.targets

  pub merged_few : length (merged (graph_in d)).graph.labels ≤ d.sizes.nodes
  merged_few = omega (arith, (merged_sizes (graph_in d) (stored_in d).formed.proper).nodes, ap (λ (x : Sizes). x.nodes) (stored_in d).sizes)

-- ---- the sizes, as they are counted

pub merged_counted : (d : Drawing) → Proper (merged (graph_in d)).graph → (nodes : ℕ) → nodes ≡ length (merged (graph_in d)).graph.labels → (W ids : List ℕ) → is_listed nodes W ≡ among ids
    → (c e spiders : ℕ) → c ≡ length (keep (is_listed nodes W) (edge_entries (merged (graph_in d)).graph.edges)) → e ≡ length (keep (is_listed nodes W) ((merged (graph_in d)).graph.sources ++ (merged (graph_in d)).graph.targets))
    → spiders ≡ 2 * length (keep (is_listed nodes W) (range 0 nodes))
    → fitted (counted_as (nodes + (c + e)) (d.sizes.edges + spiders) d.sizes.sources d.sizes.targets 0) (d.sizes.ports + (spiders + (c + e))) ≡ sizes_of (fitting (spidered (merged (graph_in d)).graph nodes W)) (spidered (merged (graph_in d)).graph nodes W)
merged_counted d proper nodes count W ids listed c e spiders ec ed es =
    let g = graph_in d in
    let f = format_of d.src.now in
    let s = (stored_in d) in
    let k = merged_sizes g s.formed.proper in
    let edges = ap (λ (x : Sizes). x.edges) s.sizes ∙ sym k.edges in
    let sources = ap (λ (x : Sizes). x.sources) s.sizes ∙ sym k.sources in
    let targets = ap (λ (x : Sizes). x.targets) s.sizes ∙ sym k.targets in
    let sum = ap (λ (x : Sizes). x.ports) s.sizes ∙ sym k.ports in
    let y = sized f.width (counted_as nodes d.sizes.edges d.sizes.sources d.sizes.targets 0) d.sizes.ports in
    let is : y ≡ sizes_of f (merged g).graph = λ i. sized f.width (counted_as (count i) (edges i) (sources i) (targets i) 0) (sum i) in
    sizes_are f y (merged g).graph is proper W ids listed c e spiders ec ed es
