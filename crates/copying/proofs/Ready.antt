-- A stored graph whose map of merging stands in the room, with a table behind it: what follows for the sizes, and for what is copied.
-- Assumes nothing.
use mathlib.Core.Bool.{Bool}
use mathlib.Core.List.{List, [], ◌++◌}
use mathlib.Core.Path.{◌≡◌, sym, ap, ◌∙◌}
use Prim.Native.Nat.{ℕ, ◌+◌, ◌-◌, ◌*◌, ◌≤◌, ◌<◌}
use native.Mathlib.Omega.{arith}
use lib.ListN.{length, get_or, drop, length-drop}
use lib.Seq.{length-take-le}
use Rattle.form.specs.Form.{sizes_of, lists_from}
use Rattle.form.specs.Drawn.{graph_in}
use Rattle.form.specs.declared.Drawing.{Drawing}
use Rattle.form.specs.declared.Sizes.{Sizes}
use Rattle.form.proofs.Drawn.{stored_in}
use Rattle.form.proofs.Stored.{stored_rows, nodes_are}
use Rattle.graph.specs.Answer.{answered}
use Rattle.graph.specs.Calls.{id_list, room_spiderize, spiderize_step, spiderize_all_step}
use Rattle.graph.specs.Form.{edge_row}
use Rattle.graph.specs.Graph.{Graph, Format, largest, edge_entries}
use Rattle.graph.specs.Lists.{keep, joined, among, range}
use Rattle.graph.specs.Merge.{Merged, looked, merged}
use Rattle.graph.specs.Spider.{spiderized_at, spiderize}
use Rattle.graph.specs.Versions.{fitting}
use Rattle.graph.proofs.Kept.{parts}
use Rattle.graph.proofs.Lists.{get_d_range}
use Rattle.graph.proofs.Merged.{merged_merges, looked_below, merged_proper, merged_sizes, quotient_answer, quotient_merges, quotient_unpaired}
use Rattle.graph.proofs.Rows.{length_edge_rows}
use Rattle.graph.proofs.Spidered.{spiderize_0, spiderize_all_0}
use Rattle.le.specs.Le.{Below, words}
use Rattle.links.specs.Links.{cells, cell_count, is_listed, Linked}
use Rattle.quotient.proofs.Calls.{Told}
use Rattle.quotient.proofs.Renamed.{same_looked}
use Rattle.rewriting.specs.Rewriting.{Plan}
use Rattle.copying.specs.Merged.{table_at, table_of, Lists, merged_of, spidered_of, fresh_of, Ready}
use Rattle.copying.proofs.Merging.{edges_looked, lists_looked, merged_few}
use Rattle.rewriting.proofs.Parts.{planned}

-- ---- without pairs

module _ (d : Drawing) (none : d.sizes.pairs ≡ 0) where
  pub plain : merged_of d ≡ graph_in d
  plain =
      let q = quotient_unpaired (graph_in d) (stored_in d).formed.proper (sym (ap (λ (y : Sizes). y.pairs) (stored_in d).sizes) ∙ none) in
      ap (λ (m : Merged). m.graph) (quotient_answer (graph_in d) _ q).1

  pub plain_nodes : {nodes : ℕ} → nodes ≡ length (merged_of d).labels → nodes ≡ d.sizes.nodes
  plain_nodes e = e ∙ ap (λ (g : Graph). length g.labels) plain ∙ sym (ap (λ (y : Sizes). y.nodes) (stored_in d).sizes)

-- ---- the room

module _ {d : Drawing} {nodes : ℕ} {room : List ℕ} (h : Ready d nodes room) where
  pub nodes_few : nodes ≤ largest.most.nodes
  nodes_few = omega (arith, merged_few h.mapped, h.count, (stored_in d).within.counts.nodes, ap (λ (y : Sizes). y.nodes) (stored_in d).sizes)

  pub table_long : length (table_of room) ≡ length room - table_at
  table_long = length-take-le (length room - table_at) (drop table_at room) (omega (arith, length-drop table_at room))

  pub heads : nodes * 4 ≤ cell_count (table_of room)
  heads = omega (arith, nodes_few, table_long, h.roomy)

  -- what the rewriting needs, if the result has no more nodes than a graph may have
  pub ready_plan : {y : Sizes} → y ≡ sizes_of (fitting (spidered_of d nodes room)) (spidered_of d nodes room) → y.nodes ≤ largest.most.nodes → Plan (merged_of d) nodes y (table_of room)
  ready_plan e most = record {
    proper = h.proper;
    unpaired = (merged_sizes (graph_in d) (stored_in d).formed.proper).pairs;
    count = h.count;
    ids = h.ids;
    listed = h.listed;
    sizes = e;
    numbered = record { from = omega arith; labels = omega arith; few = omega arith; heads = heads; links = omega (arith, nodes_few, table_long, h.roomy) };
    empty = h.empty;
  }

-- ---- what the ids become

module _ {d : Drawing} {nodes : ℕ} {room : List ℕ} (h : Ready d nodes room) where
  -- each word of the map is a class
  pub class_low : (v : ℕ) → v < d.sizes.nodes → get_or (words room) v 0 < nodes
  class_low v l =
      let g = graph_in d in
      let s = stored_in d in
      let inside : v < length g.labels = omega (arith, ap (λ (y : Sizes). y.nodes) s.sizes) in
      omega (arith, h.mapped.map.is v l, (merged_merges g (parts (length g.labels) g s.formed.proper.ids).pairs).below v inside, h.count)

  -- the node itself where nothing is to be merged
  pub class_plain : d.sizes.pairs ≡ 0 → (v : ℕ) → v < d.sizes.nodes → get_or (words room) v 0 ≡ v
  class_plain none v l =
      let g = graph_in d in
      let s = stored_in d in
      let inside : v < length g.labels = omega (arith, ap (λ (y : Sizes). y.nodes) s.sizes) in
      let q = quotient_unpaired g s.formed.proper (sym (ap (λ (y : Sizes). y.pairs) s.sizes) ∙ none) in
      omega (arith, h.mapped.map.is v l, ap (λ (m : Merged). get_or m.ids v 0) (quotient_answer g _ q).1, get_d_range 0 (length g.labels) v inside)

  -- so the entries that are looked up in it are the merged graph's
  pub fresh_looked : length (keep (is_listed nodes (cells (table_of room))) (looked (words room) (edge_entries (graph_in d).edges)))
      + length (keep (is_listed nodes (cells (table_of room))) (looked (words room) ((graph_in d).sources ++ (graph_in d).targets))) ≡ fresh_of d nodes room
  fresh_looked = let listed = is_listed nodes (cells (table_of room)) in λ i. length (keep listed (edges_looked h.mapped i)) + length (keep listed (lists_looked h.mapped i))

-- ---- what is copied

module _ (d : Drawing) where
  pub merged_rows : length (joined edge_row (merged_of d).edges) ≡ lists_from d.sizes
  merged_rows =
      let k = merged_sizes (graph_in d) (stored_in d).formed.proper in
      length_edge_rows (merged_of d).edges ∙ (λ i. 2 * k.edges i + k.ports i) ∙ sym (ap lists_from (stored_in d).sizes)

  module _ {nodes : ℕ} {y : Sizes} {table : List ℕ} (p : Plan (merged_of d) nodes y table) where
    pub rows_fit : lists_from d.sizes ≤ lists_from y
    rows_fit = omega (arith, (planned p).rows, merged_rows)

    pub same_sources : d.sizes.sources ≡ y.sources
    same_sources = ap (λ (x : Sizes). x.sources) (stored_in d).sizes ∙ sym (merged_sizes (graph_in d) (stored_in d).formed.proper).sources ∙ sym (planned p).sources

    pub same_targets : d.sizes.targets ≡ y.targets
    same_targets = ap (λ (x : Sizes). x.targets) (stored_in d).sizes ∙ sym (merged_sizes (graph_in d) (stored_in d).formed.proper).targets ∙ sym (planned p).targets

-- ---- the classes were found, and a table made behind their map

module _ (d : Drawing) {nodes : ℕ} {room : List ℕ} (t : Told d.src.now nodes room) where
  abbrev n : ℕ
  n = length (graph_in d).labels

  is_nodes : n ≡ d.sizes.nodes
  is_nodes = nodes_are (stored_rows (stored_in d))

  pub classes_few : nodes ≤ largest.most.nodes
  classes_few = omega (arith, t.count, (merged_sizes (graph_in d) (stored_in d).formed.proper).nodes, (stored_in d).within.counts.nodes)

  -- nodes of the graph, looked up in the words, are nodes of the merged graph
  module _ (ids : List ℕ) (known : Below d.sizes.nodes ids) where
    in_graph : Below n ids
    in_graph = rw is_nodes known

    pub classes_looked : looked (words room) ids ≡ looked (merged (graph_in d)).ids ids
    classes_looked = same_looked n (merged (graph_in d)).ids (words room) t.map ids in_graph

    pub classes_known : Below nodes (looked (words room) ids)
    classes_known =
        rw (classes_looked, t.count)
        (looked_below n (merged (graph_in d)).ids ids (length (merged_of d).labels) (quotient_merges (graph_in d) (stored_in d).formed.proper (merged (graph_in d)) t.answers).below in_graph)

  -- so they are when a table was made behind the map
  pub told_kept : {new : List ℕ} {listed : ℕ → Bool} → Lists nodes room listed new → Told d.src.now nodes new
  told_kept l = record {
    answers = t.answers;
    count = t.count;
    map = record { long = t.map.long; is = λ v h. l.map v (omega (arith, (stored_in d).within.counts.nodes)) ∙ t.map.is v h };
  }

  pub ready : room_spiderize ≤ length room → (ids : List ℕ) → (is_listed nodes (cells (table_of room)) ≡ among ids) × Linked nodes (cells (table_of room)) nodes (λ k x. []) → Ready d nodes room
  ready roomy ids is = record {
    mapped = record {
      held = omega (arith, (stored_in d).within.counts.nodes, is_nodes);
      map = record { long = t.map.long ∙ is_nodes; is = λ v h. t.map.is v (omega (arith, is_nodes)) };
    };
    roomy = roomy;
    proper = merged_proper (graph_in d) (stored_in d).formed.proper;
    count = t.count;
    ids = ids;
    listed = is.0;
    empty = is.1;
  }

-- the steps of the two calls, with the nodes that a table lists
module _ (d : Drawing) {nodes : ℕ} {room : List ℕ} (t : Told d.src.now nodes room) where
  pub step_all : is_listed nodes (cells (table_of room)) ≡ among (range 0 nodes) → spiderize_all_step (graph_in d) ≡ answered (record { graph = spidered_of d nodes room; id = 0 })
  unfolding spiderize
  step_all is =
      spiderize_all_0 (graph_in d) (merged (graph_in d)) t.answers
      ∙ ap (λ (m : ℕ → Bool). answered (record { graph = spiderized_at m (merged_of d); id = 0 })) (sym (is ∙ ap (λ (k : ℕ). among (range 0 k)) t.count))

  pub step_listed : (f : Format) (given ids : List ℕ) → id_list f (length (graph_in d).labels) given ≡ answered ids → is_listed nodes (cells (table_of room)) ≡ among (looked (merged (graph_in d)).ids ids)
      → spiderize_step f given (graph_in d) ≡ answered (record { graph = spidered_of d nodes room; id = 0 })
  unfolding spiderize
  step_listed f given ids e is =
      spiderize_0 f given (graph_in d) ids e (merged (graph_in d)) t.answers
      ∙ ap (λ (m : ℕ → Bool). answered (record { graph = spiderized_at m (merged_of d); id = 0 })) (sym is)
