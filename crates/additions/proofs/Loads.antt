-- A stored graph in the tables: its lists, and then one edge after the other.
-- Assumes nothing.
use mathlib.Core.List.{List, [], ◌∷◌, ◌++◌, map}
use mathlib.Core.Path.{◌≡◌, refl, sym, ap, ◌∙◌, subst}
use Prim.Native.Nat.{ℕ, zero, suc, ◌+◌, ◌*◌, ◌-◌, ◌≤◌, ◌<◌}
use native.Mathlib.Omega.{arith}
use lib.ListN.{length, get_or, take, drop, length-append}
use lib.Seq.{sets, length-take-le}
use Rattle.le.specs.Le.{Below, Outside}
use Rattle.le.specs.Rows.{entry}
use Rattle.le.proofs.Frames.{outside_sets}
use Rattle.le.proofs.Rows.{span_at}
use Rattle.graph.specs.Graph.{Edge, Graph, edge_entries, largest, Within}
use Rattle.graph.specs.Build.{new_edge, with_edges}
use Rattle.graph.specs.Form.{no_edge, edge_start}
use Rattle.graph.specs.Lists.{flat, joined}
use Rattle.graph.proofs.Laws.{joined_split}
use Rattle.graph.proofs.Rows.{take_edges, length_edge_rows}
use Rattle.graph.proofs.WriteRead.{length_flat}
use Rattle.form.specs.Form.{counts_of, labels_of}
use Rattle.form.specs.Stored.{Stored, graph_of}
use Rattle.form.specs.declared.Sizes.{Sizes}
use Rattle.form.proofs.Stored.{stored_rows}
use Rattle.ledger.specs.Tables.{labels_at, sources_at, targets_at, pairs_at, room_words}
use Rattle.ledger.specs.Ledger.{words_in, pairs_in, drawing, Draws, more}
use Rattle.ledger.proofs.Words.{words_before, words_stored, pairs_stored}
use Rattle.ledger.proofs.Added.{draws_as}
use Rattle.additions.specs.Loaded.{without_edges, loaded_to}

-- ---- the lists

pub lists_loaded : (W : List ℕ) (z : Sizes) (g : Graph) → room_words ≤ length W → Within largest (counts_of z) → length g.labels ≡ z.nodes → length g.sources ≡ z.sources → length g.targets ≡ z.targets
    → length g.pairs ≡ z.pairs → Below z.nodes g.sources → Below z.nodes g.targets → Below z.nodes (flat g.pairs)
    → Draws (sets (sets (sets (sets W labels_at g.labels) sources_at g.sources) targets_at g.targets) pairs_at (flat g.pairs)) (without_edges z 0 0) (loaded_to g 0)
unfolding drawing
lists_loaded W z g long w ln ls lt lp bs bt bp =
    let f : length (flat g.pairs) ≡ 2 * z.pairs = length_flat g.pairs ∙ ap (λ (n : ℕ). 2 * n) lp in
    let A = sets W labels_at g.labels in
    let B = sets A sources_at g.sources in
    let C = sets B targets_at g.targets in
    let D = sets C pairs_at (flat g.pairs) in
    let a : Outside labels_at (labels_at + length g.labels) W A = outside_sets labels_at (labels_at + length g.labels) W labels_at g.labels (omega arith) (omega arith) in
    let b : Outside sources_at (sources_at + length g.sources) A B = outside_sets sources_at (sources_at + length g.sources) A sources_at g.sources (omega arith) (omega arith) in
    let c : Outside targets_at (targets_at + length g.targets) B C = outside_sets targets_at (targets_at + length g.targets) B targets_at g.targets (omega arith) (omega arith) in
    let d : Outside pairs_at (pairs_at + length (flat g.pairs)) C D = outside_sets pairs_at (pairs_at + length (flat g.pairs)) C pairs_at (flat g.pairs) (omega arith) (omega arith) in
    let la = a.long in
    let lb = b.long in
    let lc = c.long in
    let ld = d.long in
    let labels : words_in D labels_at z.nodes ≡ g.labels =
    words_before d labels_at z.nodes (omega arith) ∙ words_before c labels_at z.nodes (omega arith) ∙ words_before b labels_at z.nodes (omega arith)
    ∙ ap (words_in A labels_at) (sym ln) ∙ words_stored W labels_at g.labels (omega arith) in
    let sources : words_in D sources_at z.sources ≡ g.sources =
    words_before d sources_at z.sources (omega arith) ∙ words_before c sources_at z.sources (omega arith) ∙ ap (words_in B sources_at) (sym ls) ∙ words_stored A sources_at g.sources (omega arith) in
    let targets : words_in D targets_at z.targets ≡ g.targets = words_before d targets_at z.targets (omega arith) ∙ ap (words_in C targets_at) (sym lt) ∙ words_stored B targets_at g.targets (omega arith) in
    let pairs : pairs_in D pairs_at z.pairs ≡ g.pairs = ap (pairs_in D pairs_at) (sym lp) ∙ pairs_stored C pairs_at g.pairs (omega arith) in
    record {
      sound = record {
        long = omega arith;
        within = record { nodes = w.nodes; edges = omega arith; sources = w.sources; targets = w.targets; pairs = w.pairs };
        few = omega arith;
        log = tt;
        sources = subst (Below z.nodes) (sym sources) bs;
        targets = subst (Below z.nodes) (sym targets) bt;
        pairs = subst (λ (k : List (ℕ × ℕ)). Below z.nodes (flat k)) (sym pairs) bp;
      };
      is = λ k. record { labels = labels k; edges = []; sources = sources k; targets = targets k; pairs = pairs k };
    }

-- ---- an edge

-- where edge i begins: two counts for each edge before it, and their ports
pub start_ports : (es : List Edge) (i : ℕ) → i ≤ length es → 2 * i ≤ edge_start es i
start_ports es i h = omega (arith, length_edge_rows (take i es), length-take-le i es h)

-- and no more ports than there are
pub start_few : (es : List Edge) (i : ℕ) → i ≤ length es → edge_start es i ≤ 2 * i + length (edge_entries es)
start_few es i h =
    let part : Edge → List ℕ = λ e. e.sources ++ e.targets in
    omega (arith, length_edge_rows (take i es), length-take-le i es h, ap length (joined_split part i es), length-append (joined part (take i es)) (joined part (drop i es)))

module _ {b : List ℕ} {z : Sizes} (s : Stored b z) (i : ℕ) (l : i < length (graph_of b).edges) where
  pub edge_label : i < z.edges → entry b (labels_of z) (z.nodes + i) ≡ (get_or (graph_of b).edges i no_edge).label
  edge_label h = sym (span_at b (labels_of z) z.nodes z.edges i h) ∙ ap (λ (ls : List ℕ). get_or ls i 0) (stored_rows s).edge_labels ∙ label_at (graph_of b).edges i l
    where
      label_at : (es : List Edge) (i : ℕ) → i < length es → get_or (map (λ e. e.label) es) i 0 ≡ (get_or es i no_edge).label
      label_at [] i h = absurd (omega arith)
      label_at (e ∷ es) zero h = refl
      label_at (e ∷ es) (suc i) h = label_at es i (omega arith)

  pub edge_loaded : (W X : List ℕ) (p label : ℕ) (ss ts : List ℕ) (n next : ℕ) → Draws W (without_edges z i p) (loaded_to (graph_of b) i)
      → Draws X (more (without_edges z i p) 0 1 n 0) (new_edge label ss ts (drawing W (without_edges z i p)))
      → label ≡ (get_or (graph_of b).edges i no_edge).label → ss ≡ (get_or (graph_of b).edges i no_edge).sources → ts ≡ (get_or (graph_of b).edges i no_edge).targets → next - 2 * (i + 1) ≡ p + n
      → Draws X (without_edges z (i + 1) (next - 2 * (i + 1))) (loaded_to (graph_of b) (i + 1))
  unfolding new_edge
  edge_loaded W X p label ss ts n next D E el es et en =
      let g = graph_of b in
      let n₀ : z.nodes + 0 ≡ z.nodes = omega arith in
      let q₀ : z.pairs + 0 ≡ z.pairs = omega arith in
      let e : Edge = record { label = label; sources = ss; targets = ts } in
      let same : e ≡ get_or g.edges i no_edge = λ k. record { label = el k; sources = es k; targets = et k } in
      draws_as (λ k. record { width = z.width; nodes = n₀ k; edges = i + 1; ports = sym en k; sources = z.sources; targets = z.targets; pairs = q₀ k })
      (ap (λ (h : Graph). with_edges (h.edges ++ (e ∷ [])) h) D.is
      ∙ (λ k. with_edges (take i g.edges ++ (same k ∷ [])) g) ∙ ap (λ (es : List Edge). with_edges es g) (sym (take_edges g.edges i l))) E
