-- What the room draws after words were stored behind the last entry of a table.
-- Assumes nothing.
use mathlib.Core.List.{List, [], ◌∷◌, ◌++◌}
use mathlib.Core.Path.{◌≡◌, refl, sym, ap, ◌∙◌, subst}
use Prim.Native.Nat.{ℕ, ◌+◌, ◌*◌, ◌≤◌, ◌<◌}
use native.Mathlib.Omega.{arith}
use lib.Dec.{lit<}
use lib.ListN.{length, set, length-append, length-map}
use lib.Seq.{sets}
use Rattle.le.specs.Le.{Below, Outside}
use Rattle.le.proofs.Frames.{outside_set, outside_sets}
use Rattle.le.proofs.Numbers.{below_append, below_widen}
use Rattle.graph.specs.Graph.{Edge, Graph, counts, ports, largest}
use Rattle.graph.specs.Build.{with_nodes, with_edges, new_edge, new_operation, unify, add_edge_source, add_edge_target}
use Rattle.graph.specs.Lists.{flat, changed, range}
use Rattle.graph.proofs.Lists.{flat_append, length_range}
use Rattle.graph.proofs.Kept.{below_range}
use Rattle.graph.proofs.WriteRead.{length_flat}
use Rattle.form.specs.Form.{counts_of}
use Rattle.form.specs.declared.Sizes.{Sizes}
use Rattle.ledger.specs.Tables.{log_at, labels_at, edge_labels_at, sources_at, targets_at, pairs_at}
use Rattle.ledger.specs.Ledger.{words_in, pairs_in, log_in, edges_from, drawing, Sound, Draws, Logged, more, ports_of, edge_ports}
use Rattle.ledger.proofs.Words.{length_words_in, length_pairs_in, words_before, words_behind, pairs_before, pairs_behind, words_more, pairs_more}
use Rattle.ledger.proofs.Logs.{edge_more, source_more, target_more, with_source, with_target, ports_logged, logged_append, logged_wider, logged_edge, length_edges_from}

-- ---- the sizes of what is drawn

pub drawn_nodes : (W : List ℕ) (z : Sizes) → length (drawing W z).labels ≡ z.nodes
unfolding drawing
drawn_nodes W z = length_words_in W labels_at z.nodes

pub drawn_edges : (W : List ℕ) (z : Sizes) → length (drawing W z).edges ≡ z.edges
unfolding drawing
drawn_edges W z = length_edges_from 0 (words_in W edge_labels_at z.edges) (log_in W z) ∙ length_words_in W edge_labels_at z.edges

pub drawn_counts : (W : List ℕ) (z : Sizes) → counts (drawing W z) ≡ counts_of z
unfolding drawing
drawn_counts W z =
    let a = drawn_nodes W z in
    let b = drawn_edges W z in
    let c = length_words_in W sources_at z.sources in
    let d = length_words_in W targets_at z.targets in
    let e = length_pairs_in W pairs_at z.pairs in
    λ k. record { nodes = a k; edges = b k; sources = c k; targets = d k; pairs = e k }

-- the log, with as many halves as there are edge labels
logged_labels : (W : List ℕ) (z : Sizes) → Sound W z → Logged (2 * length (words_in W edge_labels_at z.edges)) z.nodes (log_in W z)
logged_labels W z S = subst (λ (n : ℕ). Logged (2 * n) z.nodes (log_in W z)) (sym (length_words_in W edge_labels_at z.edges)) S.log

pub drawn_ports : (W : List ℕ) (z : Sizes) → Sound W z → ports (drawing W z) ≡ z.ports
unfolding drawing
drawn_ports W z S = ports_logged (words_in W edge_labels_at z.edges) z.nodes (log_in W z) (logged_labels W z S) ∙ length_pairs_in W log_at z.ports

-- ---- nodes

module _ (W : List ℕ) (z : Sizes) (S : Sound W z) where
  pub nodes_added : (ls : List ℕ) → z.nodes + length ls ≤ largest.most.nodes → Draws (sets W (labels_at + z.nodes) ls) (more z (length ls) 0 0 0) (with_nodes ls (drawing W z))
  unfolding drawing
  nodes_added ls h =
      let X = sets W (labels_at + z.nodes) ls in
      let o : Outside (labels_at + z.nodes) (labels_at + z.nodes + length ls) W X = outside_sets (labels_at + z.nodes) (labels_at + z.nodes + length ls) W (labels_at + z.nodes) ls (omega arith) (omega arith) in
      let w = S.within in
      let f = S.few in
      let l = S.long in
      let e₀ : z.edges + 0 ≡ z.edges = omega arith in
      let p₀ : z.ports + 0 ≡ z.ports = omega arith in
      let q₀ : z.pairs + 0 ≡ z.pairs = omega arith in
      let labels = words_more W labels_at z.nodes ls (omega arith) in
      let edge_labels_lem : words_in X edge_labels_at (z.edges + 0) ≡ words_in W edge_labels_at z.edges = ap (words_in X edge_labels_at) e₀ ∙ words_behind o edge_labels_at z.edges (omega arith) in
      let log : pairs_in X log_at (z.ports + 0) ≡ pairs_in W log_at z.ports = ap (pairs_in X log_at) p₀ ∙ pairs_before o log_at z.ports (omega arith) in
      let sources = words_behind o sources_at z.sources (omega arith) in
      let targets = words_behind o targets_at z.targets (omega arith) in
      let pairs : pairs_in X pairs_at (z.pairs + 0) ≡ pairs_in W pairs_at z.pairs = ap (pairs_in X pairs_at) q₀ ∙ pairs_behind o pairs_at z.pairs (omega arith) in
      record {
        sound = record {
          long = omega (arith, o.long);
          within = record { nodes = h; edges = omega arith; sources = w.sources; targets = w.targets; pairs = omega arith };
          few = omega arith;
          log = subst (λ (k : List (ℕ × ℕ)). Logged (2 * (z.edges + 0)) (z.nodes + length ls) k) (sym log)
              (logged_wider (2 * z.edges) z.nodes (2 * (z.edges + 0)) (z.nodes + length ls) (log_in W z) (omega arith) (omega arith) S.log);
          sources = subst (Below (z.nodes + length ls)) (sym sources) (below_widen (words_in W sources_at z.sources) (omega arith) S.sources);
          targets = subst (Below (z.nodes + length ls)) (sym targets) (below_widen (words_in W targets_at z.targets) (omega arith) S.targets);
          pairs = subst (λ (k : List (ℕ × ℕ)). Below (z.nodes + length ls) (flat k)) (sym pairs) (below_widen (flat (pairs_in W pairs_at z.pairs)) (omega arith) S.pairs);
        };
        is = λ k. record { labels = labels k; edges = edges_from 0 (edge_labels_lem k) (log k); sources = sources k; targets = targets k; pairs = pairs k };
      }

  -- ---- an edge

  pub edge_added : (label : ℕ) (s t : List ℕ) → z.edges + 1 ≤ largest.most.edges → z.ports + (length s + length t) ≤ largest.most_ports → Below z.nodes s → Below z.nodes t
      → Draws (sets (set W (edge_labels_at + z.edges) label) (log_at + 2 * z.ports) (flat (edge_ports z.edges s t))) (more z 0 1 (length s + length t) 0) (new_edge label s t (drawing W z))
  unfolding drawing new_edge
  edge_added label s t he hp bs bt =
      let ps = edge_ports z.edges s t in
      let n : length ps ≡ length s + length t =
      length-append (ports_of (2 * z.edges) s) (ports_of (2 * z.edges + 1) t) ∙ (λ k. length-map {B = ℕ × ℕ} s (λ id. (2 * z.edges, id)) k + length-map {B = ℕ × ℕ} t (λ id. (2 * z.edges + 1, id)) k) in
      let long : length (flat ps) ≡ 2 * length ps = length_flat ps in
      let Y = set W (edge_labels_at + z.edges) label in
      let X = sets Y (log_at + 2 * z.ports) (flat ps) in
      let w = S.within in
      let l = S.long in
      let q : Outside (edge_labels_at + z.edges) (edge_labels_at + z.edges + 1) W Y = outside_set (edge_labels_at + z.edges) (edge_labels_at + z.edges + 1) W (edge_labels_at + z.edges) label (omega arith) (omega arith) in
      let o : Outside (log_at + 2 * z.ports) (log_at + 2 * z.ports + length (flat ps)) Y X =
      outside_sets (log_at + 2 * z.ports) (log_at + 2 * z.ports + length (flat ps)) Y (log_at + 2 * z.ports) (flat ps) (omega arith) (omega arith) in
      let n₀ : z.nodes + 0 ≡ z.nodes = omega arith in
      let q₀ : z.pairs + 0 ≡ z.pairs = omega arith in
      let labels : words_in X labels_at (z.nodes + 0) ≡ words_in W labels_at z.nodes = ap (words_in X labels_at) n₀ ∙ words_behind o labels_at z.nodes (omega arith) ∙ words_before q labels_at z.nodes (omega arith) in
      let edge_labels_lem : words_in X edge_labels_at (z.edges + 1) ≡ words_in W edge_labels_at z.edges ++ (label ∷ []) =
      words_behind o edge_labels_at (z.edges + 1) (omega arith) ∙ words_more W edge_labels_at z.edges (label ∷ []) (omega arith) in
      let log : pairs_in X log_at (z.ports + (length s + length t)) ≡ log_in W z ++ ps =
      ap (λ (k : ℕ). pairs_in X log_at (z.ports + k)) (sym n) ∙ pairs_more Y log_at z.ports ps (omega (arith, q.long))
      ∙ ap (λ (k : List (ℕ × ℕ)). k ++ ps) (pairs_before q log_at z.ports (omega arith)) in
      let sources = words_behind o sources_at z.sources (omega arith) ∙ words_behind q sources_at z.sources (omega arith) in
      let targets = words_behind o targets_at z.targets (omega arith) ∙ words_behind q targets_at z.targets (omega arith) in
      let pairs : pairs_in X pairs_at (z.pairs + 0) ≡ pairs_in W pairs_at z.pairs = ap (pairs_in X pairs_at) q₀ ∙ pairs_behind o pairs_at z.pairs (omega arith) ∙ pairs_behind q pairs_at z.pairs (omega arith) in
      let el = words_in W edge_labels_at z.edges in
      let le : length el ≡ z.edges = length_words_in W edge_labels_at z.edges in
      let same : edge_ports (length el) s t ≡ ps = ap (λ (k : ℕ). edge_ports k s t) le in
      let edges : edges_from 0 (el ++ (label ∷ [])) (log_in W z ++ ps) ≡ edges_from 0 el (log_in W z) ++ (record { label = label; sources = s; targets = t } ∷ []) =
      ap (λ (k : List (ℕ × ℕ)). edges_from 0 (el ++ (label ∷ [])) (log_in W z ++ k)) (sym same) ∙ edge_more el label z.nodes (log_in W z) s t (logged_labels W z S) in
      record {
        sound = record {
          long = omega (arith, o.long, q.long);
          within = record { nodes = omega arith; edges = he; sources = w.sources; targets = w.targets; pairs = omega arith };
          few = hp;
          log = subst (λ (k : List (ℕ × ℕ)). Logged (2 * (z.edges + 1)) (z.nodes + 0) k) (sym log)
              (subst (λ (m : ℕ). Logged (2 * (z.edges + 1)) m (log_in W z ++ ps)) (sym n₀)
              (logged_append (2 * (z.edges + 1)) z.nodes (log_in W z) ps
              (logged_wider (2 * z.edges) z.nodes (2 * (z.edges + 1)) z.nodes (log_in W z) (omega arith) (omega arith) S.log) (logged_edge z.edges z.nodes s t bs bt)));
          sources = subst (λ (m : ℕ). Below m (words_in X sources_at z.sources)) (sym n₀) (subst (Below z.nodes) (sym sources) S.sources);
          targets = subst (λ (m : ℕ). Below m (words_in X targets_at z.targets)) (sym n₀) (subst (Below z.nodes) (sym targets) S.targets);
          pairs = subst (λ (m : ℕ). Below m (flat (pairs_in X pairs_at (z.pairs + 0)))) (sym n₀) (subst (λ (k : List (ℕ × ℕ)). Below z.nodes (flat k)) (sym pairs) S.pairs);
        };
        is = (λ k. record { labels = labels k; edges = edges_from 0 (edge_labels_lem k) (log k); sources = sources k; targets = targets k; pairs = pairs k })
            ∙ (λ k. record { labels = words_in W labels_at z.nodes; edges = edges k; sources = words_in W sources_at z.sources; targets = words_in W targets_at z.targets; pairs = pairs_in W pairs_at z.pairs });
      }

  -- ---- a port of an edge that is there

  pub port_added : (edge side n : ℕ) → z.ports + 1 ≤ largest.most_ports → 2 * edge + side < 2 * z.edges → n < z.nodes
      → Draws (sets W (log_at + 2 * z.ports) ((2 * edge + side) ∷ n ∷ [])) (more z 0 0 1 0)
      (with_edges (edges_from 0 (words_in W edge_labels_at z.edges) (log_in W z ++ ((2 * edge + side, n) ∷ []))) (drawing W z))
  unfolding drawing
  port_added edge side n hp he hn =
      let p : List (ℕ × ℕ) = (2 * edge + side, n) ∷ [] in
      let X = sets W (log_at + 2 * z.ports) (flat p) in
      let w = S.within in
      let l = S.long in
      let o : Outside (log_at + 2 * z.ports) (log_at + 2 * z.ports + 2) W X =
      outside_sets (log_at + 2 * z.ports) (log_at + 2 * z.ports + 2) W (log_at + 2 * z.ports) (flat p) (omega arith) (omega arith) in
      let n₀ : z.nodes + 0 ≡ z.nodes = omega arith in
      let e₀ : z.edges + 0 ≡ z.edges = omega arith in
      let q₀ : z.pairs + 0 ≡ z.pairs = omega arith in
      let labels : words_in X labels_at (z.nodes + 0) ≡ words_in W labels_at z.nodes = ap (words_in X labels_at) n₀ ∙ words_behind o labels_at z.nodes (omega arith) in
      let edge_labels_lem : words_in X edge_labels_at (z.edges + 0) ≡ words_in W edge_labels_at z.edges = ap (words_in X edge_labels_at) e₀ ∙ words_behind o edge_labels_at z.edges (omega arith) in
      let log : pairs_in X log_at (z.ports + 1) ≡ log_in W z ++ p = pairs_more W log_at z.ports p (omega arith) in
      let sources = words_behind o sources_at z.sources (omega arith) in
      let targets = words_behind o targets_at z.targets (omega arith) in
      let pairs : pairs_in X pairs_at (z.pairs + 0) ≡ pairs_in W pairs_at z.pairs = ap (pairs_in X pairs_at) q₀ ∙ pairs_behind o pairs_at z.pairs (omega arith) in
      record {
        sound = record {
          long = omega (arith, o.long);
          within = record { nodes = omega arith; edges = omega arith; sources = w.sources; targets = w.targets; pairs = omega arith };
          few = hp;
          log = subst (λ (k : List (ℕ × ℕ)). Logged (2 * (z.edges + 0)) (z.nodes + 0) k) (sym log)
              (logged_append (2 * (z.edges + 0)) (z.nodes + 0) (log_in W z) p
              (logged_wider (2 * z.edges) z.nodes (2 * (z.edges + 0)) (z.nodes + 0) (log_in W z) (omega arith) (omega arith) S.log) (omega arith, omega arith, tt));
          sources = subst (λ (m : ℕ). Below m (words_in X sources_at z.sources)) (sym n₀) (subst (Below z.nodes) (sym sources) S.sources);
          targets = subst (λ (m : ℕ). Below m (words_in X targets_at z.targets)) (sym n₀) (subst (Below z.nodes) (sym targets) S.targets);
          pairs = subst (λ (m : ℕ). Below m (flat (pairs_in X pairs_at (z.pairs + 0)))) (sym n₀) (subst (λ (k : List (ℕ × ℕ)). Below z.nodes (flat k)) (sym pairs) S.pairs);
        };
        is = λ k. record { labels = labels k; edges = edges_from 0 (edge_labels_lem k) (log k); sources = sources k; targets = targets k; pairs = pairs k };
      }

  -- ---- a pair

  pub pair_added : (v w : ℕ) → z.pairs + 1 ≤ largest.most.pairs → v < z.nodes → w < z.nodes
      → Draws (sets W (pairs_at + 2 * z.pairs) (v ∷ w ∷ [])) (more z 0 0 0 1) (unify v w (drawing W z))
  unfolding drawing unify
  pair_added a b hp ha hb =
      let p : List (ℕ × ℕ) = (a, b) ∷ [] in
      let X = sets W (pairs_at + 2 * z.pairs) (flat p) in
      let w = S.within in
      let l = S.long in
      let f = S.few in
      let o : Outside (pairs_at + 2 * z.pairs) (pairs_at + 2 * z.pairs + 2) W X =
      outside_sets (pairs_at + 2 * z.pairs) (pairs_at + 2 * z.pairs + 2) W (pairs_at + 2 * z.pairs) (flat p) (omega arith) (omega arith) in
      let n₀ : z.nodes + 0 ≡ z.nodes = omega arith in
      let e₀ : z.edges + 0 ≡ z.edges = omega arith in
      let p₀ : z.ports + 0 ≡ z.ports = omega arith in
      let labels : words_in X labels_at (z.nodes + 0) ≡ words_in W labels_at z.nodes = ap (words_in X labels_at) n₀ ∙ words_before o labels_at z.nodes (omega arith) in
      let edge_labels_lem : words_in X edge_labels_at (z.edges + 0) ≡ words_in W edge_labels_at z.edges = ap (words_in X edge_labels_at) e₀ ∙ words_before o edge_labels_at z.edges (omega arith) in
      let log : pairs_in X log_at (z.ports + 0) ≡ log_in W z = ap (pairs_in X log_at) p₀ ∙ pairs_before o log_at z.ports (omega arith) in
      let sources = words_before o sources_at z.sources (omega arith) in
      let targets = words_before o targets_at z.targets (omega arith) in
      let pairs : pairs_in X pairs_at (z.pairs + 1) ≡ pairs_in W pairs_at z.pairs ++ p = pairs_more W pairs_at z.pairs p (omega arith) in
      record {
        sound = record {
          long = omega (arith, o.long);
          within = record { nodes = omega arith; edges = omega arith; sources = w.sources; targets = w.targets; pairs = hp };
          few = omega arith;
          log = subst (λ (k : List (ℕ × ℕ)). Logged (2 * (z.edges + 0)) (z.nodes + 0) k) (sym log)
              (logged_wider (2 * z.edges) z.nodes (2 * (z.edges + 0)) (z.nodes + 0) (log_in W z) (omega arith) (omega arith) S.log);
          sources = subst (λ (m : ℕ). Below m (words_in X sources_at z.sources)) (sym n₀) (subst (Below z.nodes) (sym sources) S.sources);
          targets = subst (λ (m : ℕ). Below m (words_in X targets_at z.targets)) (sym n₀) (subst (Below z.nodes) (sym targets) S.targets);
          pairs = subst (λ (k : List (ℕ × ℕ)). Below (z.nodes + 0) (flat k)) (sym pairs)
              (subst (Below (z.nodes + 0)) (sym (flat_append (pairs_in W pairs_at z.pairs) p))
              (below_append (z.nodes + 0) (flat (pairs_in W pairs_at z.pairs)) (flat p) (below_widen (flat (pairs_in W pairs_at z.pairs)) (omega arith) S.pairs) (omega arith, (omega arith, tt))));
        };
        is = λ k. record { labels = labels k; edges = edges_from 0 (edge_labels_lem k) (log k); sources = sources k; targets = targets k; pairs = pairs k };
      }

-- ---- nodes and what joins them

-- these sizes with more nodes and nothing else
abbrev with_nodes_lem : Sizes → ℕ → Sizes
with_nodes_lem z n = record { width = z.width; nodes = z.nodes + n; edges = z.edges; ports = z.ports; sources = z.sources; targets = z.targets; pairs = z.pairs }

nodes_only : (z : Sizes) (n : ℕ) → more z n 0 0 0 ≡ with_nodes_lem z n
nodes_only z n =
    let e : z.edges + 0 ≡ z.edges = omega arith in
    let p : z.ports + 0 ≡ z.ports = omega arith in
    let q : z.pairs + 0 ≡ z.pairs = omega arith in
    λ k. record { width = z.width; nodes = z.nodes + n; edges = e k; ports = p k; sources = z.sources; targets = z.targets; pairs = q k }

nodes_then : (z : Sizes) (n e p : ℕ) → more (with_nodes_lem z n) 0 e p 0 ≡ more z n e p 0
nodes_then z n e p =
    let m : z.nodes + n + 0 ≡ z.nodes + n = omega arith in
    λ k. record { width = z.width; nodes = m k; edges = z.edges + e; ports = z.ports + p; sources = z.sources; targets = z.targets; pairs = z.pairs + 0 }

pub draws_as : {W : List ℕ} {y z : Sizes} {g h : Graph} → y ≡ z → g ≡ h → Draws W y g → Draws W z h
draws_as {W} {y} {z} {g} {h} e f d = subst (λ (k : Graph). Draws W z k) f (subst (λ (k : Sizes). Draws W k g) e d)

module _ (W : List ℕ) (z : Sizes) (S : Sound W z) where
  first : (ls : List ℕ) → z.nodes + length ls ≤ largest.most.nodes → Draws (sets W (labels_at + z.nodes) ls) (with_nodes_lem z (length ls)) (with_nodes ls (drawing W z))
  first ls h = draws_as (nodes_only z (length ls)) refl (nodes_added W z S ls h)

  pub operation_added : (label : ℕ) (s t : List ℕ) → z.nodes + length (s ++ t) ≤ largest.most.nodes → z.edges + 1 ≤ largest.most.edges → z.ports + (length s + length t) ≤ largest.most_ports
      → Draws (sets (set (sets W (labels_at + z.nodes) (s ++ t)) (edge_labels_at + z.edges) label) (log_at + 2 * z.ports)
      (flat (edge_ports z.edges (range z.nodes (length s)) (range (z.nodes + length s) (length t)))))
      (more z (length (s ++ t)) 1 (length s + length t) 0) (new_operation label s t (drawing W z))
  unfolding new_operation
  operation_added label s t hn he hp =
      let D = first (s ++ t) hn in
      let W₁ = sets W (labels_at + z.nodes) (s ++ t) in
      let y = with_nodes_lem z (length (s ++ t)) in
      let n = z.nodes in
      let a = range n (length s) in
      let b = range (n + length s) (length t) in
      let la : length a ≡ length s = length_range n (length s) in
      let lb : length b ≡ length t = length_range (n + length s) (length t) in
      let ls = length-append s t in
      let E = edge_added W₁ y D.sound label a b he (omega arith) (below_range (z.nodes + length (s ++ t)) n (length s) (omega arith)) (below_range (z.nodes + length (s ++ t)) (n + length s) (length t) (omega arith)) in
      draws_as ((λ k. more y 0 1 (la k + lb k) 0) ∙ nodes_then z (length (s ++ t)) 1 (length s + length t))
      (ap (new_edge label a b) D.is ∙ (λ k. new_edge label (range (sym (drawn_nodes W z) k) (length s)) (range (sym (drawn_nodes W z) k + length s) (length t)) (with_nodes (s ++ t) (drawing W z)))) E

  -- a new node at the end of a side of an edge
  module _ (edge label : ℕ) (hn : z.nodes + 1 ≤ largest.most.nodes) (hp : z.ports + 1 ≤ largest.most_ports) (he : edge < z.edges) where
    end : (side : ℕ) → side < 2 → Draws (sets (set W (labels_at + z.nodes) label) (log_at + 2 * z.ports) ((2 * edge + side) ∷ z.nodes ∷ [])) (more z 1 0 1 0)
        (with_edges (edges_from 0 (words_in (set W (labels_at + z.nodes) label) edge_labels_at z.edges) (log_in (set W (labels_at + z.nodes) label) z ++ ((2 * edge + side, z.nodes) ∷ [])))
        (with_nodes (label ∷ []) (drawing W z)))
    end side l =
        let D = first (label ∷ []) hn in
        let W₁ = set W (labels_at + z.nodes) label in
        let y = with_nodes_lem z 1 in
        let E = port_added W₁ y D.sound edge side z.nodes hp (omega arith) (omega arith) in
        draws_as (nodes_then z 1 0 1) (λ k. with_edges (edges_from 0 (words_in W₁ edge_labels_at z.edges) (log_in W₁ z ++ ((2 * edge + side, z.nodes) ∷ []))) (D.is k)) E

    edges_same : edges_from 0 (words_in (set W (labels_at + z.nodes) label) edge_labels_at z.edges) (log_in (set W (labels_at + z.nodes) label) z) ≡ (drawing W z).edges
    unfolding drawing
    edges_same = ap (λ (g : Graph). g.edges) (first (label ∷ []) hn).is

    labelled : length (words_in (set W (labels_at + z.nodes) label) edge_labels_at z.edges) ≡ z.edges
    labelled = length_words_in (set W (labels_at + z.nodes) label) edge_labels_at z.edges

    pub source_added : Draws (sets (set W (labels_at + z.nodes) label) (log_at + 2 * z.ports) ((2 * edge + 0) ∷ z.nodes ∷ [])) (more z 1 0 1 0) (add_edge_source edge label (drawing W z))
    unfolding add_edge_source
    source_added =
        let W₁ = set W (labels_at + z.nodes) label in
        let ls = words_in W₁ edge_labels_at z.edges in
        let log = log_in W₁ z in
        let at : 2 * edge + 0 ≡ 2 * (0 + edge) = omega arith in
        let edges : edges_from 0 ls (log ++ ((2 * edge + 0, z.nodes) ∷ [])) ≡ changed (with_source (length (drawing W z).labels)) edge (drawing W z).edges =
        ap (λ (k : ℕ). edges_from 0 ls (log ++ ((k, z.nodes) ∷ []))) at ∙ source_more 0 edge z.nodes ls log (omega (arith, labelled))
        ∙ (λ k. changed (with_source (sym (drawn_nodes W z) k)) edge (edges_same k)) in
        draws_as refl (ap (λ (es : List Edge). with_edges es (with_nodes (label ∷ []) (drawing W z))) edges) (end 0 (lit< tt))

    pub target_added : Draws (sets (set W (labels_at + z.nodes) label) (log_at + 2 * z.ports) ((2 * edge + 1) ∷ z.nodes ∷ [])) (more z 1 0 1 0) (add_edge_target edge label (drawing W z))
    unfolding add_edge_target
    target_added =
        let W₁ = set W (labels_at + z.nodes) label in
        let ls = words_in W₁ edge_labels_at z.edges in
        let log = log_in W₁ z in
        let at : 2 * edge + 1 ≡ 2 * (0 + edge) + 1 = omega arith in
        let edges : edges_from 0 ls (log ++ ((2 * edge + 1, z.nodes) ∷ [])) ≡ changed (with_target (length (drawing W z).labels)) edge (drawing W z).edges =
        ap (λ (k : ℕ). edges_from 0 ls (log ++ ((k, z.nodes) ∷ []))) at ∙ target_more 0 edge z.nodes ls log (omega (arith, labelled))
        ∙ (λ k. changed (with_target (sym (drawn_nodes W z) k)) edge (edges_same k)) in
        draws_as refl (ap (λ (es : List Edge). with_edges es (with_nodes (label ∷ []) (drawing W z))) edges) (end 1 (lit< tt))
