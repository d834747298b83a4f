-- A room whose ports are linked draws what it drew; and the ports of a half, walked from its first.
-- Assumes nothing.
use mathlib.Core.Bool.{Bool, true, false, cond}
use mathlib.Core.List.{List, [], ◌∷◌, ◌++◌, append_assoc, append-nil}
use mathlib.Core.Path.{◌≡◌, refl, sym, ap, ◌∙◌, subst}
use Prim.Native.Nat.{ℕ, zero, suc, ◌+◌, ◌*◌, ◌-◌, ◌≤◌, ◌<◌}
use native.Mathlib.Omega.{arith}
use lib.Dec.{eqb}
use lib.ListN.{length, get_or, take, drop, replicate, length-append, length-drop, length-replicate, get_or-replicate}
use lib.Seq.{sets, get_or-drop, drop-drop, take_all}
use Rattle.le.specs.Le.{Below, Outside}
use Rattle.le.proofs.Tables.{get_d_sets}
use Rattle.graph.specs.Form.{edge_row, no_edge}
use Rattle.graph.specs.Lists.{flat, joined}
use Rattle.graph.proofs.Laws.{joined_append}
use Rattle.graph.proofs.Rows.{take_edges, length_edge_rows}
use Rattle.form.specs.declared.Sizes.{Sizes}
use Rattle.write.proofs.Grows.{Grows}
use Rattle.ledger.specs.Tables.{log_at, next_at, first_at, labels_at, edge_labels_at, sources_at, targets_at, pairs_at}
use Rattle.ledger.specs.Ledger.{words_in, log_in, nodes_at, edge_at, edges_from, drawing, Sound, Logged, port_from, LinkedFrom}
use Rattle.ledger.proofs.Words.{length_words_in, words_behind, pairs_before, pairs_behind, length_pairs_in, pairs_at_lem}
use Rattle.ledger.proofs.Logs.{logged_at, length_edges_from}
use Rattle.ledger.proofs.Added.{drawn_edges, drawn_ports}
use Rattle.ledger.proofs.Linking.{walk_ends, walk_on, linked_none}
use Rattle.grouping.specs.Grouped.{edge_in}

-- ---- what linking leaves alone

module _ {W X : List ℕ} (z : Sizes) (o : Outside next_at labels_at W X) (S : Sound W z) where
  same_log : log_in X z ≡ log_in W z
  same_log = let f = S.few in pairs_before o log_at z.ports (omega arith)

  pub same_drawing : drawing X z ≡ drawing W z
  unfolding drawing
  same_drawing =
      let a = words_behind o labels_at z.nodes (omega arith) in
      let b = words_behind o edge_labels_at z.edges (omega arith) in
      let c = same_log in
      let d = words_behind o sources_at z.sources (omega arith) in
      let e = words_behind o targets_at z.targets (omega arith) in
      let f = pairs_behind o pairs_at z.pairs (omega arith) in
      λ k. record { labels = a k; edges = edges_from 0 (b k) (c k); sources = d k; targets = e k; pairs = f k }

  pub same_sound : Sound X z
  same_sound = record {
    long = omega (arith, o.long, S.long);
    within = S.within;
    few = S.few;
    log = subst (Logged (2 * z.edges) z.nodes) (sym same_log) S.log;
    sources = subst (Below z.nodes) (sym (words_behind o sources_at z.sources (omega arith))) S.sources;
    targets = subst (Below z.nodes) (sym (words_behind o targets_at z.targets (omega arith))) S.targets;
    pairs = subst (λ (k : List (ℕ × ℕ)). Below z.nodes (flat k)) (sym (pairs_behind o pairs_at z.pairs (omega arith))) S.pairs;
  }

-- the half of port k
pub half_low : (W : List ℕ) (z : Sizes) → Sound W z → (k : ℕ) → k < z.ports → get_or W (log_at + 2 * k) 0 < 2 * z.edges
half_low W z S k h =
    let n = length_pairs_in W log_at z.ports in
    subst (λ (p : ℕ × ℕ). p.0 < 2 * z.edges) (pairs_at_lem W log_at z.ports k h) (logged_at (2 * z.edges) z.nodes (log_in W z) k (omega arith) S.log).0

-- no port is linked where no half has a first
pub linked_start : (W : List ℕ) (z : Sizes) → Sound W z → LinkedFrom (sets W first_at (replicate (2 * z.edges) 0)) z z.ports
linked_start W z S =
    let w = S.within in
    let l = S.long in
    linked_none z (sets W first_at (replicate (2 * z.edges) 0)) (λ half h.
    get_d_sets W first_at (replicate (2 * z.edges) 0) half (omega (arith, length-replicate {A = ℕ} (2 * z.edges) 0)) (omega (arith, length-replicate {A = ℕ} (2 * z.edges) 0)) ∙ get_or-replicate (2 * z.edges) half 0 0 h)

-- ---- walking

-- the ports of a half before this number are done, and their nodes
pub record Walk (W : List ℕ) (z : Sizes) (half port : ℕ) (done : List ℕ) : Type 0 where
  pub from : ℕ
  pub is : port ≡ port_from half (suc from) (drop from (log_in W z))
  pub all : done ++ nodes_at half (drop from (log_in W z)) ≡ nodes_at half (log_in W z)

pub record Walked (W : List ℕ) (z : Sizes) (half port node next : ℕ) (done : List ℕ) : Type 0 where
  pub some : 1 ≤ port
  pub low : port ≤ z.ports
  pub fits : length done < length (nodes_at half (log_in W z))
  pub walk : Walk W z half next (done ++ (node ∷ []))

module _ (W : List ℕ) (z : Sizes) (half : ℕ) (links : LinkedFrom W z 0) where
  pub walk_begins : (port : ℕ) → half < 2 * z.edges → port ≡ get_or W (first_at + half) 0 → Walk W z half port []
  walk_begins port h e = record { from = 0; is = e ∙ links.first half h; all = refl }

  pub walk_done : (done : List ℕ) → Walk W z half 0 done → done ≡ nodes_at half (log_in W z)
  walk_done done w =
      sym (append-nil done) ∙ ap (λ (l : List ℕ). done ++ l) (sym (walk_ends half (suc w.from) (drop w.from (log_in W z)) (omega arith) (sym w.is))) ∙ w.all

  pub walk_turns : (port : ℕ) (done : List ℕ) → Walk W z half port done → (port ≡ 0 → ⊥) → (node next : ℕ) → node ≡ get_or W (log_at + 2 * (port - 1) + 1) 0 → next ≡ get_or W (next_at + (port - 1)) 0
      → Walked W z half port node next done
  walk_turns port done w some node next en ex =
      let log = log_in W z in
      let k = w.from in
      let rest = drop k log in
      let q = port_from half (suc k) rest in
      let n = walk_on half (suc k) rest (λ e. some (w.is ∙ e)) in
      let same : port ≡ q = w.is in
      let low₁ = n.from in
      let low₂ = n.inside in
      let long : length rest ≡ z.ports - k = length-drop k log ∙ ap (λ (m : ℕ). m - k) (length_pairs_in W log_at z.ports) in
      let at : k + (q - suc k) ≡ port - 1 = omega arith in
      let inside : port - 1 < z.ports = omega arith in
      let entry : get_or rest (q - suc k) (0, 0) ≡ (get_or W (log_at + 2 * (port - 1)) 0, get_or W (log_at + 2 * (port - 1) + 1) 0) =
      get_or-drop k log (q - suc k) (0, 0) ∙ ap (λ (i : ℕ). get_or log i (0, 0)) at ∙ pairs_at_lem W log_at z.ports (port - 1) inside in
      let is_node : (get_or rest (q - suc k) (0, 0)).1 ≡ node = ap (λ (p : ℕ × ℕ). p.1) entry ∙ sym en in
      let is_half : get_or W (log_at + 2 * (port - 1)) 0 ≡ half = sym (ap (λ (p : ℕ × ℕ). p.0) entry) ∙ n.half_there in
      let further : k + suc (q - suc k) ≡ port = omega arith in
      let left : drop (suc (q - suc k)) rest ≡ drop port log = drop-drop (suc (q - suc k)) k log ∙ ap (λ (i : ℕ). drop i log) further in
      let nodes : nodes_at half rest ≡ node ∷ nodes_at half (drop port log) = n.nodes ∙ (λ i. is_node i ∷ nodes_at half (left i)) in
      let all : (done ++ (node ∷ [])) ++ nodes_at half (drop port log) ≡ nodes_at half log = append_assoc done (node ∷ []) (nodes_at half (drop port log)) ∙ ap (λ (l : List ℕ). done ++ l) (sym nodes) ∙ w.all in
      let one : suc (port - 1) ≡ port = omega arith in
      record {
        some = omega arith;
        low = omega arith;
        fits = omega (arith, ap length all, length-append (done ++ (node ∷ [])) (nodes_at half (drop port log)), length-append done (node ∷ []));
        walk = record {
          from = port;
          is = ex ∙ links.next (port - 1) (omega arith) inside ∙ (λ i. port_from (is_half i) (suc (one i)) (drop (one i) log));
          all = all;
        };
      }

-- ---- all edges

pub nodes_few : (half : ℕ) (log : List (ℕ × ℕ)) → length (nodes_at half log) ≤ length log
nodes_few half [] = omega arith
nodes_few half (p ∷ log) = go (eqb p.0 half) (nodes_few half log)
  where
    go : (c : Bool) → length (nodes_at half log) ≤ length log → length (cond c (p.1 ∷ nodes_at half log) (nodes_at half log)) ≤ suc (length log)
    go true h = omega arith
    go false h = omega arith

edges_at : (j : ℕ) (labels : List ℕ) (log : List (ℕ × ℕ)) (i : ℕ) → i < length labels → get_or (edges_from j labels log) i no_edge ≡ edge_at (j + i) (get_or labels i 0) log
edges_at j [] log i h = absurd (omega arith)
edges_at j (l ∷ labels) log zero h = let e : j ≡ j + 0 = omega arith in ap (λ (n : ℕ). edge_at n l log) e
edges_at j (l ∷ labels) log (suc i) h =
    let e : suc j + i ≡ j + suc i = omega arith in
    edges_at (suc j) labels log i (omega arith) ∙ ap (λ (n : ℕ). edge_at n (get_or labels i 0) log) e

pub edges_grow : (W : List ℕ) (z : Sizes) → Grows (λ i. joined edge_row (take i (drawing W z).edges)) (λ i. edge_row (edge_in W z i)) z.edges
unfolding drawing
edges_grow W z = record {
  more = λ i l.
      let es = (drawing W z).edges in
      let ls = words_in W edge_labels_at z.edges in
      let n = length_words_in W edge_labels_at z.edges in
      let long : i < length es = omega (arith, length_edges_from 0 ls (log_in W z)) in
      let here : get_or es i no_edge ≡ edge_at (0 + i) (get_or ls i 0) (log_in W z) = edges_at 0 ls (log_in W z) i (omega arith) in
      let z₀ : 0 + i ≡ i = omega arith in
      let row : edge_row (get_or es i no_edge) ≡ edge_row (edge_in W z i) = ap edge_row here ∙ ap (λ (j : ℕ). edge_row (edge_at j 0 (log_in W z))) z₀ in
      ap (joined edge_row) (take_edges es i long) ∙ joined_append edge_row (take i es) (get_or es i no_edge ∷ []) ∙ ap (λ (l : List ℕ). joined edge_row (take i es) ++ l) (append-nil (edge_row (get_or es i no_edge)) ∙ row);
}

pub all_edges : (W : List ℕ) (z : Sizes) → take z.edges (drawing W z).edges ≡ (drawing W z).edges
all_edges W z = take_all z.edges (drawing W z).edges (omega (arith, drawn_edges W z))

pub edges_long : (W : List ℕ) (z : Sizes) → Sound W z → length (joined edge_row (drawing W z).edges) ≡ 2 * z.edges + z.ports
edges_long W z S = length_edge_rows (drawing W z).edges ∙ (λ k. 2 * drawn_edges W z k + drawn_ports W z S k)
