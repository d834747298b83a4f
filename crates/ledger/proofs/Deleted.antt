-- What the room draws after its tables were sifted by the map, one after the other.
-- Assumes nothing.
use mathlib.Core.Bool.{Bool, true, false}
use mathlib.Core.Logic.{inr}
use mathlib.Core.List.{List}
use mathlib.Core.Path.{◌≡◌, sym, ap, ◌∙◌, subst}
use Prim.Native.Nat.{ℕ, ◌+◌, ◌*◌, ◌≤◌}
use native.Mathlib.Omega.{arith}
use lib.ListN.{length}
use Rattle.le.specs.Le.{Below, Outside}
use Rattle.graph.specs.Delete.{remaining, new_id, renamed, renamed_pairs, delete_edges, delete_nodes}
use Rattle.graph.specs.Lists.{flat, among, joined}
use Rattle.graph.proofs.Kept.{length_remaining, renamed_below, renamed_pairs_lem}
use Rattle.form.specs.declared.Sizes.{Sizes}
use Rattle.ledger.specs.declared.Renaming.TheVariants.{NodeOfPort, EdgeOfPort, BothEnds}
use Rattle.ledger.specs.Tables.{log_at, labels_at, edge_labels_at, sources_at, targets_at, pairs_at, map_at}
use Rattle.ledger.specs.Ledger.{words_in, pairs_in, log_in, edges_from, drawing, Sound, Draws, Logged}
use Rattle.ledger.specs.Left.{Mapped, kept_words, kept_pair, WordsLeft, PairsLeft}
use Rattle.ledger.proofs.Words.{length_words_in, words_before, words_behind, pairs_before, pairs_behind}
use Rattle.ledger.proofs.Without.{logged_nodes, logged_edges, edges_renamed, edges_left, logged_nodes_lem, logged_edges_lem, labels_left, ids_left, pairs_left, nodes_logged, edges_logged}

-- the map stays while tables before it are changed
mapped_on : {lo hi : ℕ} {W X : List ℕ} {goes : ℕ → Bool} {n : ℕ} → Outside lo hi W X → hi ≤ map_at → Mapped W goes n → Mapped X goes n
mapped_on o h m = record { each = λ i l. o.same (map_at + i) (inr (omega arith)) ∙ m.each i l }

module _ (goes : ℕ → Bool) where
  -- as many labels are left as the new id past the last
  how_many_lem : (X : List ℕ) (off r n : ℕ) (xs : List ℕ) → length xs ≡ n → words_in X off r ≡ remaining goes 0 xs → r ≡ new_id goes n
  how_many_lem X off r n xs l e =
      let a : length (words_in X off r) ≡ r = length_words_in X off r in
      let b = length_remaining goes 0 xs in
      let c : 0 + length xs ≡ n = omega arith in
      omega (arith, a, ap length e, rw c at b)

module _ (W : List ℕ) (z : Sizes) (S : Sound W z) (ids : List ℕ) where
  -- ---- edges

  pub edges_deleted : (W₁ W₂ W₃ : List ℕ) (e p : ℕ) → Outside map_at (map_at + z.edges) W W₁ → Mapped W₁ (among ids) z.edges → WordsLeft W₁ W₂ false edge_labels_at z.edges e → PairsLeft W₂ W₃ EdgeOfPort log_at z.ports p
      → Draws W₃ (record { width = z.width; nodes = z.nodes; edges = e; ports = p; sources = z.sources; targets = z.targets; pairs = z.pairs }) (delete_edges ids (drawing W z))
  unfolding drawing delete_edges
  edges_deleted W₁ W₂ W₃ e p o₁ m A B =
      let goes = among ids in
      let w = S.within in
      let l = S.long in
      let f = S.few in
      let few_a = A.few in
      let few_b = B.few in
      let o₂ = A.frame in
      let o₃ = B.frame in
      let el = words_in W edge_labels_at z.edges in
      let labels : words_in W₃ labels_at z.nodes ≡ words_in W labels_at z.nodes =
      words_behind o₃ labels_at z.nodes (omega arith) ∙ words_before o₂ labels_at z.nodes (omega arith) ∙ words_before o₁ labels_at z.nodes (omega arith) in
      let edge_labels_lem : words_in W₃ edge_labels_at e ≡ remaining goes 0 el =
      words_behind o₃ edge_labels_at e (omega arith) ∙ A.left ∙ labels_left goes W₁ z.edges m (omega arith) 0 (words_in W₁ edge_labels_at z.edges) (omega (arith, length_words_in W₁ edge_labels_at z.edges))
      ∙ ap (remaining goes 0) (words_before o₁ edge_labels_at z.edges (omega arith)) in
      let log₂ : pairs_in W₂ log_at z.ports ≡ log_in W z = pairs_before o₂ log_at z.ports (omega arith) ∙ pairs_before o₁ log_at z.ports (omega arith) in
      let log : pairs_in W₃ log_at p ≡ logged_edges goes (log_in W z) =
      B.left ∙ ap (joined (kept_pair W₂ EdgeOfPort)) log₂
      ∙ edges_logged goes W₂ z.edges (mapped_on o₂ (omega arith) m) (omega arith) z.nodes (log_in W z) (omega arith) (omega arith) S.log in
      let sources = words_behind o₃ sources_at z.sources (omega arith) ∙ words_behind o₂ sources_at z.sources (omega arith) ∙ words_before o₁ sources_at z.sources (omega arith) in
      let targets = words_behind o₃ targets_at z.targets (omega arith) ∙ words_behind o₂ targets_at z.targets (omega arith) ∙ words_before o₁ targets_at z.targets (omega arith) in
      let pairs = pairs_behind o₃ pairs_at z.pairs (omega arith) ∙ pairs_behind o₂ pairs_at z.pairs (omega arith) ∙ pairs_before o₁ pairs_at z.pairs (omega arith) in
      let many : e ≡ new_id goes z.edges = how_many_lem goes W₃ edge_labels_at e z.edges el (length_words_in W edge_labels_at z.edges) edge_labels_lem in
      record {
        sound = record {
          long = omega (arith, o₁.long, o₂.long, o₃.long);
          within = record { nodes = w.nodes; edges = omega arith; sources = w.sources; targets = w.targets; pairs = w.pairs };
          few = omega arith;
          log = subst (λ (k : List (ℕ × ℕ)). Logged (2 * e) z.nodes k) (sym log)
              (subst (λ (k : ℕ). Logged (2 * k) z.nodes (logged_edges goes (log_in W z))) (sym many) (logged_edges_lem goes z.edges z.nodes (log_in W z) S.log));
          sources = subst (Below z.nodes) (sym sources) S.sources;
          targets = subst (Below z.nodes) (sym targets) S.targets;
          pairs = subst (λ (k : List (ℕ × ℕ)). Below z.nodes (flat k)) (sym pairs) S.pairs;
        };
        is = (λ k. record { labels = labels k; edges = edges_from 0 (edge_labels_lem k) (log k); sources = sources k; targets = targets k; pairs = pairs k })
            ∙ (λ k. record { labels = words_in W labels_at z.nodes; edges = edges_left goes 0 el (log_in W z) k; sources = words_in W sources_at z.sources; targets = words_in W targets_at z.targets; pairs = pairs_in W pairs_at z.pairs });
      }

  -- ---- nodes

  pub nodes_deleted_lem : (W₁ W₂ W₃ W₄ W₅ W₆ : List ℕ) (n p s t q : ℕ) → Outside map_at (map_at + z.nodes) W W₁ → Mapped W₁ (among ids) z.nodes → WordsLeft W₁ W₂ false labels_at z.nodes n
      → PairsLeft W₂ W₃ NodeOfPort log_at z.ports p → WordsLeft W₃ W₄ true sources_at z.sources s → WordsLeft W₄ W₅ true targets_at z.targets t → PairsLeft W₅ W₆ BothEnds pairs_at z.pairs q
      → Draws W₆ (record { width = z.width; nodes = n; edges = z.edges; ports = p; sources = s; targets = t; pairs = q }) (delete_nodes ids (drawing W z))
  unfolding drawing delete_nodes
  nodes_deleted_lem W₁ W₂ W₃ W₄ W₅ W₆ n p s t q o₁ m A B C D E =
      let goes = among ids in
      let w = S.within in
      let l = S.long in
      let f = S.few in
      let few_a = A.few in
      let few_b = B.few in
      let few_c = C.few in
      let few_d = D.few in
      let few_e = E.few in
      let o₂ = A.frame in
      let o₃ = B.frame in
      let o₄ = C.frame in
      let o₅ = D.frame in
      let o₆ = E.frame in
      let ls = words_in W labels_at z.nodes in
      let m₂ : Mapped W₂ goes z.nodes = mapped_on o₂ (omega arith) m in
      let m₃ : Mapped W₃ goes z.nodes = mapped_on o₃ (omega arith) m₂ in
      let m₄ : Mapped W₄ goes z.nodes = mapped_on o₄ (omega arith) m₃ in
      let m₅ : Mapped W₅ goes z.nodes = mapped_on o₅ (omega arith) m₄ in
      let labels : words_in W₆ labels_at n ≡ remaining goes 0 ls =
      words_before o₆ labels_at n (omega arith) ∙ words_before o₅ labels_at n (omega arith) ∙ words_before o₄ labels_at n (omega arith) ∙ words_behind o₃ labels_at n (omega arith)
      ∙ A.left ∙ labels_left goes W₁ z.nodes m (omega arith) 0 (words_in W₁ labels_at z.nodes) (omega (arith, length_words_in W₁ labels_at z.nodes))
      ∙ ap (remaining goes 0) (words_before o₁ labels_at z.nodes (omega arith)) in
      let edge_labels_lem : words_in W₆ edge_labels_at z.edges ≡ words_in W edge_labels_at z.edges =
      words_before o₆ edge_labels_at z.edges (omega arith) ∙ words_before o₅ edge_labels_at z.edges (omega arith) ∙ words_before o₄ edge_labels_at z.edges (omega arith)
      ∙ words_behind o₃ edge_labels_at z.edges (omega arith) ∙ words_behind o₂ edge_labels_at z.edges (omega arith) ∙ words_before o₁ edge_labels_at z.edges (omega arith) in
      let log₂ : pairs_in W₂ log_at z.ports ≡ log_in W z = pairs_before o₂ log_at z.ports (omega arith) ∙ pairs_before o₁ log_at z.ports (omega arith) in
      let log : pairs_in W₆ log_at p ≡ logged_nodes goes (log_in W z) =
      pairs_before o₆ log_at p (omega arith) ∙ pairs_before o₅ log_at p (omega arith) ∙ pairs_before o₄ log_at p (omega arith)
      ∙ B.left ∙ ap (joined (kept_pair W₂ NodeOfPort)) log₂ ∙ nodes_logged goes W₂ z.nodes m₂ (omega arith) (2 * z.edges) (log_in W z) (omega arith) S.log in
      let sources₃ : words_in W₃ sources_at z.sources ≡ words_in W sources_at z.sources =
      words_behind o₃ sources_at z.sources (omega arith) ∙ words_behind o₂ sources_at z.sources (omega arith) ∙ words_before o₁ sources_at z.sources (omega arith) in
      let sources : words_in W₆ sources_at s ≡ renamed goes (words_in W sources_at z.sources) =
      words_before o₆ sources_at s (omega arith) ∙ words_before o₅ sources_at s (omega arith) ∙ C.left ∙ ap (kept_words W₃ true 0) sources₃
      ∙ ids_left goes W₃ z.nodes m₃ (omega arith) 0 (words_in W sources_at z.sources) S.sources in
      let targets₄ : words_in W₄ targets_at z.targets ≡ words_in W targets_at z.targets =
      words_behind o₄ targets_at z.targets (omega arith) ∙ words_behind o₃ targets_at z.targets (omega arith) ∙ words_behind o₂ targets_at z.targets (omega arith) ∙ words_before o₁ targets_at z.targets (omega arith) in
      let targets : words_in W₆ targets_at t ≡ renamed goes (words_in W targets_at z.targets) =
      words_before o₆ targets_at t (omega arith) ∙ D.left ∙ ap (kept_words W₄ true 0) targets₄
      ∙ ids_left goes W₄ z.nodes m₄ (omega arith) 0 (words_in W targets_at z.targets) S.targets in
      let pairs₅ : pairs_in W₅ pairs_at z.pairs ≡ pairs_in W pairs_at z.pairs =
      pairs_behind o₅ pairs_at z.pairs (omega arith) ∙ pairs_behind o₄ pairs_at z.pairs (omega arith) ∙ pairs_behind o₃ pairs_at z.pairs (omega arith) ∙ pairs_behind o₂ pairs_at z.pairs (omega arith)
      ∙ pairs_before o₁ pairs_at z.pairs (omega arith) in
      let pairs : pairs_in W₆ pairs_at q ≡ renamed_pairs goes (pairs_in W pairs_at z.pairs) =
      E.left ∙ ap (joined (kept_pair W₅ BothEnds)) pairs₅ ∙ pairs_left goes W₅ z.nodes m₅ (omega arith) (pairs_in W pairs_at z.pairs) S.pairs in
      let many : n ≡ new_id goes z.nodes = how_many_lem goes W₆ labels_at n z.nodes ls (length_words_in W labels_at z.nodes) labels in
      record {
        sound = record {
          long = omega (arith, o₁.long, o₂.long, o₃.long, o₄.long, o₅.long, o₆.long);
          within = record { nodes = omega arith; edges = w.edges; sources = omega arith; targets = omega arith; pairs = omega arith };
          few = omega arith;
          log = subst (λ (k : List (ℕ × ℕ)). Logged (2 * z.edges) n k) (sym log)
              (subst (λ (k : ℕ). Logged (2 * z.edges) k (logged_nodes goes (log_in W z))) (sym many) (logged_nodes_lem goes (2 * z.edges) z.nodes (log_in W z) S.log));
          sources = subst (Below n) (sym sources) (subst (λ (k : ℕ). Below k (renamed goes (words_in W sources_at z.sources))) (sym many) (renamed_below goes z.nodes (words_in W sources_at z.sources) S.sources));
          targets = subst (Below n) (sym targets) (subst (λ (k : ℕ). Below k (renamed goes (words_in W targets_at z.targets))) (sym many) (renamed_below goes z.nodes (words_in W targets_at z.targets) S.targets));
          pairs = subst (λ (k : List (ℕ × ℕ)). Below n (flat k)) (sym pairs)
              (subst (λ (k : ℕ). Below k (flat (renamed_pairs goes (pairs_in W pairs_at z.pairs)))) (sym many) (renamed_pairs_lem goes z.nodes (pairs_in W pairs_at z.pairs) S.pairs));
        };
        is = (λ k. record { labels = labels k; edges = edges_from 0 (edge_labels_lem k) (log k); sources = sources k; targets = targets k; pairs = pairs k })
            ∙ (λ k. record { labels = remaining goes 0 ls; edges = edges_renamed goes 0 (words_in W edge_labels_at z.edges) (log_in W z) k; sources = renamed goes (words_in W sources_at z.sources); targets = renamed goes (words_in W targets_at z.targets); pairs = renamed_pairs goes (pairs_in W pairs_at z.pairs) });
      }
