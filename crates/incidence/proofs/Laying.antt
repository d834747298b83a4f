-- The lists are laid out one after the other: start and turn; and all that they have room for is the ports.
-- Assumes nothing.
use mathlib.Core.Path.{◌≡◌, sym, ap, ◌∙◌}
use mathlib.Core.List.{List, [], ◌∷◌, ◌++◌}
use mathlib.Core.Logic.{inl}
use Prim.Native.Nat.{ℕ, zero, suc, ◌+◌, ◌*◌, ◌%◌, ◌≤◌, ◌<◌}
use native.Mathlib.Decide.{ℕ_discrete}
use native.Mathlib.Numerals.{add-one}
use native.Mathlib.Omega.{arith}
use lib.ListN.{length, get_or, set, take, replicate, length-set, length-append, length-map, length-replicate}
use lib.Seq.{get_or-set_same, get_or-set_other, take-suc, take-length}
use Rattle.le.proofs.Frames.{outside_none, outside_trans, outside_set, outside_wider}
use Rattle.graph.specs.Graph.{Edge, Graph, edge_entries, ports}
use Rattle.graph.specs.Form.{no_edge}
use Rattle.graph.proofs.Laws.{joined_append}
use Rattle.halves.specs.Halves.{mate, times, sum_to}
use Rattle.halves.proofs.Sums.{sum_same, sum_add, sum_times, sum_zero}
use Rattle.tables.specs.Tables.{lists_at, picked_at}
use Rattle.removal.specs.Room.{start_of, count_of}
use Rattle.incidence.specs.Incidence.{neighbours, arcs_to, ports_of, Known, LaidOut}
use Rattle.incidence.proofs.Counting.{next_at_lem, nothing}

module _ (W : List ℕ) where
  pub sum_next : (sum k size : ℕ) → sum ≡ sum_to (λ u. get_or W (mate u) 0) k → size ≡ get_or W (mate k) 0 → sum + size ≡ sum_to (λ u. get_or W (mate u) 0) (k + 1)
  unfolding sum_to
  sum_next sum k size e f = (λ i. e i + f i) ∙ ap (sum_to (λ u. get_or W (mate u) 0)) (sym (add-one k))

  pub laid_start : LaidOut W W 0
  laid_start = record { frame = outside_none lists_at (lists_at + 2 * 0) W; start = λ y l. absurd (omega arith); none = λ y l. absurd (omega arith) }

  module _ (X : List ℕ) (k sum : ℕ) (l : LaidOut W X k) (is : sum ≡ sum_to (λ u. get_or W (mate u) 0) k) (fits : k < lists_at) (long : picked_at ≤ length W) where
    abbrev Y : List ℕ
    Y = set (set X (lists_at + 2 * k) sum) (lists_at + 2 * k + 1) 0

    pub degree_read : get_or (set (set X (lists_at + 2 * k) sum) (lists_at + 2 * k + 1) 0) (mate k) 0 ≡ get_or W (mate k) 0
    degree_read =
        get_or-set_other (set X (lists_at + 2 * k) sum) (lists_at + 2 * k + 1) (mate k) 0 0 (λ e. omega arith)
        ∙ get_or-set_other X (lists_at + 2 * k) (mate k) sum 0 (λ e. omega arith) ∙ l.frame.same (mate k) (inl (omega arith))

    -- the lists before stay
    old : (i : ℕ) → i < lists_at + 2 * k → get_or Y i 0 ≡ get_or X i 0
    old i h = get_or-set_other (set X (lists_at + 2 * k) sum) (lists_at + 2 * k + 1) i 0 0 (λ e. omega arith) ∙ get_or-set_other X (lists_at + 2 * k) i sum 0 (λ e. omega arith)

    pub laid_turn : LaidOut W (set (set X (lists_at + 2 * k) sum) (lists_at + 2 * k + 1) 0) (k + 1)
    laid_turn = record {
      frame = outside_trans (outside_wider (omega arith) (omega arith) l.frame) (outside_trans (outside_set lists_at (lists_at + 2 * (k + 1)) X (lists_at + 2 * k) sum (omega arith) (omega arith))
          (outside_set lists_at (lists_at + 2 * (k + 1)) (set X (lists_at + 2 * k) sum) (lists_at + 2 * k + 1) 0 (omega arith) (omega arith)));
      start = λ y h. start y h (ℕ_discrete y k);
      none = λ y h. none y h (ℕ_discrete y k);
    }
      where
        X_long : length X ≡ length W
        X_long = l.frame.long

        start : (y : ℕ) → y < k + 1 → Dec (y ≡ k) → start_of Y y ≡ sum_to (λ u. get_or W (mate u) 0) y
        start y h (yes e) =
            ap (start_of Y) e ∙ get_or-set_other (set X (lists_at + 2 * k) sum) (lists_at + 2 * k + 1) (lists_at + 2 * k) 0 0 (λ q. omega arith)
            ∙ get_or-set_same X (lists_at + 2 * k) sum 0 (omega (arith, X_long)) ∙ is ∙ ap (sum_to (λ u. get_or W (mate u) 0)) (sym e)
        start y h (no n) = old (lists_at + 2 * y) (omega arith) ∙ l.start y (omega arith)

        none : (y : ℕ) → y < k + 1 → Dec (y ≡ k) → count_of Y y ≡ 0
        none y h (yes e) = ap (count_of Y) e ∙ get_or-set_same (set X (lists_at + 2 * k) sum) (lists_at + 2 * k + 1) 0 0 (rw length-set (omega (arith, X_long)))
        none y h (no n) = old (lists_at + 2 * y + 1) (omega arith) ∙ l.none y (omega arith)

-- ---- the room for all entries

length_ports : (d : Edge) → length (ports_of d) ≡ length (d.sources ++ d.targets)
unfolding ports_of
length_ports d = simp (length-append, length-map)

module _ (g : Graph) (known : Known g) where
  room_for : (i : ℕ) → i ≤ length g.edges → sum_to (λ y. length (neighbours (arcs_to g i) y)) (2 * length g.labels) ≤ length (edge_entries (take i g.edges))
  room_for zero l = omega (arith, sum_zero (λ y. length (neighbours (arcs_to g 0) y)) (2 * length g.labels) (λ y. ap length (nothing g y)))
  room_for (suc i) l =
      omega (
        arith,
        sum_same (λ y. length (neighbours (arcs_to g (suc i)) y)) (λ y. length (neighbours (arcs_to g i) y) + times y (ports_of d)) (2 * length g.labels) each,
        sum_add (λ y. length (neighbours (arcs_to g i) y)) (λ y. times y (ports_of d)) (2 * length g.labels),
        sum_times (ports_of d) (2 * length g.labels),
        length_ports d,
        room_for i (omega arith),
        more,
      )
    where
      d : Edge
      d = get_or g.edges i no_edge

      more : length (edge_entries (take (suc i) g.edges)) ≡ length (edge_entries (take i g.edges)) + length (d.sources ++ d.targets)
      more =
          ap (λ (l : List Edge). length (edge_entries l)) (take-suc g.edges i no_edge l)
          ∙ ap length (joined_append (λ (e : Edge). e.sources ++ e.targets) (take i g.edges) (get_or g.edges i no_edge ∷ [])) ∙ simp length-append (omega arith)

      each : (y : ℕ) → y < 2 * length g.labels → length (neighbours (arcs_to g (suc i)) y) ≡ length (neighbours (arcs_to g i) y) + times y (ports_of d)
      each y h =
          let e : suc i ≡ i + 1 = omega arith in
          ap (λ (j : ℕ). length (neighbours (arcs_to g j) y)) e ∙ ap length (next_at_lem g known i l y (λ q. omega arith))
          ∙ length-append (neighbours (arcs_to g i) y) (replicate (times y (ports_of (get_or g.edges i no_edge))) (2 * (length g.labels + i) + y % 2))
          ∙ ap (λ (k : ℕ). length (neighbours (arcs_to g i) y) + k) (length-replicate (times y (ports_of (get_or g.edges i no_edge))) (2 * (length g.labels + i) + y % 2))

  pub room_for_all : sum_to (λ y. length (neighbours (arcs_to g (length g.edges)) y)) (2 * length g.labels) ≤ ports g
  room_for_all = omega (arith, room_for (length g.edges) (omega arith), ap (λ (l : List Edge). length (edge_entries l)) (take-length g.edges))
