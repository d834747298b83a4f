-- An edge that is visited, edges that are swept over, and sweeps until nothing is loose.
-- Assumes nothing.
use mathlib.Core.Path.{◌≡◌, refl, sym, ap, ◌∙◌, subst}
use mathlib.Core.Bool.{Bool, true, false, ◌&&◌, not, cond, false≢true}
use mathlib.Core.List.{List, ◌++◌}
use mathlib.Core.Logic.{◌⊎◌, inl, inr, ⊎_elim}
use Prim.Native.Nat.{ℕ, suc, ◌+◌, ◌-◌, ◌≤◌, ◌<◌}
use native.Mathlib.Decide.{dec_lt}
use native.Mathlib.Nat.{eq-zero-or-pos, eq-or-lt_of_le, add-zero}
use native.Mathlib.Omega.{arith}
use lib.Dec.{T, ltb}
use lib.ListN.{length, get_or}
use borrow.Author.Tests.{lt-ltb, le-ltb}
use Rattle.le.specs.Le.{Below}
use Rattle.le.proofs.Numbers.{below_append, below_widen}
use Rattle.graph.specs.Form.{no_edge}
use Rattle.graph.specs.Graph.{Graph}
use Rattle.choice.specs.Arcs.{bump, Set, has, size, into, out, Stable}
use Rattle.choice.specs.Calls.{room_cycle_breaking_nodes_scanning}
use Rattle.choice.specs.Drawing.{arcs, vertex_count}
use Rattle.choice.proofs.Degrees.{how_many_length}
use Rattle.choice.proofs.Sets.{gone, without_subset, has_lt, size_without}
use Rattle.choice.proofs.Sweeps.{edge_into, edge_out}
use Rattle.marks.specs.Tables.{Alike, remains, left, some_left, degrees, tested_all, went_of, lowered, must_go, visited, visited_of}
use Rattle.sweeps.specs.Sweeps.{Telling, State, Moves, Settled, Swept, Sweeps, start, another, Rests}
use Rattle.marks.proofs.Tables.{length_left, tight_nought, tests_tight, went_size, went_none, some_count, some_same, visit_none}
use Rattle.sweeps.proofs.Hints.{swept_alike}
use Rattle.sweeps.proofs.Going.{Drawn, few_degrees, nought_neither, is_left, left_is, edge_there, edge_telling, lowered_long, lowered_mark, lowered_left, lowered_nodes, lowered_loose, tests_telling}

-- ---- moves one after the other

pub moves_none : (g : Graph) (room : List ℕ) → Moves g room room 0
moves_none g room = record { fewer = omega arith; goes = λ kept picked free s. subst (State kept g room picked) (sym (add-zero free)) s }

pub moves_then : {g : Graph} {old room new : List ℕ} {k m : ℕ} → Moves g old room k → Moves g room new m → Moves g old new (k + m)
moves_then {g} {old} {room} {new} {k} {m} a b = record {
  fewer = omega (arith, a.fewer, b.fewer);
  goes = λ kept picked free s.
      let sum : free + k + m ≡ free + (k + m) = omega arith in
      subst (State kept g new picked) sum (b.goes kept picked (free + k) (a.goes kept picked free s));
}

-- no more remain than there are
pub size_few : (n : ℕ) (room : List ℕ) → n ≤ length room → size (left n room) ≤ n
unfolding size
size_few n room long = omega (arith, how_many_length (λ (b : Bool). b) (left n room), length_left n room long)

module _ (g : Graph) (d : Drawn g) where
  abbrev nodes : ℕ
  nodes = length g.labels

  abbrev n : ℕ
  n = vertex_count g

  -- ---- one edge

  module _ (room : List ℕ) (long : room_cycle_breaking_nodes_scanning ≤ length room) (i : ℕ) (less : i < length g.edges) where
    abbrev sources : List ℕ
    sources = (get_or g.edges i no_edge).sources

    abbrev targets : List ℕ
    targets = (get_or g.edges i no_edge).targets

    abbrev v : ℕ
    v = nodes + i

    abbrev new : List ℕ
    new = visited sources targets v room

    abbrev k : ℕ
    k = visited_of sources targets v room

    abbrev after : List ℕ
    after = lowered sources targets v room

    low_all : Below nodes (sources ++ targets)
    low_all = below_append nodes sources targets (d.known i less).0 (d.known i less).1

    -- it stays
    stays_new : must_go sources targets v room ≡ false → (new ≡ room) × (k ≡ 0)
    stays_new e = visit_none sources targets v room e

    -- it goes
    goes_new : must_go sources targets v room ≡ true → (new ≡ tested_all (sources ++ targets) after) × (k ≡ suc (went_of (sources ++ targets) after))
    unfolding visited visited_of
    goes_new e = (
      ap (λ (b : Bool). cond b (tested_all (sources ++ targets) after) room) e,
      ap (λ (b : Bool). cond b (suc (went_of (sources ++ targets) after)) 0) e,
    )

    long_after : must_go sources targets v room ≡ true → room_cycle_breaking_nodes_scanning ≤ length after
    long_after e = omega (arith, lowered_long g d room long i less e (d.known i less).0 (d.known i less).1)

    edge_moves : must_go sources targets v room ≡ true → Moves g room (tested_all (sources ++ targets) after) (suc (went_of (sources ++ targets) after))
    edge_moves e =
        let low_s = (d.known i less).0 in
        let low_t = (d.known i less).1 in
        let there = is_left g d room long v (omega arith) (edge_there g d room long i less e low_s low_t) in
        record {
          fewer = omega (
            arith,
            went_size n (sources ++ targets) after (below_widen (sources ++ targets) (omega arith) low_all) (omega (arith, d.few, long_after e)),
            ap size (lowered_left g d room long i less e low_s low_t),
            size_without v (left n room) there,
          );
          goes = λ kept picked free s.
              let sum : suc free + went_of (sources ++ targets) after ≡ free + suc (went_of (sources ++ targets) after) = omega arith in
              record {
                telling = subst (Telling kept g (tested_all (sources ++ targets) after) picked) sum
                    (tests_telling g d kept picked (sources ++ targets) after (long_after e) low_all (suc free) (edge_telling g d room long i less e low_s low_t kept picked free s.telling));
                tight = tests_tight nodes d.few_nodes (sources ++ targets) after (long_after e) low_all (λ u l f. lowered_loose g d room long i less e low_s low_t s.telling.right u l (s.tight u l) f);
              };
        }

    pub visit_moves : Moves g room new k
    visit_moves = go (must_go sources targets v room) refl
      where
        go : (b : Bool) → must_go sources targets v room ≡ b → Moves g room new k
        go false e = let w = stays_new e in subst (λ (r : List ℕ). Moves g room r k) (sym w.0) (subst (Moves g room room) (sym w.1) (moves_none g room))
        go true e = let w = goes_new e in subst (λ (r : List ℕ). Moves g room r k) (sym w.0) (subst (Moves g room (tested_all (sources ++ targets) after)) (sym w.1) (edge_moves e))

    -- what goes with it are nodes
    pub visit_nodes : k + size (left nodes new) ≡ bump (ltb 0 k) 0 + size (left nodes room)
    visit_nodes = go (must_go sources targets v room) refl
      where
        go : (b : Bool) → must_go sources targets v room ≡ b → k + size (left nodes new) ≡ bump (ltb 0 k) 0 + size (left nodes room)
        go false e =
            let w = stays_new e in
            omega (arith, w.1, ap (λ (r : List ℕ). size (left nodes r)) w.0, ap (λ (b : Bool). bump b 0) (le-ltb 0 k (omega (arith, w.1))))
        go true e =
            let w = goes_new e in
            omega (
              arith,
              w.1,
              ap (λ (r : List ℕ). size (left nodes r)) w.0,
              ap (λ (b : Bool). bump b 0) (lt-ltb 0 k (omega (arith, w.1))),
              went_size nodes (sources ++ targets) after low_all (omega (arith, long_after e, d.few_nodes)),
              ap size (lowered_nodes g d room long i less e (d.known i less).0 (d.known i less).1),
            )

    -- where no node goes with it, the nodes are as before, and it is settled
    still_new : k ≤ 1 → must_go sources targets v room ≡ true → new ≡ after
    still_new few e = let w = goes_new e in w.0 ∙ went_none (sources ++ targets) after (omega (arith, w.1))

    pub visit_same : k ≤ 1 → (u : ℕ) → u < nodes → get_or new u 0 ≡ get_or room u 0
    visit_same few u l = go (must_go sources targets v room) refl
      where
        go : (b : Bool) → must_go sources targets v room ≡ b → get_or new u 0 ≡ get_or room u 0
        go false e = ap (λ (r : List ℕ). get_or r u 0) (stays_new e).0
        go true e = ap (λ (r : List ℕ). get_or r u 0) (still_new few e) ∙ lowered_mark g d room long i less e (d.known i less).0 (d.known i less).1 u l

    pub visit_less : k ≤ 1 → (u : ℕ) → T (has (left n new) u) → T (has (left n room) u)
    visit_less few u = go (must_go sources targets v room) refl
      where
        go : (b : Bool) → must_go sources targets v room ≡ b → T (has (left n new) u) → T (has (left n room) u)
        go false e t = subst (λ (r : List ℕ). T (has (left n r) u)) (stays_new e).0 t
        go true e t =
            without_subset v (left n room) u
            (subst (λ (S : Set). T (has S u)) (ap (left n) (still_new few e) ∙ lowered_left g d room long i less e (d.known i less).0 (d.known i less).1) t)

    pub visit_settled : k ≤ 1 → Settled g new i
    visit_settled few = go (must_go sources targets v room) refl
      where
        both : (a b c : Bool) → a ≡ true → (a && not (b && c)) ≡ false → (b ≡ true) × (c ≡ true)
        both true true true p h = (refl, refl)
        both true true false p h = absurd (false≢true (sym h))
        both true false c p h = absurd (false≢true (sym h))
        both false b c p h = absurd (false≢true p)

        here : must_go sources targets v room ≡ false → T (has (left n room) v) → (some_left room sources ≡ true) × (some_left room targets ≡ true)
        here e t = both (remains (get_or room v 0)) (some_left room sources) (some_left room targets) (left_is g d room long v (omega arith) t) e

        go : (b : Bool) → must_go sources targets v room ≡ b → Settled g new i
        go false e = subst (λ (r : List ℕ). Settled g r i) (sym (stays_new e).0) (record { source = λ t. (here e t).0; target = λ t. (here e t).1 })
        go true e = record { source = λ t. absurd (away t); target = λ t. absurd (away t) }
          where
            away : T (has (left n new) v) → ⊥
            away t = gone v (left n room) (subst (λ (S : Set). T (has S v)) (ap (left n) (still_new few e) ∙ lowered_left g d room long i less e (d.known i less).0 (d.known i less).1) t)

  -- ---- edge by edge

  module _ (old room : List ℕ) (long : room_cycle_breaking_nodes_scanning ≤ length room) (i all edges : ℕ) (less : i < length g.edges) (s : Swept g old room i all edges) where
    m : ℕ
    m = visited_of (get_or g.edges i no_edge).sources (get_or g.edges i no_edge).targets (nodes + i) room

    abbrev next : List ℕ
    next = visited (get_or g.edges i no_edge).sources (get_or g.edges i no_edge).targets (nodes + i) room

    -- no node goes: what is settled stays so
    stay_settled : m ≤ 1 → (j : ℕ) → j < length g.edges → Settled g room j → Settled g next j
    unfolding m
    stay_settled few j l a = record {
      source = λ t. some_same nodes room next (get_or g.edges j no_edge).sources (d.known j l).0 (visit_same room long i less few) ∙ a.source (visit_less room long i less few (nodes + j) t);
      target = λ t. some_same nodes room next (get_or g.edges j no_edge).targets (d.known j l).1 (visit_same room long i less few) ∙ a.target (visit_less room long i less few (nodes + j) t);
    }

    -- the sums agree only if at most the edge goes
    alone : edges ≤ all → all + m ≡ edges + bump (ltb 0 m) 0 → (m ≤ 1) × (all ≡ edges)
    alone few e = go (eq-zero-or-pos m)
      where
        go : (m ≡ 0) ⊎ (0 < m) → (m ≤ 1) × (all ≡ edges)
        go (inl z) = let q = ap (λ (b : Bool). bump b 0) (le-ltb 0 m (omega arith)) in (omega arith, omega (arith, q, e))
        go (inr p) = let q = ap (λ (b : Bool). bump b 0) (lt-ltb 0 m p) in (omega (arith, q, e), omega (arith, q, e))

    pub swept_turn : Swept g old next (i + 1) (all + visited_of (get_or g.edges i no_edge).sources (get_or g.edges i no_edge).targets (nodes + i) room)
        (edges + bump (ltb 0 (visited_of (get_or g.edges i no_edge).sources (get_or g.edges i no_edge).targets (nodes + i) room)) 0)
    unfolding m
    swept_turn = record {
      moves = moves_then s.moves (visit_moves room long i less);
      few = more (eq-zero-or-pos m);
      still = λ e j l. let w = alone s.few e in go w j l (dec_lt j i);
      nodes = omega (arith, s.nodes, visit_nodes room long i less);
    }
      where
        more : (m ≡ 0) ⊎ (0 < m) → edges + bump (ltb 0 m) 0 ≤ all + m
        more (inl z) = omega (arith, s.few, ap (λ (b : Bool). bump b 0) (le-ltb 0 m (omega arith)))
        more (inr p) = omega (arith, s.few, ap (λ (b : Bool). bump b 0) (lt-ltb 0 m p))

        go : (m ≤ 1) × (all ≡ edges) → (j : ℕ) → j < i + 1 → Dec (j < i) → Settled g next j
        go w j l (yes h) = stay_settled w.0 j (omega arith) (s.still w.1 j h)
        go w j l (no h) = let e : i ≡ j = omega arith in subst (Settled g next) e (visit_settled room long i less w.0)

    -- the same of a room with these tables, and of counts that are known to be these
    pub swept_next : (new : List ℕ) (k more sum : ℕ) → room_cycle_breaking_nodes_scanning ≤ length new → Alike next new → k ≡ visited_of (get_or g.edges i no_edge).sources (get_or g.edges i no_edge).targets (nodes + i) room
        → more ≡ all + k → sum ≡ edges + bump (ltb 0 k) 0 → Swept g old new (i + 1) more sum
    swept_next new k more sum long_new is e p q =
        swept_alike g d long_new is (omega arith)
        (subst (λ (x : ℕ). Swept g old next (i + 1) x sum) (sym (p ∙ ap (λ (x : ℕ). all + x) e))
        (subst (Swept g old next (i + 1) (all + visited_of (get_or g.edges i no_edge).sources (get_or g.edges i no_edge).targets (nodes + i) room)) (sym (q ∙ ap (λ (x : ℕ). edges + bump (ltb 0 x) 0) e)) swept_turn))

  -- ---- nothing is loose

  pub settled_stable : (room : List ℕ) → room_cycle_breaking_nodes_scanning ≤ length room → ((i : ℕ) → i < length g.edges → Settled g room i)
      → (kept picked : List ℕ) (free : ℕ) → State kept g room picked free → Stable (arcs g) (left n room)
  settled_stable room long settled kept picked free s u t =
      go (omega (arith, has_lt (left n room) u t, length_left n room (omega (arith, d.few)))) (dec_lt u nodes)
    where
      edge : (i : ℕ) → i < length g.edges → u ≡ nodes + i → (0 < into (arcs g) (left n room) u) × (0 < out (arcs g) (left n room) u)
      edge i l e =
          let at : T (has (left n room) (nodes + i)) = subst (λ (x : ℕ). T (has (left n room) x)) e t in
          let a = (some_count n room (get_or g.edges i no_edge).sources nodes (d.known i l).0 (omega arith) (omega (arith, d.few))).1 ((settled i l).source at) in
          let b = (some_count n room (get_or g.edges i no_edge).targets nodes (d.known i l).1 (omega arith) (omega (arith, d.few))).1 ((settled i l).target at) in
          subst (λ (x : ℕ). (0 < into (arcs g) (left n room) x) × (0 < out (arcs g) (left n room) x)) (sym e)
          (omega (arith, a, edge_into g d.proper i l (left n room)), omega (arith, b, edge_out g d.proper i l (left n room)))

      go : u < n → Dec (u < nodes) → (0 < into (arcs g) (left n room) u) × (0 < out (arcs g) (left n room) u)
      go l (yes h) =
          let w = nought_neither (degrees room u) (into (arcs g) (left n room) u) (out (arcs g) (left n room) u) (s.telling.right u h) (few_degrees g d (left n room) u)
          (tight_nought room u (left_is g d room long u l t) (s.tight u h)) in
          (w.0, w.1)
      go l (no h) = edge (u - nodes) (omega arith) (omega arith)

-- ---- how many sweeps there are

-- each sweep in which a node goes leaves a node less, so there are no more than nodes
pub sweeps_few : {g : Graph} {old new : List ℕ} {m : ℕ} → Sweeps g old new m → m + size (left (length g.labels) new) ≤ size (left (length g.labels) old)
sweeps_few start = omega arith
sweeps_few {g} {old} {new} (another _ gone edges r s f) =
    let less = ⊎_elim (λ e. absurd (f (sym e))) (λ l. l) (eq-or-lt_of_le s.few) in
    omega (arith, sweeps_few r, s.nodes, less)

-- with the last, one more: what a stage costs beyond the nodes that it takes away
pub rests_few : {g : Graph} {old new : List ℕ} {k : ℕ} (r : Rests g old new k) → r.sweeps + size (left (length g.labels) new) ≤ size (left (length g.labels) old)
rests_few r = omega (arith, sweeps_few r.run, r.last.1.nodes)
