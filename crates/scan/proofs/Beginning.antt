-- The tables at the start: all vertices remain, the listed nodes are kept, and the words count the entries of all edges.
-- Assumes nothing.
use mathlib.Core.Path.{◌≡◌, refl, sym, ap, ◌∙◌, subst}
use mathlib.Core.Bool.{Bool, true, false, ◌||◌, cond}
use mathlib.Core.List.Memᴰ
use mathlib.Core.List.{List, [], ◌∷◌, ◌++◌, append-nil}
use mathlib.Core.Logic.{inr}
use Prim.Native.Nat.{ℕ, zero, suc, ◌+◌, ◌*◌, ◌%◌, ◌^◌, ◌≤◌, ◌<◌}
use native.Mathlib.Decide.{dec_lt}
use native.Mathlib.Nat.{mod-add-mod, zero-add, not-suc-le-zero}
use native.Mathlib.Omega.{arith}
use lib.Dec.{eqb}
use lib.ListN.{length, get_or, set, take, replicate, length-set, length-replicate, get_or-replicate}
use lib.Seq.{sets, length-sets, get_or-set_same, get_or-set_other, take_all, ext_get_or}
use borrow.Author.Tests.{eqb-true, eqb-false}
use Rattle.le.specs.Le.{Below}
use Rattle.le.proofs.Frames.{outside_sets}
use Rattle.le.proofs.Numbers.{below_widen, below_append}
use Rattle.le.proofs.Tables.{get_d_sets}
use Rattle.graph.specs.Form.{no_edge}
use Rattle.graph.specs.Graph.{Edge, Graph, edge_sources, edge_targets}
use Rattle.graph.specs.Lists.{among, joined}
use Rattle.graph.proofs.Laws.{joined_append}
use Rattle.graph.proofs.Rows.{take_edges}
use Rattle.choice.specs.Arcs.{In, how_many, Set, vertices, size}
use Rattle.choice.specs.Calls.{room_cycle_breaking_nodes_scanning}
use Rattle.choice.proofs.Sets.{size_vertices}
use Rattle.choice.specs.Degrees.{Sofar}
use Rattle.choice.specs.Drawing.{arcs, vertex_count}
use Rattle.choice.specs.Keeping.{unkept}
use Rattle.choice.proofs.Sofar.{sofar_start}
use Rattle.choice.proofs.Sweeps.{how_many_append, degrees_start}
use Rattle.choice.specs.Arcs as choice
use Rattle.marks.specs.Tables.{most_nodes, most_vertices, degrees_at, remains, left, kept_in, degrees, shifted_all, tested_all, went_of, up_to}
use Rattle.sweeps.specs.Sweeps.{Telling, State, Rests}
use Rattle.scan.specs.Stages.{Counted, Prepared, Begun}
use Rattle.marks.proofs.Tables.{has_left, length_left, mark_same, word_is, degrees_set, shifts_long, shifts_marks, shifts_degrees, tests_tight, went_size}
use Rattle.sweeps.proofs.Going.{Drawn, tests_telling}

-- ---- words that are not written to, and those that are 0

-- stores among the marks
pub degrees_front : (room : List ℕ) → room_cycle_breaking_nodes_scanning ≤ length room → (l : List ℕ) → length l ≤ most_vertices → (u : ℕ) → u < most_nodes → degrees (sets room 0 l) u ≡ degrees room u
degrees_front room long l few u less =
    let o = outside_sets 0 most_vertices room 0 l (omega arith) (omega arith) in
    let i = 4 * (degrees_at + u) in
    word_is (sets room 0 l) (omega (arith, o.long)) u less
    ∙ (λ j. o.same i (inr (omega arith)) j + 256 * (o.same (i + 1) (inr (omega arith)) j + 256 * (o.same (i + 2) (inr (omega arith)) j + 256 * o.same (i + 3) (inr (omega arith)) j)))
    ∙ sym (word_is room long u less)

-- all bytes cleared: over any number of them, so that no list of so many zeros is written out
degrees_clear : (room : List ℕ) (n : ℕ) → n ≤ length room → room_cycle_breaking_nodes_scanning ≤ n → (u : ℕ) → u < most_nodes → degrees (sets room 0 (replicate n 0)) u ≡ 0
degrees_clear room n long enough u less = word_is (sets room 0 (replicate n 0)) (omega (arith, length-sets room 0 (replicate {A = ℕ} n 0))) u less
    ∙ (λ j. none (4 * (degrees_at + u)) (omega arith) j + 256 * (none (4 * (degrees_at + u) + 1) (omega arith) j + 256 * (none (4 * (degrees_at + u) + 2) (omega arith) j + 256 * none (4 * (degrees_at + u) + 3) (omega arith) j)))
  where
    none : (i : ℕ) → i < n → get_or (sets room 0 (replicate n 0)) i 0 ≡ 0
    none i h =
        ap (λ (k : ℕ). get_or (sets room 0 (replicate n 0)) k 0) (sym (zero-add i))
        ∙ get_d_sets room 0 (replicate n 0) i (omega (arith, length-replicate {A = ℕ} n 0)) (omega (arith, length-replicate {A = ℕ} n 0)) ∙ get_or-replicate n i 0 0 h

-- ---- kept nodes

pub kept_long : (room vs : List ℕ) → length (kept_in room vs) ≡ length room
kept_long room [] = refl
kept_long room (v ∷ vs) = kept_long (set room v 3) vs ∙ length-set room v 3

kept_degrees : (room : List ℕ) → room_cycle_breaking_nodes_scanning ≤ length room → (vs : List ℕ) → Below most_nodes vs → (u : ℕ) → u < most_nodes → degrees (kept_in room vs) u ≡ degrees room u
kept_degrees room long [] low u l = refl
kept_degrees room long (v ∷ vs) low u l = kept_degrees (set room v 3) (omega (arith, length-set room v 3)) vs low.1 u l ∙ degrees_set room long v 3 u (omega (arith, low.0)) l

-- the mark of a listed node is 3
kept_mark : (room vs : List ℕ) (v : ℕ) → v < length room → get_or (kept_in room vs) v 0 ≡ cond (among vs v) 3 (get_or room v 0)
kept_mark room [] v l = refl
kept_mark room (u ∷ vs) v l = kept_mark (set room u 3) vs v (omega (arith, length-set room u 3)) ∙ go (eqb v u) refl (among vs v)
  where
    go : (b : Bool) → eqb v u ≡ b → (c : Bool) → cond c 3 (get_or (set room u 3) v 0) ≡ cond (b || c) 3 (get_or room v 0)
    go true e true = refl
    go true e false = let q = eqb-true v u e in ap (λ (k : ℕ). get_or (set room u 3) k 0) q ∙ get_or-set_same room u 3 0 (omega (arith, q))
    go false e true = refl
    go false e false = get_or-set_other room u v 3 0 (eqb-false v u e)

-- ---- entries counted

-- one edge more
more_word : (w a s t : ℕ) → w ≡ a % 2 ^ 32 → ((w + 65536 * s) % 2 ^ 32 + 1 * t) % 2 ^ 32 ≡ (a + 65536 * s + 1 * t) % 2 ^ 32
more_word w a s t e =
    mod-add-mod (w + 65536 * s) (2 ^ 32) (1 * t) ∙ ap (λ (k : ℕ). (k + 65536 * s + 1 * t) % 2 ^ 32) e
    ∙ (let p : a % 2 ^ 32 + 65536 * s + 1 * t ≡ a % 2 ^ 32 + (65536 * s + 1 * t) = omega arith in ap (λ (k : ℕ). k % 2 ^ 32) p)
    ∙ mod-add-mod a (2 ^ 32) (65536 * s + 1 * t)
    ∙ (let q : a + (65536 * s + 1 * t) ≡ a + 65536 * s + 1 * t = omega arith in ap (λ (k : ℕ). k % 2 ^ 32) q)

one_more : (part : Edge → List ℕ) (es : List Edge) (i : ℕ) → i < length es → (u : ℕ)
    → how_many (λ x. eqb x u) (joined part (take (i + 1) es)) ≡ how_many (λ x. eqb x u) (joined part (take i es)) + how_many (λ x. eqb x u) (part (get_or es i no_edge))
one_more part es i l u =
    let d = get_or es i no_edge in
    ap (how_many (λ x. eqb x u)) (ap (joined part) (take_edges es i l) ∙ joined_append part (take i es) (d ∷ []) ∙ ap (λ (r : List ℕ). joined part (take i es) ++ r) (append-nil (part d)))
    ∙ how_many_append (λ x. eqb x u) (joined part (take i es)) (part d)

module _ (g : Graph) (d : Drawn g) where
  abbrev nodes : ℕ
  nodes = length g.labels

  abbrev n : ℕ
  n = vertex_count g

  pub counted_turn : (old room new : List ℕ) (i : ℕ) → i < length g.edges → room_cycle_breaking_nodes_scanning ≤ length old → Counted g old room i
      → new ≡ shifted_all 1 (get_or g.edges i no_edge).targets (shifted_all 65536 (get_or g.edges i no_edge).sources room) → Counted g old new (i + 1)
  counted_turn old room new i less long c is =
      let s = (get_or g.edges i no_edge).sources in
      let t = (get_or g.edges i no_edge).targets in
      let mid = shifted_all 65536 s room in
      subst (λ (r : List ℕ). Counted g old r (i + 1)) (sym is) (record {
        long = shifts_long 1 t mid ∙ shifts_long 65536 s room ∙ c.long;
        marks = shifts_marks 1 t mid ∙ shifts_marks 65536 s room ∙ c.marks;
        words = λ u l.
            let S = how_many (λ x. eqb x u) (edge_sources (take i g.edges)) in
            let T = how_many (λ x. eqb x u) (edge_targets (take i g.edges)) in
            let hs = how_many (λ x. eqb x u) s in
            let ht = how_many (λ x. eqb x u) t in
            let w = c.words u l in
            let one = shifts_degrees 65536 u s room (omega (arith, long, c.long)) (below_widen s d.few_nodes (d.known i less).0) (omega (arith, w)) in
            let two = shifts_degrees 1 u t mid (omega (arith, long, c.long, shifts_long 65536 s room)) (below_widen t d.few_nodes (d.known i less).1) (omega (arith, one)) in
            let sum : T + 65536 * S + 65536 * hs + 1 * ht ≡ T + ht + 65536 * (S + hs) = omega arith in
            two ∙ ap (λ (k : ℕ). (k + 1 * ht) % 2 ^ 32) one ∙ more_word (degrees room u) (T + 65536 * S) hs ht w ∙ ap (λ (k : ℕ). k % 2 ^ 32) sum
            ∙ sym (λ j. (one_more (λ (e : Edge). e.targets) g.edges i less u j + 65536 * one_more (λ (e : Edge). e.sources) g.edges i less u j) % 2 ^ 32);
      })

  -- ---- the whole

  module _ (cleared : ℕ) (enough : room_cycle_breaking_nodes_scanning ≤ cleared) (room : List ℕ) (long : cleared ≤ length room) (ids : List ℕ) (low : Below nodes ids) where
    abbrev marked : List ℕ
    marked = sets (sets room 0 (replicate cleared 0)) 0 (replicate n 1)

    long_clear : room_cycle_breaking_nodes_scanning ≤ length (sets room 0 (replicate cleared 0))
    long_clear = omega (arith, length-sets room 0 (replicate {A = ℕ} cleared 0))

    long_marked : room_cycle_breaking_nodes_scanning ≤ length marked
    long_marked = omega (arith, long_clear, length-sets (sets room 0 (replicate cleared 0)) 0 (replicate {A = ℕ} n 1))

    long_kept : room_cycle_breaking_nodes_scanning ≤ length (kept_in marked ids)
    long_kept = omega (arith, long_marked, kept_long marked ids)

    -- no entry is counted yet
    pub counted_start : Counted g (kept_in marked ids) (kept_in marked ids) 0
    unfolding how_many
    counted_start = record {
      long = refl;
      marks = refl;
      words = λ u l.
          kept_degrees marked long_marked ids (below_widen ids d.few_nodes low) u (omega (arith, d.few_nodes))
          ∙ degrees_front (sets room 0 (replicate cleared 0)) long_clear (replicate n 1) (omega (arith, length-replicate {A = ℕ} n 1, d.few)) u (omega (arith, d.few_nodes))
          ∙ degrees_clear room cleared long enough u (omega (arith, d.few_nodes));
    }

    mark_is : (v : ℕ) → v < n → get_or (kept_in marked ids) v 0 ≡ cond (among ids v) 3 1
    mark_is v l =
        kept_mark marked ids v (omega (arith, long_marked, d.few))
        ∙ ap (cond (among ids v) 3) (ap (λ (k : ℕ). get_or marked k 0) (sym (zero-add v))
        ∙ get_d_sets (sets room 0 (replicate cleared 0)) 0 (replicate n 1) v (omega (arith, length-replicate {A = ℕ} n 1)) (omega (arith, length-replicate {A = ℕ} n 1, d.few, long_clear)) ∙ get_or-replicate n v 1 0 l)

    odd : (b : Bool) → remains (cond b 3 1) ≡ true
    odd true = refl
    odd false = refl

    not_two : (b : Bool) → ◌≡◌ {A = ℕ} (cond b 3 1) 2 → ⊥
    not_two true e = omega arith
    not_two false e = omega arith

    module _ (new : List ℕ) (c : Counted g (kept_in marked ids) new (length g.edges)) where
      long_new : room_cycle_breaking_nodes_scanning ≤ length new
      long_new = omega (arith, long_kept, c.long)

      new_mark : (v : ℕ) → v < n → get_or new v 0 ≡ cond (among ids v) 3 1
      new_mark v l = mark_same (kept_in marked ids) new v (omega (arith, d.few)) c.marks ∙ mark_is v l

      all_left : left n new ≡ vertices n
      all_left =
          ext_get_or false (left n new) (vertices n) (length_left n new (omega (arith, long_new, d.few)) ∙ sym (length-replicate n true)) (λ i l.
          let h : i < n = omega (arith, l, length_left n new (omega (arith, long_new, d.few))) in
          has_left n new i h (omega (arith, long_new, d.few)) ∙ ap remains (new_mark i h) ∙ odd (among ids i) ∙ sym (get_or-replicate n i true false h))

      telling_start : Telling ids g new [] 0
      telling_start = record {
        told = subst (λ (S : Set). Sofar (arcs g) (unkept ids g) n S [] 0) (sym all_left) (sofar_start (arcs g) (unkept ids g) n);
        marks = λ v l t. new_mark v (omega arith);
        chosen = λ v l. ((λ e. absurd (not_two (among ids v) (sym (new_mark v (omega arith)) ∙ e))), (λ i. absurd (Memᴰ.not-nil i)));
        right = λ u l.
            let w = degrees_start g d.proper u l in
            c.words u l
            ∙ (λ j. (how_many (λ x. eqb x u) (edge_targets (take_all (length g.edges) g.edges (omega arith) j)) + 65536 * how_many (λ x. eqb x u) (edge_sources (take_all (length g.edges) g.edges (omega arith) j))) % 2 ^ 32)
            ∙ sym (λ j. (w.0 j + 65536 * w.1 j) % 2 ^ 32)
            ∙ sym (λ j. (choice.into (arcs g) (all_left j) u + 65536 * choice.out (arcs g) (all_left j) u) % 2 ^ 32);
      }

      pub prepared : Prepared ids g new
      prepared = record { telling = telling_start; all = all_left }

  -- ---- the first free removal

  up_in : (k u : ℕ) → u < k → In u (up_to k)
  up_in zero u l = absurd (not-suc-le-zero l)
  up_in (suc k) u l = go (up_in k u) (dec_lt u k)
    where
      go : (u < k → In u (up_to k)) → Dec (u < k) → In u (up_to k ++ (k ∷ []))
      go r (yes h) = Memᴰ.append_left (k ∷ []) (r h)
      go r (no h) = let e : u ≡ k = omega arith in Memᴰ.append_right (up_to k) (Memᴰ.head e)

  up_low : (m k : ℕ) → k ≤ m → Below m (up_to k)
  up_low m zero l = tt
  up_low m (suc k) l = below_append m (up_to k) (k ∷ []) (up_low m k (omega arith)) (omega arith, tt)

  module _ (kept room : List ℕ) (long : room_cycle_breaking_nodes_scanning ≤ length room) (p : Prepared kept g room) where
    state : State kept g (tested_all (up_to nodes) room) [] (went_of (up_to nodes) room)
    state = record {
      telling = subst (Telling kept g (tested_all (up_to nodes) room) []) (zero-add (went_of (up_to nodes) room)) (tests_telling g d kept [] (up_to nodes) room long (up_low nodes nodes (omega arith)) 0 p.telling);
      tight = tests_tight nodes d.few_nodes (up_to nodes) room long (up_low nodes nodes (omega arith)) (λ u l e. up_in nodes u l);
    }

    module _ (one : List ℕ) (k : ℕ) (is : one ≡ tested_all (up_to nodes) room) (many : k ≡ went_of (up_to nodes) room) (new : List ℕ) (m : ℕ) (w : Rests g one new m) where
      pub first_begun : Begun kept g new (k + m)
      first_begun =
          let s = w.moves.goes kept [] k (subst (λ (r : List ℕ). State kept g r [] k) (sym is) (subst (State kept g (tested_all (up_to nodes) room) []) (sym many) state)) in
          record { state = s; stable = w.stable kept [] (k + m) s }

      pub first_size : k + m + size (left n new) ≡ n
      first_size = omega (
        arith,
        w.moves.fewer,
        ap (λ (r : List ℕ). size (left n r)) is,
        went_size n (up_to nodes) room (up_low n nodes (omega arith)) (omega (arith, long, d.few)),
        ap size p.all ∙ size_vertices n,
        many,
      )
