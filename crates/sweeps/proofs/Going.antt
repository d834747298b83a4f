-- Vertices that go: the words tell which nodes are loose, and what was told so far holds on after a node, after an edge with its entries lowered, and after
-- the nodes of a list were tested.
-- Assumes nothing.
use mathlib.Core.Path.{◌≡◌, refl, sym, ap, ◌∙◌, subst}
use mathlib.Core.Bool.{Bool, true, false, ◌&&◌, ◌||◌, not, cond, false≢true}
use mathlib.Core.List.Memᴰ
use mathlib.Core.List.{List, [], ◌∷◌, ◌++◌}
use mathlib.Core.Logic.{◌⊎◌, inl, inr, ⊎_elim, ◌↔◌, ◌≢◌}
use Prim.Native.Nat.{ℕ, suc, ◌+◌, ◌*◌, ◌/◌, ◌%◌, ◌^◌, ◌≤◌, ◌<◌}
use native.Mathlib.Decide.{ℕ_discrete}
use native.Mathlib.Nat.{eq-zero-or-pos, add-zero, mod-add-div, add-mul-mod_self_left, mod-eq_of_lt}
use native.Mathlib.Omega.{arith}
use lib.Dec.{T, eqb, eqb→eq}
use lib.ListN.{length, get_or, set, take, length-set}
use lib.Seq.{get_or-set_same, get_or-set_other}
use borrow.Author.Tests.{eqb-true, eqb-false}
use Rattle.le.specs.Le.{Below}
use Rattle.le.proofs.Numbers.{below_widen}
use Rattle.graph.specs.Form.{no_edge}
use Rattle.graph.specs.Graph.{Graph, Proper, ports}
use Rattle.graph.specs.Lists.{among}
use Rattle.choice.specs.Arcs.{In, bump, how_many, Set, has, without, into, out, Loose}
use Rattle.choice.specs.Calls.{room_cycle_breaking_nodes_scanning}
use Rattle.choice.specs.Degrees.{Sofar}
use Rattle.choice.specs.Drawing.{arcs, vertex_count}
use Rattle.choice.specs.Keeping.{unkept}
use Rattle.choice.proofs.Degrees.{both_degrees, is_true}
use Rattle.choice.proofs.Fits.{fits_apart, proper_fits}
use Rattle.choice.proofs.Scores.{length_arcs}
use Rattle.choice.proofs.Sets.{gone, without_subset, how_many_some}
use Rattle.choice.proofs.Sofar.{sofar_loose}
use Rattle.choice.proofs.Sweeps.{edge_into, edge_out, edge_goes, node_goes}
use Rattle.marks.specs.Tables.{most_nodes, most_vertices, remains, left, some_left, degrees, nought, shifted_all, less_in, less_out, loose, tested, tested_all, went_of, lowered, must_go}
use Rattle.sweeps.specs.Sweeps.{Right, Telling}
use Rattle.marks.proofs.Tables.{has_left, left_set, left_beyond, left_same, mark_same, degrees_set, shifts_long, shifts_marks, shifts_degrees, loose_remains, loose_nought, tested_yes, tested_no, tested_long, some_count}

-- a graph that the tables have room for
pub record Drawn (g : Graph) : Type 0 where
  pub proper : Proper g
  pub few_nodes : length g.labels ≤ most_nodes
  pub few : vertex_count g ≤ most_vertices
  pub few_ports : ports g ≤ 65536
  pub known : (i : ℕ) → i < length g.edges → Below (length g.labels) (get_or g.edges i no_edge).sources × Below (length g.labels) (get_or g.edges i no_edge).targets

positive : {k : ℕ} → (k ≡ 0 → ⊥) → 0 < k
positive {k} f = ⊎_elim (λ e. absurd (f e)) (λ l. l) (eq-zero-or-pos k)

-- ---- a word: two numbers a and b that are together at most 65,536

module _ (w a b : ℕ) (is : w ≡ (a + 65536 * b) % 2 ^ 32) (few : a + b ≤ 65536) where
  -- one of those in the word is 0: so is one of the two, also where the other does not fit
  pub nought_either : nought w ≡ true → (a ≡ 0) ⊎ (b ≡ 0)
  nought_either e = go (eqb (w % 65536) 0) refl e
    where
      low : w % 65536 ≡ 0 → (a ≡ 0) ⊎ (0 < a) → (a ≡ 0) ⊎ (b ≡ 0)
      low z (inl q) = inl q
      low z (inr q) = inr (omega arith)

      high : w / 65536 ≡ 0 → (b ≡ 0) ⊎ (0 < b) → (a ≡ 0) ⊎ (b ≡ 0)
      high z (inl q) = inr q
      high z (inr q) = inl (omega arith)

      go : (t : Bool) → eqb (w % 65536) 0 ≡ t → (t || eqb (w / 65536) 0) ≡ true → (a ≡ 0) ⊎ (b ≡ 0)
      go true q h = low (eqb-true (w % 65536) 0 q) (eq-zero-or-pos a)
      go false q h = high (eqb-true (w / 65536) 0 h) (eq-zero-or-pos b)

  -- neither is: they are the two
  pub nought_neither : nought w ≡ false → (0 < a) × (0 < b) × (w % 65536 ≡ a) × (w / 65536 ≡ b)
  nought_neither e = go (eqb (w % 65536) 0) refl e
    where
      both : 0 < w % 65536 → 0 < w / 65536 → (0 < a) × (0 < b) × (w % 65536 ≡ a) × (w / 65536 ≡ b)
      both p q = (omega arith, omega arith, omega arith, omega arith)

      go : (t : Bool) → eqb (w % 65536) 0 ≡ t → (t || eqb (w / 65536) 0) ≡ false → (0 < a) × (0 < b) × (w % 65536 ≡ a) × (w / 65536 ≡ b)
      go true q h = absurd (false≢true (sym h))
      go false q h = both (positive (eqb-false (w % 65536) 0 q)) (positive (eqb-false (w / 65536) 0 h))

-- s arcs out and t arcs in less: what was added over takes 2^32 away so many times
less_word : (w a b s t : ℕ) → w ≡ (a + t + 65536 * (b + s)) % 2 ^ 32 → (w + less_out * s + less_in * t) % 2 ^ 32 ≡ (a + 65536 * b) % 2 ^ 32
less_word w a b s t e =
    let old = a + t + 65536 * (b + s) in
    let all : w + less_out * s + less_in * t + 2 ^ 32 * (old / 2 ^ 32) ≡ a + 65536 * b + 2 ^ 32 * (s + t) = omega (arith, e, mod-add-div old (2 ^ 32)) in
    sym (add-mul-mod_self_left (w + less_out * s + less_in * t) (2 ^ 32) (old / 2 ^ 32)) ∙ ap (λ (k : ℕ). k % 2 ^ 32) all ∙ add-mul-mod_self_left (a + 65536 * b) (2 ^ 32) (s + t)

-- a vertex that has gone does not remain
not_back : (v : ℕ) (S : Set) (u : ℕ) → T (has (without v S) u) → u ≢ v
not_back v S u t e = gone v S (subst (λ (k : ℕ). T (has (without v S) k)) e t)

odd_two : (m : ℕ) → remains m ≡ true → m ≡ 2 → ⊥
odd_two m e q = let o = eqb-true (m % 2) 1 e in omega arith

module _ (g : Graph) (d : Drawn g) where
  abbrev nodes : ℕ
  nodes = length g.labels

  abbrev n : ℕ
  n = vertex_count g

  -- both degrees of a vertex together are at most as many as the ports
  pub few_degrees : (S : Set) (u : ℕ) → into (arcs g) S u + out (arcs g) S u ≤ 65536
  few_degrees S u =
      let own = both_degrees (arcs g) S u (fits_apart nodes (length g.edges) (arcs g) (proper_fits g d.proper)) in
      let many : length (arcs g) ≡ ports g = unfold arcs in length_arcs nodes g.edges in
      omega (arith, own, many, d.few_ports)

  module _ (room : List ℕ) (long : room_cycle_breaking_nodes_scanning ≤ length room) where
    pub is_left : (v : ℕ) → v < n → remains (get_or room v 0) ≡ true → T (has (left n room) v)
    is_left v l e = subst T (sym (has_left n room v l (omega (arith, d.few)) ∙ e)) tt

    pub left_is : (v : ℕ) → v < n → T (has (left n room) v) → remains (get_or room v 0) ≡ true
    left_is v l t = is_true (remains (get_or room v 0)) (subst T (has_left n room v l (omega (arith, d.few))) t)

    -- the words say who is loose
    pub loose_right : Right g room → (v : ℕ) → v < nodes → loose room v ≡ true → Loose (arcs g) (left n room) v
    loose_right right v l e =
        nought_either (degrees room v) (into (arcs g) (left n room) v) (out (arcs g) (left n room) v) (right v l) (few_degrees (left n room) v) (loose_nought room v e)

    -- a node gets another mark, with which it does not remain
    module _ (v m : ℕ) (l : v < nodes) (there : remains (get_or room v 0) ≡ true) (even : remains m ≡ false) where
      pub set_left : left n (set room v m) ≡ without v (left n room)
      set_left = left_set n room v m even

      pub set_right : Right g room → Right g (set room v m)
      set_right right u k =
          degrees_set room long v m u (omega (arith, d.few_nodes)) (omega (arith, d.few_nodes)) ∙ right u k
          ∙ (let w = node_goes g d.proper (left n room) v l (is_left v (omega arith) there) u k in λ i. (w.0 i + 65536 * w.1 i) % 2 ^ 32)
          ∙ (λ i. (into (arcs g) (sym set_left i) u + 65536 * out (arcs g) (sym set_left i) u) % 2 ^ 32)

      pub set_marks : (kept : List ℕ) → ((u : ℕ) → u < nodes → T (has (left n room) u) → get_or room u 0 ≡ cond (among kept u) 3 1)
          → (u : ℕ) → u < nodes → T (has (left n (set room v m)) u) → get_or (set room v m) u 0 ≡ cond (among kept u) 3 1
      set_marks kept marks u k t =
          let s = subst (λ (S : Set). T (has S u)) set_left t in
          get_or-set_other room v u m 0 (not_back v (left n room) u s) ∙ marks u k (without_subset v (left n room) u s)

    -- a loose node goes
    pub node_telling : (kept picked : List ℕ) (free : ℕ) → Telling kept g room picked free → (v : ℕ) → v < nodes → loose room v ≡ true
        → Telling kept g (set room v 0) picked (suc free)
    node_telling kept picked free a v l e =
        let there = loose_remains room v e in
        record {
          told = subst (λ (S : Set). Sofar (arcs g) (unkept kept g) n S picked (suc free)) (sym (set_left v 0 l there refl))
              (sofar_loose (arcs g) (unkept kept g) n (left n room) picked free a.told v (is_left v (omega arith) there) (loose_right a.right v l e));
          marks = set_marks v 0 l there refl kept a.marks;
          chosen = λ u k. same there u k (ℕ_discrete u v);
          right = set_right v 0 l there refl a.right;
        }
      where
        same : remains (get_or room v 0) ≡ true → (u : ℕ) → u < nodes → Dec (u ≡ v) → (get_or (set room v 0) u 0 ≡ 2) ↔ In u picked
        same there u k (yes q) =
            let now : get_or (set room v 0) u 0 ≡ 0 = ap (λ (x : ℕ). get_or (set room v 0) x 0) q ∙ get_or-set_same room v 0 0 (omega (arith, d.few_nodes)) in (
              (λ z. absurd (omega (arith, now, z))),
              (λ i. absurd (odd_two (get_or room v 0) there (ap (λ (x : ℕ). get_or room x 0) (sym q) ∙ (a.chosen u k).1 i))),
            )
        same there u k (no q) =
            let now = get_or-set_other room v u 0 0 q in
            ((λ z. (a.chosen u k).0 (sym now ∙ z)), (λ i. now ∙ (a.chosen u k).1 i))

    -- ---- an edge that must go

    module _ (i : ℕ) (less : i < length g.edges) (must : must_go (get_or g.edges i no_edge).sources (get_or g.edges i no_edge).targets (nodes + i) room ≡ true)
        (low_sources : Below nodes (get_or g.edges i no_edge).sources) (low_targets : Below nodes (get_or g.edges i no_edge).targets) where
      abbrev sources : List ℕ
      sources = (get_or g.edges i no_edge).sources

      abbrev targets : List ℕ
      targets = (get_or g.edges i no_edge).targets

      abbrev v : ℕ
      v = nodes + i

      pub edge_there : remains (get_or room v 0) ≡ true
      edge_there = go (remains (get_or room v 0)) must
        where
          go : (b : Bool) → (b && not (some_left room sources && some_left room targets)) ≡ true → b ≡ true
          go true h = refl
          go false h = h

      edge_loose : Loose (arcs g) (left n room) v
      edge_loose = go (remains (get_or room v 0)) (some_left room sources) (some_left room targets) refl refl must
        where
          go : (a b c : Bool) → some_left room sources ≡ b → some_left room targets ≡ c → (a && not (b && c)) ≡ true → Loose (arcs g) (left n room) v
          go false b c p q h = absurd (false≢true h)
          go true false c p q h = inl (edge_into g d.proper i less (left n room) ∙ (some_count n room sources nodes low_sources (omega arith) (omega (arith, d.few))).0 p)
          go true true false p q h = inr (edge_out g d.proper i less (left n room) ∙ (some_count n room targets nodes low_targets (omega arith) (omega (arith, d.few))).0 q)
          go true true true p q h = absurd (false≢true h)

      there : T (has (left n room) v)
      there = is_left v (omega arith) edge_there

      abbrev new : List ℕ
      new = lowered sources targets v room

      first : List ℕ
      first = shifted_all less_out sources (set room v 0)

      pub lowered_long : length new ≡ length room
      unfolding lowered
      lowered_long = shifts_long less_in targets (shifted_all less_out sources (set room v 0)) ∙ shifts_long less_out sources (set room v 0) ∙ length-set room v 0

      lowered_marks : take most_vertices new ≡ take most_vertices (set room v 0)
      unfolding lowered
      lowered_marks = shifts_marks less_in targets (shifted_all less_out sources (set room v 0)) ∙ shifts_marks less_out sources (set room v 0)

      pub lowered_mark : (u : ℕ) → u < nodes → get_or new u 0 ≡ get_or room u 0
      lowered_mark u k = mark_same (set room v 0) new u (omega (arith, d.few_nodes)) lowered_marks ∙ get_or-set_other room v u 0 0 (λ q. omega arith)

      pub lowered_left : left n new ≡ without v (left n room)
      lowered_left = left_same n (set room v 0) new d.few lowered_marks ∙ left_set n room v 0 refl

      -- all nodes that remained do
      pub lowered_nodes : left nodes new ≡ left nodes room
      lowered_nodes = left_same nodes (set room v 0) new (omega (arith, d.few_nodes)) lowered_marks ∙ left_beyond nodes room v 0 (omega arith)

      -- each word, by how often the node stands among the entries
      pub lowered_degrees : (u : ℕ) → u < nodes → degrees room u < 2 ^ 32
          → degrees new u ≡ (degrees room u + less_out * how_many (λ x. eqb x u) sources + less_in * how_many (λ x. eqb x u) targets) % 2 ^ 32
      unfolding lowered
      lowered_degrees u k small =
          let same : degrees (set room v 0) u ≡ degrees room u = degrees_set room long v 0 u (omega (arith, d.few)) (omega (arith, d.few_nodes)) in
          let one = shifts_degrees less_out u sources (set room v 0) (omega (arith, length-set room v 0)) (below_widen sources d.few_nodes low_sources) (omega (arith, same)) in
          let two = shifts_degrees less_in u targets (shifted_all less_out sources (set room v 0)) (omega (arith, shifts_long less_out sources (set room v 0), length-set room v 0)) (below_widen targets d.few_nodes low_targets) (omega (arith, one)) in
          omega (arith, same, one, two)

      lowered_right : Right g room → Right g new
      lowered_right right u k =
          let w = edge_goes g d.proper i less (left n room) there u k in
          let is = right u k in
          let a = into (arcs g) (without v (left n room)) u in
          let b = out (arcs g) (without v (left n room)) u in
          lowered_degrees u k (omega (arith, is))
          ∙ less_word (degrees room u) a b (how_many (λ x. eqb x u) sources) (how_many (λ x. eqb x u) targets) (is ∙ (λ j. (w.0 j + 65536 * w.1 j) % 2 ^ 32))
          ∙ (λ j. (into (arcs g) (sym lowered_left j) u + 65536 * out (arcs g) (sym lowered_left j) u) % 2 ^ 32)

      pub edge_telling : (kept picked : List ℕ) (free : ℕ) → Telling kept g room picked free → Telling kept g new picked (suc free)
      edge_telling kept picked free a = record {
        told = subst (λ (S : Set). Sofar (arcs g) (unkept kept g) n S picked (suc free)) (sym lowered_left)
            (sofar_loose (arcs g) (unkept kept g) n (left n room) picked free a.told v there edge_loose);
        marks = λ u k t. lowered_mark u k ∙ a.marks u k (without_subset v (left n room) u (subst (λ (S : Set). T (has S u)) lowered_left t));
        chosen = λ u k. ((λ z. (a.chosen u k).0 (sym (lowered_mark u k) ∙ z)), (λ j. lowered_mark u k ∙ (a.chosen u k).1 j));
        right = lowered_right a.right;
      }

      -- who is loose then was so before, or stands among the entries
      pub lowered_loose : Right g room → (u : ℕ) → u < nodes → loose room u ≡ false → loose new u ≡ true → In u (sources ++ targets)
      unfolding loose
      lowered_loose right u k tight e = go (eq-zero-or-pos (how_many (λ x. eqb x u) sources)) (eq-zero-or-pos (how_many (λ x. eqb x u) targets))
        where
          found : (xs : List ℕ) → 0 < how_many (λ x. eqb x u) xs → In u xs
          found xs p = let w = how_many_some (λ x. eqb x u) xs p in subst (λ (x : ℕ). In x xs) (eqb→eq w.0 u w.2) w.1

          same : how_many (λ x. eqb x u) sources ≡ 0 → how_many (λ x. eqb x u) targets ≡ 0 → loose new u ≡ loose room u
          same p q =
              let small : degrees room u < 2 ^ 32 = omega (arith, right u k) in
              let none : degrees room u + less_out * 0 + less_in * 0 ≡ degrees room u = omega arith in
              let word : degrees new u ≡ degrees room u =
              lowered_degrees u k small ∙ (λ j. (degrees room u + less_out * p j + less_in * q j) % 2 ^ 32) ∙ ap (λ (w : ℕ). w % 2 ^ 32) none ∙ mod-eq_of_lt small in
              λ j. remains (lowered_mark u k j) && nought (word j)

          go : (how_many (λ x. eqb x u) sources ≡ 0) ⊎ (0 < how_many (λ x. eqb x u) sources) → (how_many (λ x. eqb x u) targets ≡ 0) ⊎ (0 < how_many (λ x. eqb x u) targets) → In u (sources ++ targets)
          go (inr p) q = Memᴰ.append_left targets (found sources p)
          go (inl p) (inr q) = Memᴰ.append_right sources (found targets q)
          go (inl p) (inl q) = absurd (false≢true (sym tight ∙ sym (same p q) ∙ e))

  -- ---- the nodes of a list

  pub tests_telling : (kept picked : List ℕ) (xs room : List ℕ) → room_cycle_breaking_nodes_scanning ≤ length room → Below nodes xs → (free : ℕ) → Telling kept g room picked free
      → Telling kept g (tested_all xs room) picked (free + went_of xs room)
  tests_telling kept picked [] room long low free a = subst (Telling kept g room picked) (sym (add-zero free)) a
  tests_telling kept picked (x ∷ xs) room long low free a =
      go (loose room x) refl (tests_telling kept picked xs (tested x room) (omega (arith, tested_long x room)) low.1)
    where
      go : (b : Bool) → loose room x ≡ b → ((free : ℕ) → Telling kept g (tested x room) picked free → Telling kept g (tested_all xs (tested x room)) picked (free + went_of xs (tested x room)))
          → Telling kept g (tested_all xs (tested x room)) picked (free + (bump (loose room x) 0 + went_of xs (tested x room)))
      go true e rest =
          let sum : suc free + went_of xs (tested x room) ≡ free + (bump (loose room x) 0 + went_of xs (tested x room)) = omega (arith, ap (λ (b : Bool). bump b 0) e) in
          subst (Telling kept g (tested_all xs (tested x room)) picked) sum
          (rest (suc free) (subst (λ (r : List ℕ). Telling kept g r picked (suc free)) (sym (tested_yes x room e)) (node_telling room long kept picked free a x low.0 e)))
      go false e rest =
          let sum : free + went_of xs (tested x room) ≡ free + (bump (loose room x) 0 + went_of xs (tested x room)) = omega (arith, ap (λ (b : Bool). bump b 0) e) in
          subst (Telling kept g (tested_all xs (tested x room)) picked) sum
          (rest free (subst (λ (r : List ℕ). Telling kept g r picked free) (sym (tested_no x room e)) a))
