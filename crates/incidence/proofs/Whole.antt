-- What is built: counted, laid out and filled, the tables have the degrees and the lists of the drawing's arcs, as the model of half vertices asks for them.
-- Assumes nothing.
use mathlib.Core.Path.{◌≡◌, refl, sym, ap, ◌∙◌, subst}
use mathlib.Core.Bool.{Bool, true, false, cond}
use mathlib.Core.List.Memᴰ
use mathlib.Core.List.{List, [], ◌∷◌, map}
use mathlib.Core.Logic.{inl, inr, ⊎_elim}
use Prim.Native.Nat.{ℕ, ◌+◌, ◌*◌, ◌/◌, ◌%◌, ◌≤◌, ◌<◌}
use native.Mathlib.Decide.{ℕ_discrete, dec_lt}
use native.Mathlib.Omega.{arith}
use lib.Dec.{eqb}
use lib.ListN.{length, get_or, length-map}
use lib.Seq.{take-length}
use borrow.Author.Tests.{eq-eqb, ne_eqb}
use Rattle.le.specs.Rows.{Holds}
use Rattle.graph.specs.Graph.{Graph}
use Rattle.choice.specs.Arcs.{Arc, In, vertices, into, out}
use Rattle.choice.specs.Degrees.{between, ends_at, outgoing, incoming}
use Rattle.choice.specs.Drawing.{arcs_from, arcs, vertex_count}
use Rattle.choice.specs.Promises.{Bounded}
use Rattle.choice.proofs.Degrees.{ends_all, how_many_outgoing, how_many_incoming}
use Rattle.form.specs.declared.Sizes.{Sizes}
use Rattle.halves.specs.Halves.{mate, within, joins, times, sum_to, Listed}
use Rattle.halves.proofs.Sides.{joins_other}
use Rattle.halves.proofs.Sums.{sum_same, sum_apart}
use Rattle.tables.specs.Tables.{most_ports, lists_at, entries_at}
use Rattle.removal.specs.Room.{Source, room_list, form_list, list_in, AllLow}
use Rattle.removal.proofs.Peeling.{list_room_lem, list_form}
use Rattle.incidence.specs.Incidence.{neighbours, arcs_to, CountedTo, LaidOut, Empty, ListsFilled, Built}
use Rattle.incidence.proofs.Ends.{times_side, times_far}
use Rattle.incidence.proofs.Laying.{room_for_all}
use Rattle.incidence.proofs.Facts.{Facts}

-- ---- the lists of the arcs are those of the model

ends_low : (near far : Arc → ℕ) (n v : ℕ) (P : List Arc) → ((a : Arc) → In a P → far a < n) → (x : ℕ) → In x (ends_at near far v P) → x < n
unfolding ends_at
ends_low near far n v [] h x m = absurd (Memᴰ.not-nil m)
ends_low near far n v (a ∷ P) h x m = go (eqb (near a) v) m (ends_low near far n v P (λ c k. h c (Memᴰ.tail k)) x)
  where
    go : (t : Bool) → In x (cond t (far a ∷ ends_at near far v P) (ends_at near far v P)) → (In x (ends_at near far v P) → x < n) → x < n
    go true m r = ⊎_elim (λ e. subst (λ (y : ℕ). y < n) (sym e) (h a (Memᴰ.head refl))) r (Memᴰ.cases_cons m)
    go false m r = r m

halves_low : (n side : ℕ) (ids : List ℕ) → side < 2 → ((x : ℕ) → In x ids → x < n) → AllLow n (map (λ x. 2 * x + side) ids)
halves_low n side [] s h t m = absurd (Memᴰ.not-nil m)
halves_low n side (x ∷ ids) s h t m = ⊎_elim (λ e. omega (arith, h x (Memᴰ.head refl))) (λ k. halves_low n side ids s (λ y j. h y (Memᴰ.tail j)) t k) (Memᴰ.cases_cons m)

module _ (P : List Arc) (n : ℕ) (bounded : Bounded P n) where
  neighbours_low : (y : ℕ) → AllLow n (neighbours P y)
  unfolding neighbours
  neighbours_low y = halves_low n (y % 2) (cond (eqb (y % 2) 0) (outgoing P (y / 2)) (incoming P (y / 2))) (omega arith) (go (eqb (y % 2) 0))
    where
      go : (t : Bool) → (x : ℕ) → In x (cond t (outgoing P (y / 2)) (incoming P (y / 2))) → x < n
      go true x m = ends_low (λ a. a.from) (λ a. a.to) n (y / 2) P (λ a k. (bounded a.from a.to k).1) x m
      go false x m = ends_low (λ a. a.to) (λ a. a.from) n (y / 2) P (λ a k. (bounded a.from a.to k).0) x m

  neighbours_times : (y z : ℕ) → times z (neighbours P y) ≡ joins P y z
  unfolding neighbours joins
  neighbours_times y z = go (ℕ_discrete (y % 2) (z % 2))
    where
      half : (t : Bool) → times (z / 2) (cond t (outgoing P (y / 2)) (incoming P (y / 2))) ≡ cond t (between P (y / 2) (z / 2)) (between P (z / 2) (y / 2))
      half true = how_many_outgoing P (y / 2) (z / 2)
      half false = how_many_incoming P (y / 2) (z / 2)

      go : Dec (y % 2 ≡ z % 2) → times z (map (λ x. 2 * x + y % 2) (cond (eqb (y % 2) 0) (outgoing P (y / 2)) (incoming P (y / 2)))) ≡ joins P y z
      go (no n) = times_far z (y % 2) (omega arith) (λ e. n (sym e)) (cond (eqb (y % 2) 0) (outgoing P (y / 2)) (incoming P (y / 2))) ∙ sym (joins_other P y z n)
      go (yes e) = times_side z (y % 2) (omega arith) (sym e) (cond (eqb (y % 2) 0) (outgoing P (y / 2)) (incoming P (y / 2))) ∙ rw (eq-eqb (y % 2) (z % 2) e) (half (eqb (y % 2) 0))

  pub listed : (lists : ℕ → List ℕ) → ((y : ℕ) → y < 2 * n → lists y ≡ neighbours P y) → Listed P n lists
  listed lists e = record {
    right = λ y z l. ap (times z) (e y l) ∙ neighbours_times y z;
    low = λ y t l m. neighbours_low y t (subst (In t) (e y l) m);
  }

  -- and the degrees those of all vertices
  pub degrees_within : (y : ℕ) → length (neighbours P (mate y)) ≡ within P (vertices n) y
  unfolding neighbours within into out
  degrees_within y = length-map (cond (eqb (mate y % 2) 0) (outgoing P (mate y / 2)) (incoming P (mate y / 2))) (λ x. 2 * x + mate y % 2) ∙ go (ℕ_discrete (y % 2) 0)
    where
      go : Dec (y % 2 ≡ 0) → length (cond (eqb (mate y % 2) 0) (outgoing P (mate y / 2)) (incoming P (mate y / 2))) ≡ cond (eqb (y % 2) 0) (into P (vertices n) (y / 2)) (out P (vertices n) (y / 2))
      go (yes e) =
          let v : mate y / 2 ≡ y / 2 = omega arith in
          rw (ne_eqb (mate y % 2) 0 (λ q. omega arith), eq-eqb (y % 2) 0 e, v) (ends_all (λ a. a.to) (λ a. a.from) P n (λ a m. (bounded a.from a.to m).0) (y / 2))
      go (no e) =
          let v : mate y / 2 ≡ y / 2 = omega arith in
          rw (eq-eqb (mate y % 2) 0 (omega arith), ne_eqb (y % 2) 0 e, v) (ends_all (λ a. a.from) (λ a. a.to) P n (λ a m. (bounded a.from a.to m).1) (y / 2))

-- ---- counted, laid out, filled

module _ (s : Source) (g : Graph) (z : Sizes) (f : Facts g z) (X : List ℕ) (c : CountedTo s g X z.edges) where
  abbrev size : ℕ → ℕ
  size u = length (neighbours (arcs_to g (length g.edges)) u)

  sizes : (u : ℕ) → u < 2 * length g.labels → get_or X (mate u) 0 ≡ size u
  sizes u l =
      let e : mate (mate u) ≡ u = omega arith in
      let v : mate u / 2 ≡ u / 2 = omega arith in
      let h : u / 2 < length g.labels = omega arith in
      let m : mate u / 2 < length g.labels + z.edges = omega arith in
      c.degrees (mate u) (omega arith) ∙ (λ i. length (neighbours (arcs_to g (f.edges i)) (e i)))

  sums : (k : ℕ) → k ≤ 2 * length g.labels → sum_to (λ u. get_or X (mate u) 0) k ≡ sum_to size k
  sums k l = sum_same (λ u. get_or X (mate u) 0) size k (λ u h. sizes u (omega arith))

  pub fits_table : sum_to (λ u. get_or X (mate u) 0) (2 * z.nodes) ≤ most_ports
  fits_table = omega (arith, sums (2 * z.nodes) (omega (arith, f.nodes)), ap (λ (n : ℕ). sum_to size (2 * n)) f.nodes, room_for_all g f.known, f.few_ports)

  module _ (Y : List ℕ) (l : LaidOut X Y (2 * z.nodes)) where
    pub empty : Empty g Y
    empty = record {
      start = λ y h. l.start y (omega (arith, f.nodes)) ∙ sums y (omega arith);
      none = λ y h. l.none y (omega (arith, f.nodes));
    }

    module _ (Z : List ℕ) (w : ListsFilled Y Z (2 * z.nodes) (neighbours (arcs_to g z.edges))) where
      n_is : z.nodes ≡ length g.labels
      n_is = f.nodes

      all : arcs_to g z.edges ≡ arcs g
      all = unfold arcs in (ap (arcs_to g) f.edges ∙ ap (arcs_from (length g.labels)) (take-length g.edges))

      -- the words of an edge's lists are as they were counted
      edge_word : (i : ℕ) → lists_at + 4 * length g.labels ≤ i → i < entries_at → get_or Z i 0 ≡ get_or X i 0
      edge_word i a h = w.between i (omega arith) h ∙ l.frame.same i (inr (omega arith))

      node_list : (y : ℕ) → y < 2 * length g.labels → list_in s Z (length g.labels) y ≡ neighbours (arcs g) y
      node_list y h =
          let k : y < 2 * z.nodes = omega arith in
          list_room_lem s Z (length g.labels) y h ∙ (λ i. room_list Z (w.starts y k i) (w.counts y k i)) ∙ w.entries y k ∙ ap (λ (P : List Arc). neighbours P y) all

      edge_list : (y : ℕ) → 2 * length g.labels ≤ y → y < 2 * vertex_count g → list_in s Z (length g.labels) y ≡ neighbours (arcs g) y
      edge_list y a h =
          list_form s Z (length g.labels) y a
          ∙ (λ i. form_list s (edge_word (lists_at + 2 * y) (omega arith) (omega (arith, f.few)) i) (edge_word (lists_at + 2 * y + 1) (omega arith) (omega (arith, f.few)) i) (y % 2))
          ∙ c.lists y a (omega (arith, f.edges)) ∙ ap (λ (P : List Arc). neighbours P y) all

      lists : (y : ℕ) → y < 2 * vertex_count g → list_in s Z (length g.labels) y ≡ neighbours (arcs g) y
      lists y h = go (dec_lt y (2 * length g.labels))
        where
          go : Dec (y < 2 * length g.labels) → list_in s Z (length g.labels) y ≡ neighbours (arcs g) y
          go (yes a) = node_list y a
          go (no a) = edge_list y (omega arith) h

      pub built : Bounded (arcs g) (vertex_count g) → Built s g Z
      built b = record {
        degrees = λ y h.
            w.before y (omega (arith, f.few)) ∙ l.frame.same y (inl (omega (arith, f.few))) ∙ c.degrees y (omega (arith, f.edges)) ∙ ap (λ (P : List Arc). length (neighbours P (mate y))) all;
        lists = lists;
        inside = record {
          room_inside = λ y h.
              let k : y < 2 * z.nodes = omega arith in
              omega (
                arith,
                w.starts y k,
                w.counts y k,
                empty.start y h,
                ap (λ (n : ℕ). length (neighbours (arcs_to g n) y)) f.edges,
                sum_apart size y (2 * length g.labels) h,
                room_for_all g f.known,
                f.few_ports,
              );
          form_inside = λ y a h.
              subst (Holds s.bytes s.row) (λ i. sym (edge_word (lists_at + 2 * y) (omega arith) (omega (arith, f.few))) i + sym (edge_word (lists_at + 2 * y + 1) (omega arith) (omega (arith, f.few))) i)
              (c.held y a (omega (arith, f.edges)));
          low = λ y h. subst (AllLow (vertex_count g)) (sym (lists y h)) (neighbours_low (arcs g) (vertex_count g) b y);
        };
      }
