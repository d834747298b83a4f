-- The nodes' lists are filled: start, one entry, the ports of an edge on one side, and a whole edge.
-- Assumes nothing.
use mathlib.Core.Path.{◌≡◌, refl, sym, ap, ◌∙◌, subst}
use mathlib.Core.Bool.{Bool, true, false}
use mathlib.Core.List.Memᴰ
use mathlib.Core.List.{List, [], ◌∷◌, ◌++◌, map, append_assoc, append-nil}
use mathlib.Core.Logic.{◌≢◌}
use Prim.Native.Nat.{ℕ, zero, suc, ◌+◌, ◌*◌, ◌%◌, ◌≤◌, ◌<◌}
use native.Mathlib.Decide.{ℕ_discrete, dec_lt}
use native.Mathlib.Nat.{add-zero}
use native.Mathlib.Numerals.{add-one}
use native.Mathlib.Omega.{arith}
use lib.Dec.{eqb}
use lib.ListN.{length, get_or, set, take, drop, take-append-drop, replicate, length-set, length-append, length-replicate}
use lib.Seq.{take-suc, get_or-set_same, get_or-set_other}
use borrow.Author.Tests.{eq-eqb, ne_eqb}
use Rattle.graph.specs.Graph.{Graph}
use Rattle.graph.specs.Form.{no_edge}
use Rattle.choice.specs.Arcs.{In, bump, how_many}
use Rattle.halves.specs.Halves.{times, sum_to}
use Rattle.halves.proofs.Sums.{sum_apart, bump_plus}
use Rattle.halves.proofs.Lists.{count_append, count_one}
use Rattle.tables.specs.Tables.{most_vertices, most_ports, lists_at, entries_at, picked_at}
use Rattle.removal.specs.Room.{part, start_of, count_of, room_list}
use Rattle.removal.proofs.Tables.{part_ext, part_snoc}
use Rattle.removal.proofs.Walks.{in_get_d, in_take}
use Rattle.incidence.specs.Incidence.{neighbours, arcs_to, ports_of, Known, appended, appended_all, ListsFilled}
use Rattle.incidence.proofs.Ends.{times_far}
use Rattle.incidence.proofs.Counting.{next_at_lem}

-- ---- one after the other

pub appended_snoc : (ys : List ℕ) (y t : ℕ) (W : List ℕ) → appended_all (ys ++ (y ∷ [])) t W ≡ appended y t (appended_all ys t W)
unfolding appended_all
appended_snoc [] y t W = refl
appended_snoc (z ∷ ys) y t W = appended_snoc ys y t (appended z t W)

pub filling_same : {W X : List ℕ} {k : ℕ} {L M : ℕ → List ℕ} → ((y : ℕ) → y < k → L y ≡ M y) → ListsFilled W X k L → ListsFilled W X k M
filling_same {W} {X} {k} {L} {M} e f = record {
  long = f.long;
  starts = f.starts;
  counts = λ y l. f.counts y l ∙ ap length (e y l);
  entries = λ y l. subst (λ (l : List ℕ). room_list X (start_of W y) (length l) ≡ l) (e y l) (f.entries y l);
  before = f.before;
  between = f.between;
}

pub filling_start : (W : List ℕ) (k : ℕ) (L : ℕ → List ℕ) → ((y : ℕ) → y < k → count_of W y ≡ 0) → ((y : ℕ) → L y ≡ []) → ListsFilled W W k L
unfolding room_list part
filling_start W k L none empty = record {
  long = refl;
  starts = λ y l. refl;
  counts = λ y l. none y l ∙ ap length (sym (empty y));
  entries = λ y l. rw (empty y) refl;
  before = λ i l. refl;
  between = λ i a l. refl;
}

-- ---- where the lists lie: the room of k lists, each of its size, and all of them in the table

module _ (W : List ℕ) (k : ℕ) (size : ℕ → ℕ) (begin : (y : ℕ) → y < k → start_of W y ≡ sum_to size y) (all : sum_to size k ≤ most_ports) (fits : k ≤ 2 * most_vertices) (long : picked_at ≤ length W) where
  module _ (X : List ℕ) (L : ℕ → List ℕ) (f : ListsFilled W X k L) (y t : ℕ) (low : y < k) (space : length (L y) < size y) where
    abbrev place : ℕ
    place = start_of X y + count_of X y

    place_is : place ≡ sum_to size y + length (L y)
    place_is = λ i. (f.starts y low ∙ begin y low) i + f.counts y low i

    -- the place of the new entry is in the table
    pub appended_inside : start_of X y + count_of X y < most_ports
    appended_inside = omega (arith, place_is, sum_apart size y k low)

    abbrev Y : List ℕ
    Y = appended y t X

    other : (i : ℕ) → i ≢ entries_at + place → i ≢ lists_at + 2 * y + 1 → get_or Y i 0 ≡ get_or X i 0
    unfolding appended
    other i a b = get_or-set_other (set X (entries_at + place) t) (lists_at + 2 * y + 1) i (count_of X y + 1) 0 b ∙ get_or-set_other X (entries_at + place) i t 0 a

    Y_long : length Y ≡ length X
    unfolding appended
    Y_long = simp length-set

    here : get_or Y (entries_at + place) 0 ≡ t
    unfolding appended
    here = get_or-set_other (set X (entries_at + place) t) (lists_at + 2 * y + 1) (entries_at + place) (count_of X y + 1) 0 (λ e. omega arith)
        ∙ get_or-set_same X (entries_at + place) t 0 (omega (arith, f.long, appended_inside))

    counted : count_of Y y ≡ count_of X y + 1
    unfolding appended
    counted = get_or-set_same (set X (entries_at + place) t) (lists_at + 2 * y + 1) (count_of X y + 1) 0 (rw length-set (omega (arith, f.long)))

    pub appended_filling : (M : ℕ → List ℕ) → (M y ≡ L y ++ (t ∷ [])) → ((z : ℕ) → z < k → z ≢ y → M z ≡ L z) → ((z : ℕ) → z < k → length (L z) ≤ size z) → ListsFilled W (appended y t X) k M
    unfolding room_list
    appended_filling M new old few = record {
      long = Y_long ∙ f.long;
      starts = λ z l. other (lists_at + 2 * z) (λ e. omega arith) (λ e. omega arith) ∙ f.starts z l;
      counts = λ z l. count z l (ℕ_discrete z y);
      entries = λ z l. entries z l (ℕ_discrete z y);
      before = λ i l. other i (λ e. omega arith) (λ e. omega arith) ∙ f.before i l;
      between = λ i a l. other i (λ e. omega arith) (λ e. omega arith) ∙ f.between i a l;
    }
      where
        count : (z : ℕ) → z < k → Dec (z ≡ y) → count_of Y z ≡ length (M z)
        count z l (yes e) = ap (count_of Y) e ∙ counted ∙ omega (arith, f.counts y low, ap length new, length-append (L y) (t ∷ []), ap (λ (u : ℕ). length (M u)) e)
        count z l (no n) = other (lists_at + 2 * z + 1) (λ e. omega arith) (λ e. n (omega arith)) ∙ f.counts z l ∙ ap length (sym (old z l n))

        -- the entries of a list are as they were
        same : (z : ℕ) → z < k → room_list Y (start_of W z) (length (L z)) ≡ L z
        same z l =
            part_ext X Y (entries_at + start_of W z) (length (L z)) Y_long (omega (arith, begin z l, few z l, sum_apart size z k l, f.long))
            (λ i h. other (entries_at + start_of W z + i) (λ e. apart i h (ℕ_discrete z y) (omega arith)) (λ e. omega arith)) ∙ f.entries z l
          where
            apart : (i : ℕ) → i < length (L z) → Dec (z ≡ y) → start_of W z + i ≡ place → ⊥
            apart i h (yes e) q = omega (arith, place_is, begin z l, ap (sum_to size) e, ap (λ (u : ℕ). length (L u)) e)
            apart i h (no n) q = sides (dec_lt z y)
              where
                sides : Dec (z < y) → ⊥
                sides (yes a) = omega (arith, place_is, begin z l, few z l, sum_apart size z y a)
                sides (no a) = omega (arith, place_is, begin z l, space, sum_apart size y z (omega arith))

        entries : (z : ℕ) → z < k → Dec (z ≡ y) → room_list Y (start_of W z) (length (M z)) ≡ M z
        entries z l (no n) = rw (old z l n) (same z l)
        entries z l (yes e) =
            let at : entries_at + start_of W y + length (L y) ≡ entries_at + place = omega (arith, place_is, begin y low) in
            let now : length (M y) ≡ length (L y) + 1 = ap length new ∙ length-append (L y) (t ∷ []) in
            rw e
            (ap (part Y (entries_at + start_of W y)) now ∙ part_snoc Y (entries_at + start_of W y) (length (L y)) (omega (arith, Y_long, f.long, appended_inside))
            ∙ (λ i. same y low i ++ ((ap (λ (p : ℕ). get_or Y p 0) at ∙ here) i ∷ [])) ∙ sym new)

  -- ---- t in the list of each half of ys

  pub filling_all : (ys : List ℕ) (t : ℕ) (X : List ℕ) (L : ℕ → List ℕ) → ListsFilled W X k L → ((y : ℕ) → In y ys → y < k) → ((z : ℕ) → z < k → length (L z) + times z ys ≤ size z)
      → ListsFilled W (appended_all ys t X) k (λ z. L z ++ replicate (times z ys) t)
  unfolding appended_all how_many
  filling_all [] t X L f low few = filling_same (λ z l. sym (append-nil (L z))) f
  filling_all (y ∷ ys) t X L f low few = filling_same (λ z l. same z (eqb y z)) (filling_all ys t (appended y t X) M one (λ z m. low z (Memᴰ.tail m)) (λ z l. omega (arith, few z l, long_M z, bump_plus (eqb y z) (times z ys))))
    where
      M : ℕ → List ℕ
      M z = L z ++ replicate (bump (eqb y z) 0) t

      long_M : (z : ℕ) → length (M z) ≡ length (L z) + bump (eqb y z) 0
      long_M z = length-append (L z) (replicate (bump (eqb y z) 0) t) ∙ ap (λ (n : ℕ). length (L z) + n) (length-replicate (bump (eqb y z) 0) t)

      one : ListsFilled W (appended y t X) k M
      one = appended_filling X L f y t (low y (Memᴰ.head refl)) (omega (arith, few y (low y (Memᴰ.head refl)), ap (λ (b : Bool). bump b (times y ys)) (eq-eqb y y refl))) M
          (ap (λ (b : Bool). L y ++ replicate (bump b 0) t) (eq-eqb y y refl)) (λ z l n. ap (λ (b : Bool). L z ++ replicate (bump b 0) t) (ne_eqb y z (λ e. n (sym e))) ∙ append-nil (L z))
          (λ z l. omega (arith, few z l))

      same : (z : ℕ) (b : Bool) → (L z ++ replicate (bump b 0) t) ++ replicate (times z ys) t ≡ L z ++ replicate (bump b (times z ys)) t
      same z true = append_assoc (L z) (t ∷ []) (replicate (times z ys) t)
      same z false = ap (λ (l : List ℕ). l ++ replicate (times z ys) t) (append-nil (L z))

  -- so each of them has its place when it is put
  pub all_inside : (ys : List ℕ) (t : ℕ) (X : List ℕ) (L : ℕ → List ℕ) → ListsFilled W X k L → ((y : ℕ) → In y ys → y < k) → ((z : ℕ) → z < k → length (L z) + times z ys ≤ size z)
      → (j : ℕ) → j < length ys → start_of (appended_all (take j ys) t X) (get_or ys j 0) + count_of (appended_all (take j ys) t X) (get_or ys j 0) < most_ports
  all_inside ys t X L f low few j l =
      appended_inside (appended_all (take j ys) t X) (λ z. L z ++ replicate (times z (take j ys)) t)
      (filling_all (take j ys) t X L f (λ y m. low y (in_take j ys y m)) (λ z h. omega (arith, few z h, ap (times z) (sym (take-append-drop j ys)), count_append (λ u. eqb u z) (take j ys) (drop j ys))))
      y t (low y (in_get_d ys j l)) (omega (
        arith,
        few y (low y (in_get_d ys j l)),
        next,
        ap (times y) (sym (take-append-drop (j + 1) ys)),
        count_append (λ u. eqb u y) (take (j + 1) ys) (drop (j + 1) ys),
        length-append (L y) (replicate (times y (take j ys)) t),
        length-replicate (times y (take j ys)) t,
      ))
    where
      y : ℕ
      y = get_or ys j 0

      next : times y (take (j + 1) ys) ≡ times y (take j ys) + 1
      next = ap (times y) (rw add-one (take-suc ys j 0 l)) ∙ count_append (λ u. eqb u y) (take j ys) (get_or ys j 0 ∷ [])
          ∙ ap (λ (n : ℕ). times y (take j ys) + n) (count_one (λ u. eqb u y) (get_or ys j 0) ∙ ap (λ (b : Bool). bump b 0) (eq-eqb y y refl))

-- ---- a whole edge

module _ (g : Graph) (known : Known g) where
  -- the lists only grow
  pub lists_grow : (m i : ℕ) → i + m ≤ length g.edges → (z : ℕ) → z < 2 * length g.labels → length (neighbours (arcs_to g i) z) ≤ length (neighbours (arcs_to g (i + m)) z)
  lists_grow zero i l z h = omega (arith, ap (λ (n : ℕ). length (neighbours (arcs_to g n) z)) (add-zero i))
  lists_grow (suc m) i l z h =
      let e : i + 1 + m ≡ i + suc m = omega arith in
      omega (
        arith,
        ap length (next_at_lem g known i (omega arith) z (λ q. omega arith)),
        length-append (neighbours (arcs_to g i) z) (replicate (times z (ports_of (get_or g.edges i no_edge))) (2 * (length g.labels + i) + z % 2)),
        lists_grow m (i + 1) (omega arith) z h,
        ap (λ (n : ℕ). length (neighbours (arcs_to g n) z)) e,
      )

  module _ (i : ℕ) (inside : i < length g.edges) where
    abbrev A : List ℕ
    A = map (λ id. 2 * id + 0) (get_or g.edges i no_edge).sources

    abbrev B : List ℕ
    B = map (λ id. 2 * id + 1) (get_or g.edges i no_edge).targets

    abbrev x : ℕ
    x = length g.labels + i

    -- what the edge adds on its two sides
    pub edge_adds : (z : ℕ) → z < 2 * length g.labels
        → (neighbours (arcs_to g i) z ++ replicate (times z A) (2 * x)) ++ replicate (times z B) (2 * x + 1) ≡ neighbours (arcs_to g (i + 1)) z
    unfolding ports_of
    edge_adds z h = go (ℕ_discrete (z % 2) 0) ∙ sym (next_at_lem g known i inside z (λ q. omega arith))
      where
        N : List ℕ
        N = neighbours (arcs_to g i) z

        go : Dec (z % 2 ≡ 0) → (N ++ replicate (times z A) (2 * x)) ++ replicate (times z B) (2 * x + 1) ≡ N ++ replicate (times z (A ++ B)) (2 * x + z % 2)
        go (yes e) =
            let none = times_far z 1 (omega arith) (λ p. omega arith) (get_or g.edges i no_edge).targets in
            let many : times z A ≡ times z (A ++ B) = omega (arith, none, count_append (λ t. eqb t z) A B) in
            let what : 2 * x ≡ 2 * x + z % 2 = omega arith in
            ap (λ (n : ℕ). (N ++ replicate (times z A) (2 * x)) ++ replicate n (2 * x + 1)) none ∙ append-nil (N ++ replicate (times z A) (2 * x)) ∙ (λ j. N ++ replicate (many j) (what j))
        go (no e) =
            let none = times_far z 0 (omega arith) e (get_or g.edges i no_edge).sources in
            let many : times z B ≡ times z (A ++ B) = omega (arith, none, count_append (λ t. eqb t z) A B) in
            let what : 2 * x + 1 ≡ 2 * x + z % 2 = omega arith in
            ap (λ (n : ℕ). (N ++ replicate n (2 * x)) ++ replicate (times z B) (2 * x + 1)) none ∙ ap (λ (l : List ℕ). l ++ replicate (times z B) (2 * x + 1)) (append-nil N) ∙ (λ j. N ++ replicate (many j) (what j))
