-- Numbers in heap order: the top is the largest; an entry sinks from the top, or rises from the end, a level at a time.
-- Assumes nothing.
use mathlib.Core.Path.{◌≡◌, refl, sym, ap, ◌∙◌, subst}
use mathlib.Core.List.Memᴰ
use mathlib.Core.List.{List, [], ◌∷◌, ◌++◌}
use mathlib.Core.Logic.{◌≢◌}
use Prim.Native.Nat.{ℕ, zero, suc, ◌+◌, ◌-◌, ◌/◌, ◌≤◌, ◌<◌}
use native.Mathlib.Decide.{ℕ_discrete}
use native.Mathlib.Nat.{le_refl}
use native.Mathlib.Omega.{arith}
use lib.ListN.{length, get_or, set, length-set, length-append, get_or-append}
use lib.Seq.{get_or-set_same, get_or-set_other}
use Rattle.choice.specs.Arcs.{In}
use Rattle.queue.specs.Keys.{total, Heap, Sinking, Sunk, Rising, Pushed}

-- ---- sums over a list

pub total_set : (f : ℕ → ℕ) (K : List ℕ) (i k : ℕ) → i < length K → total f (set K i k) + f (get_or K i 0) ≡ total f K + f k
unfolding total
total_set f [] i k l = absurd (omega arith)
total_set f (x ∷ K) zero k l = omega arith
total_set f (x ∷ K) (suc i) k l = omega (arith, total_set f K i k (omega arith))

-- the entry at c moves to the gap, and the gap to c
pub total_move : (f : ℕ → ℕ) (K : List ℕ) (g c k : ℕ) → g < length K → c < length K → c ≢ g
    → total f (set (set K g (get_or K c 0)) c k) ≡ total f (set K g k)
total_move f K g c k l m n =
    omega (
      arith,
      total_set f (set K g (get_or K c 0)) c k (rw length-set m),
      total_set f K g (get_or K c 0) l,
      total_set f K g k l,
      ap f (get_or-set_other K g c (get_or K c 0) 0 n),
    )

-- ---- the top

pub top_most : (K : List ℕ) → Heap K (length K) → (i : ℕ) → i < length K → get_or K i 0 ≤ get_or K 0 0
top_most K h i l = go i i (le_refl i) l
  where
    go : (fuel j : ℕ) → j ≤ fuel → j < length K → get_or K j 0 ≤ get_or K 0 0
    go zero j a b = let e : j ≡ 0 = omega arith in subst (λ (x : ℕ). get_or K x 0 ≤ get_or K 0 0) (sym e) (le_refl (get_or K 0 0))
    go (suc fuel) j a b = at (ℕ_discrete j 0) (go fuel ((j - 1) / 2))
      where
        at : Dec (j ≡ 0) → ((j - 1) / 2 ≤ fuel → (j - 1) / 2 < length K → get_or K ((j - 1) / 2) 0 ≤ get_or K 0 0) → get_or K j 0 ≤ get_or K 0 0
        at (yes e) r = subst (λ (x : ℕ). get_or K x 0 ≤ get_or K 0 0) (sym e) (le_refl (get_or K 0 0))
        at (no n) r = omega (arith, h j (omega arith) b, r (omega arith) (omega arith))

pub index_of : {k : ℕ} {K : List ℕ} → In k K → (i : ℕ) × (i < length K) × (get_or K i 0 ≡ k)
index_of (Memᴰ.head e) = (zero, omega arith, sym e)
index_of (Memᴰ.tail m) = let w = index_of m in (suc w.0, omega (arith, w.1), w.2)

pub top_largest : (K : List ℕ) → Heap K (length K) → (k : ℕ) → In k K → k ≤ get_or K 0 0
top_largest K h k m = let w = index_of m in subst (λ (x : ℕ). x ≤ get_or K 0 0) w.2 (top_most K h w.0 w.1)

-- ---- sinking

module _ (K : List ℕ) (k : ℕ) where
  pub sink_start : 0 < length K → Heap K (length K) → Sinking K K k 0
  sink_start l h = record { long = refl; inside = l; heap = h; over = λ z. absurd (omega arith); moved = λ f. refl }

  -- c is the larger of the gap's children, and above k: it moves up
  pub sink_turn : (X : List ℕ) (gap c : ℕ) → Sinking K X k gap → c < length K → 0 < c → (c - 1) / 2 ≡ gap → k ≤ get_or X c 0
      → ((j : ℕ) → 0 < j → j < length K → (j - 1) / 2 ≡ gap → get_or X j 0 ≤ get_or X c 0) → Sinking K (set X gap (get_or X c 0)) k c
  sink_turn X gap c s l p e a big = record {
    long = length-set X gap (get_or X c 0) ∙ s.long;
    inside = l;
    heap = heap;
    over = λ z. omega (arith, other c (λ q. omega arith));
    moved = λ f. total_move f X gap c k (omega (arith, s.inside, s.long)) (omega (arith, s.long)) (λ q. omega arith) ∙ s.moved f;
  }
    where
      Y : List ℕ
      Y = set X gap (get_or X c 0)

      here : get_or Y gap 0 ≡ get_or X c 0
      here = get_or-set_same X gap (get_or X c 0) 0 (omega (arith, s.inside, s.long))

      other : (j : ℕ) → j ≢ gap → get_or Y j 0 ≡ get_or X j 0
      other j n = get_or-set_other X gap j (get_or X c 0) 0 n

      up : get_or X c 0 ≤ get_or X gap 0
      up = subst (λ (x : ℕ). get_or X c 0 ≤ get_or X x 0) e (s.heap c p l)

      heap : Heap Y (length K)
      heap j q m = go (ℕ_discrete j gap) (ℕ_discrete ((j - 1) / 2) gap)
        where
          go : Dec (j ≡ gap) → Dec ((j - 1) / 2 ≡ gap) → get_or Y j 0 ≤ get_or Y ((j - 1) / 2) 0
          go (yes f) (yes g) = omega arith
          go (yes f) (no g) =
              rw (f) (omega (arith, here, up, subst (λ (x : ℕ). get_or X x 0 ≤ get_or X ((x - 1) / 2) 0) f (s.heap j q m), other ((gap - 1) / 2) (λ z. omega arith)))
          go (no f) (yes g) = rw g (omega (arith, here, other j f, big j q m g))
          go (no f) (no g) = omega (arith, other j f, other ((j - 1) / 2) g, s.heap j q m)

  -- no child of the gap is above k: k is put there
  pub sink_done : (X : List ℕ) (gap : ℕ) → Sinking K X k gap → ((j : ℕ) → 0 < j → j < length K → (j - 1) / 2 ≡ gap → get_or X j 0 ≤ k) → Sunk K (set X gap k) k
  sink_done X gap s small = record {
    long = length-set X gap k ∙ s.long;
    heap = heap;
    moved = λ f. omega (arith, s.moved f, total_set f K 0 k (omega (arith, s.inside)));
  }
    where
      Y : List ℕ
      Y = set X gap k

      here : get_or Y gap 0 ≡ k
      here = get_or-set_same X gap k 0 (omega (arith, s.inside, s.long))

      other : (j : ℕ) → j ≢ gap → get_or Y j 0 ≡ get_or X j 0
      other j n = get_or-set_other X gap j k 0 n

      heap : Heap Y (length K)
      heap j q m = go (ℕ_discrete j gap) (ℕ_discrete ((j - 1) / 2) gap)
        where
          go : Dec (j ≡ gap) → Dec ((j - 1) / 2 ≡ gap) → get_or Y j 0 ≤ get_or Y ((j - 1) / 2) 0
          go (yes f) (yes g) = omega arith
          go (yes f) (no g) =
              rw f (omega (arith, here, s.over (omega arith), subst (λ (x : ℕ). get_or X x 0 ≤ get_or X ((x - 1) / 2) 0) f (s.heap j q m), other ((gap - 1) / 2) (λ z. omega arith)))
          go (no f) (yes g) = rw g (omega (arith, here, other j f, small j q m g))
          go (no f) (no g) = omega (arith, other j f, other ((j - 1) / 2) g, s.heap j q m)

-- ---- rising

total_snoc : (f : ℕ → ℕ) (K : List ℕ) (x k : ℕ) → total f (set (K ++ (x ∷ [])) (length K) k) ≡ total f K + f k
unfolding total
total_snoc f [] x k = omega arith
total_snoc f (y ∷ K) x k = omega (arith, total_snoc f K x k)

module _ (K : List ℕ) (k : ℕ) where
  -- whatever stands past the end
  pub rise_start : (x : ℕ) → Heap K (length K) → Rising K (K ++ (x ∷ [])) (length K) k (length K)
  rise_start x h = record {
    long = length-append K (x ∷ []);
    inside = le_refl (length K);
    heap = λ i p l. omega (arith, h i p l, get_or-append K (x ∷ []) 0 i l, get_or-append K (x ∷ []) 0 ((i - 1) / 2) (omega arith));
    last = λ l. absurd (omega arith);
    under = λ l. absurd (omega arith);
    moved = λ f. total_snoc f K x k;
  }

  module _ (X : List ℕ) (n gap : ℕ) (r : Rising K X n k gap) where
    module _ (v : ℕ) where
      here : get_or (set X gap v) gap 0 ≡ v
      here = get_or-set_same X gap v 0 (omega (arith, r.inside, r.long))

      other : (j : ℕ) → j ≢ gap → get_or (set X gap v) j 0 ≡ get_or X j 0
      other j q = get_or-set_other X gap j v 0 q

    -- the parent of the gap is below k: it moves down
    pub rise_turn : 0 < gap → get_or X ((gap - 1) / 2) 0 ≤ k → Rising K (set X gap (get_or X ((gap - 1) / 2) 0)) n k ((gap - 1) / 2)
    rise_turn p a = record {
      long = length-set X gap v ∙ r.long;
      inside = omega (arith, r.inside);
      heap = heap;
      last = λ l. last (ℕ_discrete gap n) (ℕ_discrete ((n - 1) / 2) gap);
      under = λ l. omega (arith, other v ((gap - 1) / 2) (λ q. omega arith));
      moved = λ f. total_move f X gap ((gap - 1) / 2) k (omega (arith, r.inside, r.long)) (omega (arith, r.inside, r.long)) (λ q. omega arith) ∙ r.moved f;
    }
      where
        v : ℕ
        v = get_or X ((gap - 1) / 2) 0

        heap : Heap (set X gap v) n
        heap j q m = go (ℕ_discrete j gap) (ℕ_discrete ((j - 1) / 2) gap)
          where
            go : Dec (j ≡ gap) → Dec ((j - 1) / 2 ≡ gap) → get_or (set X gap v) j 0 ≤ get_or (set X gap v) ((j - 1) / 2) 0
            go (yes f) (yes g) = omega arith
            go (yes f) (no g) = rw f (omega (arith, here v, other v ((gap - 1) / 2) (λ z. omega arith)))
            go (no f) (yes g) =
                rw g (omega (arith, here v, other v j f, subst (λ (x : ℕ). get_or X j 0 ≤ get_or X x 0) g (r.heap j q m), r.heap gap p (omega arith)))
            go (no f) (no g) = omega (arith, other v j f, other v ((j - 1) / 2) g, r.heap j q m)

        last : Dec (gap ≡ n) → Dec ((n - 1) / 2 ≡ gap) → get_or (set X gap v) n 0 ≤ get_or (set X gap v) ((n - 1) / 2) 0
        last (yes f) g =
            subst (λ (x : ℕ). get_or (set X gap v) x 0 ≤ get_or (set X gap v) ((x - 1) / 2) 0) f
            (omega (arith, here v, other v ((gap - 1) / 2) (λ z. omega arith)))
        last (no f) (yes g) =
            rw g (omega (arith, here v, other v n (λ z. f (sym z)), subst (λ (x : ℕ). get_or X n 0 ≤ get_or X x 0) g (r.last (omega (arith, r.inside))), r.heap gap p (omega (arith, r.inside))))
        last (no f) (no g) = omega (arith, other v n (λ z. f (sym z)), other v ((n - 1) / 2) g, r.last (omega (arith, r.inside)))

    -- k is not above the gap's parent: it is put there
    pub rise_done : length K ≡ n → (0 < gap → k ≤ get_or X ((gap - 1) / 2) 0) → Pushed K (set X gap k) k
    rise_done e a = record {
      long = length-set X gap k ∙ r.long ∙ ap (λ (m : ℕ). m + 1) (sym e);
      heap = λ j q m. heap j q m (ℕ_discrete j gap) (ℕ_discrete ((j - 1) / 2) gap) (ℕ_discrete j n);
      moved = r.moved;
    }
      where
        old : (j : ℕ) → 0 < j → j < length K + 1 → j ≢ gap → Dec (j ≡ n) → get_or X j 0 ≤ get_or X ((j - 1) / 2) 0
        old j q m f (yes z) = subst (λ (x : ℕ). get_or X x 0 ≤ get_or X ((x - 1) / 2) 0) (sym z) (r.last (omega (arith, r.inside)))
        old j q m f (no z) = r.heap j q (omega arith)

        heap : (j : ℕ) → 0 < j → j < length K + 1 → Dec (j ≡ gap) → Dec ((j - 1) / 2 ≡ gap) → Dec (j ≡ n) → get_or (set X gap k) j 0 ≤ get_or (set X gap k) ((j - 1) / 2) 0
        heap j q m (yes f) (yes g) z = omega arith
        heap j q m (yes f) (no g) z = rw f (omega (arith, here k, a (omega arith), other k ((gap - 1) / 2) (λ w. omega arith)))
        heap j q m (no f) (yes g) z =
            rw g (omega (arith, here k, other k j f, subst (λ (x : ℕ). get_or X j 0 ≤ get_or X x 0) g (old j q m f z), r.under (omega arith)))
        heap j q m (no f) (no g) z = omega (arith, other k j f, other k ((j - 1) / 2) g, old j q m f z)
