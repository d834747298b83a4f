-- What the queue says of the nodes: it is kept by lowering, by a present key instead of a stale top; and
-- a top that agrees with the present degrees is the best node. Assumes nothing.
use mathlib.Core.Path.{◌≡◌, refl, sym, ap, ◌∙◌, subst}
use mathlib.Core.Bool.{Bool, true, false, ◌&&◌, not}
use mathlib.Core.List.Memᴰ
use mathlib.Core.List.{List, [], ◌∷◌}
use mathlib.Core.Logic.{◌⊎◌, inl, inr, ◌≢◌}
use Prim.Native.Nat.{ℕ, ◌+◌, ◌*◌, ◌≤◌, ◌<◌}
use native.Mathlib.Decide.{ℕ_discrete, dec_le}
use native.Mathlib.Nat.{lt_of_not-le, le_refl, mul-le-mul, mul-pos, zero-mul}
use native.Mathlib.Omega.{arith}
use lib.Dec.{T, eqb, ltb, eqb→eq}
use lib.ListN.{length, get_or}
use borrow.Author.Tests.{eq-eqb, ne_eqb, lt-ltb, le-ltb}
use Rattle.choice.specs.Arcs.{Arc, In, bump, Set, has}
use Rattle.choice.proofs.Degrees.{is_true}
use Rattle.choice.specs.Choice.{score, Best}
use Rattle.halves.specs.Halves.{vertex, Between}
use Rattle.halves.proofs.Lists.{pos_of}
use Rattle.halves.proofs.Leaving.{all_live, in_right, out_right}
use Rattle.halves.proofs.Sides.{into_half, out_half}
use Rattle.queue.specs.Keys.{radix, key, id_of, in_of, key_now, total, Sunk, Pushed, Entry, times_queued, Queued, Filling}
use Rattle.queue.proofs.Numbers.{key_id, key_in, key_le, key_mono}
use Rattle.queue.proofs.Heaps.{top_largest}

-- ---- entries, counted

one_of : (p : ℕ → Bool) (K : List ℕ) → 0 < total (λ k. bump (p k) 0) K → (k : ℕ) × In k K × T (p k)
unfolding total
one_of p [] h = absurd (omega arith)
one_of p (x ∷ K) h = go (p x) refl h (one_of p K)
  where
    go : (t : Bool) → p x ≡ t → 0 < bump t 0 + total (λ k. bump (p k) 0) K → (0 < total (λ k. bump (p k) 0) K → (k : ℕ) × In k K × T (p k)) → (k : ℕ) × In k (x ∷ K) × T (p k)
    go true e l r = (x, Memᴰ.head refl, subst T (sym e) tt)
    go false e l r = let w = r (omega arith) in (w.0, Memᴰ.tail w.1, w.2)

counted : (f : ℕ → ℕ) {k : ℕ} {K : List ℕ} → In k K → f k ≤ total f K
unfolding total
counted f (Memᴰ.head {x = x} {xs = K} e) = omega (arith, ap f e)
counted f (Memᴰ.tail {x = x} {xs = K} m) = omega (arith, counted f m)

is : ℕ → ℕ → ℕ
is k z = bump (eqb z k) 0

is_self : (k : ℕ) → is k k ≡ 1
unfolding is
is_self k = ap (λ (t : Bool). bump t 0) (eq-eqb k k refl)

is_other : (k z : ℕ) → z ≢ k → is k z ≡ 0
unfolding is
is_other k z n = ap (λ (t : Bool). bump t 0) (ne_eqb z k n)

in_of_lem : (k : ℕ) (K : List ℕ) → 0 < total (is k) K → In k K
unfolding is
in_of_lem k K h = let w = one_of (λ z. eqb z k) K h in subst (λ (z : ℕ). In z K) (eqb→eq w.0 k w.2) w.1

-- an entry of X is the new one or was there
pub sunk_from : (K X : List ℕ) (n : ℕ) → Sunk K X n → (k : ℕ) → In k X → (k ≡ n) ⊎ In k K
sunk_from K X n s k m = go (ℕ_discrete k n)
  where
    go : Dec (k ≡ n) → (k ≡ n) ⊎ In k K
    go (yes e) = inl e
    go (no f) = inr (in_of_lem k K (omega (arith, s.moved (is k), counted (is k) m, is_self k, is_other k n (λ e. f (sym e)))))

pub pushed_from : (K X : List ℕ) (n : ℕ) → Pushed K X n → (k : ℕ) → In k X → (k ≡ n) ⊎ In k K
pushed_from K X n s k m = go (ℕ_discrete k n)
  where
    go : Dec (k ≡ n) → (k ≡ n) ⊎ In k K
    go (yes e) = inl e
    go (no f) = inr (in_of_lem k K (omega (arith, s.moved (is k), counted (is k) m, is_self k, is_other k n (λ e. f (sym e)))))

top_in : (K : List ℕ) → 0 < length K → In (get_or K 0 0) K
top_in [] l = absurd (omega arith)
top_in (k ∷ K) l = Memᴰ.head refl

-- ---- the present key

module _ (may : ℕ → Bool) (d : List ℕ) (v : ℕ) (few : (v : ℕ) → T (may v) → v < radix) (small : (y : ℕ) → get_or d y 0 < radix) (low : T (may v)) where
  pub now_id : id_of (key_now d v) ≡ v
  now_id = key_id v (get_or d (2 * v) 0) (get_or d (2 * v + 1) 0) (few v low) (small (2 * v))

  now_in : in_of (key_now d v) ≡ get_or d (2 * v) 0
  now_in = key_in v (get_or d (2 * v) 0) (get_or d (2 * v + 1) 0) (few v low) (small (2 * v))

  pub now_entry : Entry may d (key_now d v)
  now_entry = record {
    arcs_out = get_or d (2 * v + 1) 0;
    is = λ i. key (sym now_id i) (sym now_in i) (get_or d (2 * v + 1) 0);
    allowed = rw now_id low;
    ins = rw (now_id, now_in) (le_refl (get_or d (2 * v) 0));
    outs = rw now_id (le_refl (get_or d (2 * v + 1) 0));
  }

pub in_small : (k : ℕ) → in_of k < radix
unfolding in_of
in_small k = omega arith

-- ---- degrees are lowered: the queue is not touched

pub queue_lowered : (may : ℕ → Bool) (d e K : List ℕ) → ((y : ℕ) → get_or e y 0 ≤ get_or d y 0) → Queued may d K → Queued may e K
queue_lowered may d e K less q = record {
  ids = q.ids;
  small = λ y. omega (arith, less y, q.small y);
  heap = q.heap;
  sound = λ k m. entry k (q.sound k m);
  once = q.once;
  there = λ v l p. q.there v l (omega (arith, less (2 * v)));
}
  where
    entry : (k : ℕ) → Entry may d k → Entry may e k
    entry k n = record {
      arcs_out = n.arcs_out;
      is = n.is;
      allowed = n.allowed;
      ins = omega (arith, n.ins, less (2 * id_of k));
      outs = omega (arith, n.outs, less (2 * id_of k + 1));
    }

module _ (may : ℕ → Bool) (d K : List ℕ) (q : Queued may d K) where
  -- ---- the top

  module _ (some : 0 < length K) where
    abbrev top : ℕ
    top = get_or K 0 0

    abbrev best : ℕ
    best = id_of (get_or K 0 0)

    pub top_entry : Entry may d (get_or K 0 0)
    top_entry = q.sound top (top_in K some)

    pub top_allowed : T (may (id_of (get_or K 0 0)))
    top_allowed = top_entry.allowed

    -- the present key is not above the top, so another one is below it
    pub now_not_above : key_now d (id_of (get_or K 0 0)) ≤ get_or K 0 0
    now_not_above = subst (λ (x : ℕ). key_now d best ≤ x) (sym top_entry.is) (key_mono best (get_or d (2 * best) 0) (get_or d (2 * best + 1) 0) (in_of top) top_entry.arcs_out top_entry.ins top_entry.outs)

    -- the present key instead of the top
    pub queue_replaced : (X : List ℕ) → Sunk K X (key_now d (id_of (get_or K 0 0))) → Queued may d X
    queue_replaced X s = record {
      ids = q.ids;
      small = q.small;
      heap = λ i p l. s.heap i p (omega (arith, s.long));
      sound = λ k m. sound k (sunk_from K X (key_now d best) s k m);
      once = λ v. omega (arith, same v, q.once v);
      there = λ v l p. same v ∙ q.there v l p;
    }
      where
        n : ℕ
        n = key_now d best

        id : id_of (key_now d best) ≡ best
        id = now_id may d best q.ids q.small top_allowed

        same : (v : ℕ) → times_queued v X ≡ times_queued v K
        same v = omega (arith, s.moved (λ k. bump (eqb (id_of k) v) 0), ap (λ (x : ℕ). bump (eqb x v) 0) id)

        sound : (k : ℕ) → (k ≡ key_now d best) ⊎ In k K → Entry may d k
        sound k (inl e) = subst (Entry may d) (sym e) (now_entry may d best q.ids q.small top_allowed)
        sound k (inr m) = q.sound k m

    -- ---- a top that agrees

    pub top_best : (arcs : List Arc) (n : ℕ) (S : Set) → Between arcs n S d [] [] → 0 < get_or d (2 * id_of (get_or K 0 0)) 0
        → key_now d (id_of (get_or K 0 0)) ≡ get_or K 0 0 → Best arcs may S (id_of (get_or K 0 0))
    top_best arcs n S b alive agrees = record {
      allowed = top_allowed;
      inside = inside;
      most = λ u m t. (against u m t).0;
      lowest = λ u m t. (against u m t).1;
    }
      where
        inside : T (has S best)
        inside = let e : vertex (2 * best) ≡ best = omega arith in subst (λ (x : ℕ). T (has S x)) e (b.inside (2 * best) alive)

        -- the score that the degrees give
        scored : (u : ℕ) → T (has S u) → score arcs S u ≡ get_or d (2 * u) 0 * get_or d (2 * u + 1) 0
        scored u t =
            unfold score in sym ((λ i. in_right arcs n S d b u t i * out_right arcs n S d b u t i) ∙ (λ i. into_half arcs S u i * out_half arcs S u i))

        against : (u : ℕ) → T (may u) → T (has S u) → (score arcs S u ≤ score arcs S best) × (score arcs S u ≡ score arcs S best → best ≤ u)
        against u l t = (omega (arith, below, case.0), λ e. case.1 (omega (arith, below)))
          where
            w : (k : ℕ) × In k K × T (eqb (id_of k) u)
            w = one_of (λ k. eqb (id_of k) u) K (omega (arith, q.there u l (all_live arcs n S d b u t)))

            k : ℕ
            k = w.0

            id : id_of k ≡ u
            id = eqb→eq (id_of k) u w.2

            x : Entry may d k
            x = q.sound k w.1

            o : ℕ
            o = x.arcs_out

            i : ℕ
            i = in_of k

            not_above : key (id_of k) i o ≤ key_now d best
            not_above = subst (λ (z : ℕ). z ≤ key_now d best) x.is (subst (λ (z : ℕ). k ≤ z) (sym agrees) (top_largest K q.heap k w.1))

            compared : (i * o < get_or d (2 * best) 0 * get_or d (2 * best + 1) 0) ⊎ ((i * o ≡ get_or d (2 * best) 0 * get_or d (2 * best + 1) 0) × (best ≤ id_of k))
            compared =
                key_le (id_of k) i o (q.ids (id_of k) x.allowed) (in_small k) best (get_or d (2 * best) 0) (get_or d (2 * best + 1) 0) (q.ids best top_allowed) (q.small (2 * best)) not_above

            below : score arcs S u ≤ i * o
            below =
                rw (scored u t)
                (mul-le-mul (subst (λ (z : ℕ). get_or d (2 * z) 0 ≤ i) id x.ins) (subst (λ (z : ℕ). get_or d (2 * z + 1) 0 ≤ o) id x.outs))

            case : (i * o ≤ score arcs S best) × (score arcs S best ≤ i * o → best ≤ u)
            case = at compared
              where
                at : (i * o < get_or d (2 * best) 0 * get_or d (2 * best + 1) 0) ⊎ ((i * o ≡ get_or d (2 * best) 0 * get_or d (2 * best + 1) 0) × (best ≤ id_of k))
                    → (i * o ≤ score arcs S best) × (score arcs S best ≤ i * o → best ≤ u)
                at (inl h) = (omega (arith, scored best inside), λ e. absurd (omega (arith, scored best inside)))
                at (inr h) = (omega (arith, scored best inside, h.0), λ e. omega (arith, h.1, id))

    -- while a node is live that may be chosen, a top that agrees is live too: the key of one that has gone has score 0
    pub top_alive : (v : ℕ) → T (may v) → 0 < get_or d (2 * v) 0 → 0 < get_or d (2 * v + 1) 0 → key_now d (id_of (get_or K 0 0)) ≡ get_or K 0 0 → 0 < get_or d (2 * id_of (get_or K 0 0)) 0
    top_alive v l i o agrees = pos_of (get_or d (2 * best) 0) (λ z. bad z compared)
      where
        w : (k : ℕ) × In k K × T (eqb (id_of k) v)
        w = one_of (λ k. eqb (id_of k) v) K (omega (arith, q.there v l i))

        k : ℕ
        k = w.0

        id : id_of k ≡ v
        id = eqb→eq (id_of k) v w.2

        x : Entry may d k
        x = q.sound k w.1

        not_above : key (id_of k) (in_of k) x.arcs_out ≤ key_now d best
        not_above = subst (λ (z : ℕ). z ≤ key_now d best) x.is (subst (λ (z : ℕ). k ≤ z) (sym agrees) (top_largest K q.heap k w.1))

        compared : (in_of k * x.arcs_out < get_or d (2 * best) 0 * get_or d (2 * best + 1) 0) ⊎ ((in_of k * x.arcs_out ≡ get_or d (2 * best) 0 * get_or d (2 * best + 1) 0) × (best ≤ id_of k))
        compared =
            key_le (id_of k) (in_of k) x.arcs_out (q.ids (id_of k) x.allowed) (in_small k) best (get_or d (2 * best) 0) (get_or d (2 * best + 1) 0) (q.ids best top_allowed) (q.small (2 * best)) not_above

        some_score : 0 < in_of k * x.arcs_out
        some_score = mul-pos (omega (arith, subst (λ (z : ℕ). get_or d (2 * z) 0 ≤ in_of k) id x.ins)) (omega (arith, subst (λ (z : ℕ). get_or d (2 * z + 1) 0 ≤ x.arcs_out) id x.outs))

        bad : get_or d (2 * best) 0 ≡ 0 → (in_of k * x.arcs_out < get_or d (2 * best) 0 * get_or d (2 * best + 1) 0) ⊎ ((in_of k * x.arcs_out ≡ get_or d (2 * best) 0 * get_or d (2 * best + 1) 0) × (best ≤ id_of k)) → ⊥
        bad z (inl h) = omega (arith, some_score, ap (λ (a : ℕ). a * get_or d (2 * best + 1) 0) z, zero-mul (get_or d (2 * best + 1) 0))
        bad z (inr h) = omega (arith, h.0, some_score, ap (λ (a : ℕ). a * get_or d (2 * best + 1) 0) z, zero-mul (get_or d (2 * best + 1) 0))

  -- while a node is live that may be chosen, the queue has an entry
  pub queue_some : (v : ℕ) → T (may v) → 0 < get_or d (2 * v) 0 → 0 < length K
  queue_some v l p = long K (one_of (λ k. eqb (id_of k) v) K (omega (arith, q.there v l p))).1
    where
      long : {k : ℕ} (L : List ℕ) → In k L → 0 < length L
      long [] m = absurd (Memᴰ.not-nil m)
      long (x ∷ L) m = omega arith

-- ---- making it

module _ (may : ℕ → Bool) (d : List ℕ) (few : (v : ℕ) → T (may v) → v < radix) (small : (y : ℕ) → get_or d y 0 < radix) where
  pub filling_start : Filling may d [] 0
  filling_start = record {
    few = omega arith;
    heap = λ i p l. absurd (omega arith);
    sound = λ x m. absurd (Memᴰ.not-nil m);
    exact = λ v. unfold total in sym (ap (λ (t : Bool). bump (t && (may v && not (eqb (get_or d (2 * v) 0) 0))) 0) (le-ltb v 0 (omega arith)));
  }

  -- below k, or below the next: the same but for k
  ltb_next : (u k : ℕ) → u ≢ k → ltb u (k + 1) ≡ ltb u k
  ltb_next u k f = go (dec_le k u)
    where
      go : Dec (k ≤ u) → ltb u (k + 1) ≡ ltb u k
      go (yes l) = le-ltb u (k + 1) (omega arith) ∙ sym (le-ltb u k l)
      go (no l) = lt-ltb u (k + 1) (omega (arith, lt_of_not-le l)) ∙ sym (lt-ltb u k (lt_of_not-le l))

  module _ (K : List ℕ) (k : ℕ) (f : Filling may d K k) where
    before : times_queued k K ≡ 0
    before = f.exact k ∙ ap (λ (t : Bool). bump (t && (may k && not (eqb (get_or d (2 * k) 0) 0))) 0) (le-ltb k k (omega arith))

    -- node k may not be chosen, or has gone: it gets no entry
    pub filling_gone : may k && not (eqb (get_or d (2 * k) 0) 0) ≡ false → Filling may d K (k + 1)
    filling_gone z = record {
      few = omega (arith, f.few);
      heap = f.heap;
      sound = f.sound;
      exact = λ v. go v (ℕ_discrete v k);
    }
      where
        go : (v : ℕ) → Dec (v ≡ k) → times_queued v K ≡ bump (ltb v (k + 1) && (may v && not (eqb (get_or d (2 * v) 0) 0))) 0
        go v (yes e) = rw e (before ∙ sym (λ i. bump (lt-ltb k (k + 1) (omega arith) i && z i) 0))
        go v (no n) = f.exact v ∙ ap (λ (t : Bool). bump (t && (may v && not (eqb (get_or d (2 * v) 0) 0))) 0) (sym (ltb_next v k n))

    -- node k is live: it gets one
    pub filling_push : (X : List ℕ) → T (may k) → 0 < get_or d (2 * k) 0 → Pushed K X (key_now d k) → Filling may d X (k + 1)
    filling_push X low p s = record {
      few = omega (arith, f.few, s.long);
      heap = λ i a l. s.heap i a (omega (arith, s.long));
      sound = λ x m. sound x (pushed_from K X (key_now d k) s x m);
      exact = λ v. s.moved (λ x. bump (eqb (id_of x) v) 0) ∙ go v (ℕ_discrete v k);
    }
      where
        sound : (x : ℕ) → (x ≡ key_now d k) ⊎ In x K → Entry may d x
        sound x (inl e) = subst (Entry may d) (sym e) (now_entry may d k few small low)
        sound x (inr m) = f.sound x m

        id : id_of (key_now d k) ≡ k
        id = now_id may d k few small low

        go : (v : ℕ) → Dec (v ≡ k) → times_queued v K + bump (eqb (id_of (key_now d k)) v) 0 ≡ bump (ltb v (k + 1) && (may v && not (eqb (get_or d (2 * v) 0) 0))) 0
        go v (yes e) =
            rw e (omega (arith, before, ap (λ (t : Bool). bump t 0) (eq-eqb (id_of (key_now d k)) k id), after))
          where
            after : bump (ltb k (k + 1) && (may k && not (eqb (get_or d (2 * k) 0) 0))) 0 ≡ 1
            after = λ i. bump (lt-ltb k (k + 1) (omega arith) i && (is_true (may k) low i && not (ne_eqb (get_or d (2 * k) 0) 0 (λ z. omega arith) i))) 0
        go v (no n) =
            omega (
              arith,
              f.exact v,
              ap (λ (t : Bool). bump (t && (may v && not (eqb (get_or d (2 * v) 0) 0))) 0) (ltb_next v k n),
              ap (λ (t : Bool). bump t 0) (ne_eqb (id_of (key_now d k)) v (λ e. n (sym (sym id ∙ e)))),
            )

  pub filling_done : (K : List ℕ) (n : ℕ) → ((v : ℕ) → T (may v) → v < n) → Filling may d K n → Queued may d K
  filling_done K n all f = record {
    ids = few;
    small = small;
    heap = f.heap;
    sound = f.sound;
    once = λ v. rw (f.exact v) (bump_one (ltb v n && (may v && not (eqb (get_or d (2 * v) 0) 0))));
    there = λ v l p. f.exact v ∙ (λ i. bump (lt-ltb v n (all v l) i && (is_true (may v) l i && not (ne_eqb (get_or d (2 * v) 0) 0 (λ z. omega arith) i))) 0);
  }
    where
      bump_one : (t : Bool) → bump t 0 ≤ 1
      bump_one true = omega arith
      bump_one false = omega arith
