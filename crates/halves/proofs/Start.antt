-- The start: each vertex with a half that has nothing waits, and the invariant holds of all vertices, whatever is still to be lowered.
-- Assumes nothing.
use mathlib.Core.Path.{◌≡◌, refl, sym, ap, ◌∙◌, subst}
use mathlib.Core.Bool.{Bool, true, false, ◌&&◌, cond, not}
use mathlib.Core.List.Memᴰ
use mathlib.Core.List.{List, [], ◌∷◌, ◌++◌}
use mathlib.Core.Logic.{◌≢◌, ◌⊎◌, inl, inr}
use Prim.Native.Nat.{ℕ, zero, suc, ◌+◌, ◌*◌, ◌≤◌, ◌<◌}
use native.Mathlib.Decide.{ℕ_discrete, dec_le}
use native.Mathlib.Nat.{lt_of_not-le}
use native.Mathlib.Omega.{arith}
use lib.Dec.{T, eqb, ltb}
use lib.ListN.{length, get_or, set, length-set, length-replicate, get_or-replicate}
use lib.Seq.{get_or-set_same, get_or-set_other}
use borrow.Author.Tests.{eq-eqb, ne_eqb, eqb-true, eqb-false, lt-ltb, le-ltb}
use Rattle.choice.specs.Arcs.{Arc, In, bump, how_many, Set, has, vertices, without, size, passing}
use Rattle.choice.proofs.Sets.{has_passing, size_vertices, size_without, gone}
use Rattle.choice.proofs.Degrees.{is_true}
use Rattle.halves.specs.Halves.{vertex, mate, within, times, waits, live, Halves, seed, seed_to, Between, Seeding}
use Rattle.halves.proofs.Lists.{count_cons, count_append, count_one, pos_of}
use Rattle.halves.proofs.Leaving.{bump_true, has_without}

-- ---- a list in which each vertex of a set waits once is as long as the set is large

none_in : (S : Set) → ((x : ℕ) → bump (has S x) 0 ≡ 0) → size S ≡ 0
unfolding size how_many
none_in [] k = refl
none_in (true ∷ S) k = absurd (let z : bump true 0 ≡ 0 = k 0 in omega arith)
none_in (false ∷ S) k = none_in S (λ x. k (suc x))

nil_waits : (x : ℕ) → waits x [] ≡ 0
unfolding how_many
nil_waits x = refl

pub as_many : (q : List ℕ) (U : Set) → ((x : ℕ) → waits x q ≡ bump (has U x) 0) → length q ≡ size U
as_many [] U h = sym (none_in U (λ x. sym (h x) ∙ nil_waits x))
as_many (y ∷ q) U h = omega (arith, as_many q (without x U) fewer, size_without x U here)
  where
    x : ℕ
    x = vertex y

    more : waits x (y ∷ q) ≡ suc (waits x q)
    more = count_cons (λ z. eqb (vertex z) x) y q ∙ ap (λ (t : Bool). bump t (waits x q)) (eq-eqb (vertex y) x refl)

    here : T (has U x)
    here = bump_true (has U x) (omega (arith, h x, more))

    fewer : (u : ℕ) → waits u q ≡ bump (has (without x U) u) 0
    fewer u = go (ℕ_discrete u x)
      where
        go : Dec (u ≡ x) → waits u q ≡ bump (has (without x U) u) 0
        go (yes f) = rw f (last ∙ sym (none (has (without x U) x) (gone x U)))
          where
            last : waits x q ≡ 0
            last = omega (arith, h x, more, ap (λ (t : Bool). bump t 0) (is_true (has U x) here))

            none : (a : Bool) → (T a → ⊥) → bump a 0 ≡ 0
            none true k = absurd (k tt)
            none false k = refl
        go (no f) =
            sym (count_cons (λ z. eqb (vertex z) u) y q ∙ ap (λ (t : Bool). bump t (waits u q)) (ne_eqb (vertex y) u (λ g. f (sym g)))) ∙ h u
            ∙ ap (λ (t : Bool). bump t 0) (sym (has_without x u U f))

-- what passes a test and what does not
two_parts : (p : ℕ → Bool) (S : Set) → size (passing p S) + size (passing (λ x. not (p x)) S) ≡ size S
unfolding size how_many passing
two_parts p [] = refl
two_parts p (b ∷ S) = go b (p zero) (two_parts (λ v. p (suc v)) S)
  where
    l : ℕ
    l = size (passing (λ v. p (suc v)) S)

    r : ℕ
    r = size (passing (λ v. not (p (suc v))) S)

    go : (a c : Bool) → l + r ≡ size S → bump (a && c) l + bump (a && not c) r ≡ bump a (size S)
    go true true e = omega arith
    go true false e = omega arith
    go false c e = e

-- past the end there is nothing
get_d_past : (d : List ℕ) (y : ℕ) → length d ≤ y → get_or d y 0 ≡ 0
get_d_past [] y l = refl
get_d_past (x ∷ d) zero l = absurd (omega arith)
get_d_past (x ∷ d) (suc y) l = get_d_past d y (omega arith)

module _ (arcs : List Arc) (n : ℕ) (ts : List ℕ) where
  -- ---- no vertex is seeded yet

  pub seeding_start : (d : List ℕ) → length d ≡ 2 * n → ((y : ℕ) → y < 2 * n → get_or d y 0 ≡ within arcs (vertices n) y + times y ts) → Seeding arcs n ts 0 d []
  seeding_start d e h = record {
    long = e;
    paired = λ y l. absurd (omega arith);
    right = λ y p. h y (low y p);
    fresh = λ y l low. h y low;
    once = λ x. nil_waits x ∙ sym (ap (λ (t : Bool). bump (t && eqb (get_or d (2 * x) 0) 0) 0) (le-ltb x 0 (omega arith)));
    idle = λ y m. absurd (Memᴰ.not-nil m);
  }
    where
      low : (y : ℕ) → 0 < get_or d y 0 → y < 2 * n
      low y p = go (dec_le (2 * n) y)
        where
          go : Dec (2 * n ≤ y) → y < 2 * n
          go (yes l) = absurd (let z : 0 < 0 = subst (λ (k : ℕ). 0 < k) (get_d_past d y (omega arith)) p in omega arith)
          go (no l) = lt_of_not-le l

  -- ---- one vertex more

  -- below k, or below the next: the same but for k
  ltb_next : (u k : ℕ) → u ≢ k → ltb u (suc k) ≡ ltb u k
  ltb_next u k f = go (dec_le k u)
    where
      go : Dec (k ≤ u) → ltb u (suc k) ≡ ltb u k
      go (yes l) = le-ltb u (suc k) (omega arith) ∙ sym (le-ltb u k l)
      go (no l) = lt-ltb u (suc k) (omega (arith, lt_of_not-le l)) ∙ sym (lt-ltb u k (lt_of_not-le l))

  module _ (k : ℕ) (d q : List ℕ) (low : k < n) (b : Seeding arcs n ts k d q) where
    seed_live : 0 < get_or d (2 * k) 0 → 0 < get_or d (2 * k + 1) 0 → Seeding arcs n ts (suc k) d q
    seed_live i o = record {
      long = b.long;
      paired = λ y l e. paired y e (ℕ_discrete (vertex y) k) l;
      right = b.right;
      fresh = λ y l. b.fresh y (omega arith);
      once = λ x. b.once x ∙ once x (ℕ_discrete x k);
      idle = b.idle;
    }
      where
        paired : (y : ℕ) → get_or d y 0 ≡ 0 → Dec (vertex y ≡ k) → vertex y < suc k → get_or d (mate y) 0 ≡ 0
        paired y e (yes f) l = go (ℕ_discrete y (2 * k))
          where
            go : Dec (y ≡ 2 * k) → get_or d (mate y) 0 ≡ 0
            go (yes g) = absurd (omega (arith, ap (λ (z : ℕ). get_or d z 0) g))
            go (no g) = let w : y ≡ 2 * k + 1 = omega arith in absurd (omega (arith, ap (λ (z : ℕ). get_or d z 0) w))
        paired y e (no f) l = b.paired y (omega arith) e

        once : (x : ℕ) → Dec (x ≡ k) → bump (ltb x k && eqb (get_or d (2 * x) 0) 0) 0 ≡ bump (ltb x (suc k) && eqb (get_or d (2 * x) 0) 0) 0
        once x (yes f) = rw f (ap (λ (t : Bool). bump (t && eqb (get_or d (2 * k) 0) 0) 0) (le-ltb k k (omega arith)) ∙ sym (λ j. bump (lt-ltb k (suc k) (omega arith) j && ne_eqb (get_or d (2 * k) 0) 0 (λ g. omega arith) j) 0))
        once x (no f) = ap (λ (t : Bool). bump (t && eqb (get_or d (2 * x) 0) 0) 0) (sym (ltb_next x k f))

    -- half y of vertex k has nothing
    seed_gone : (y : ℕ) → vertex y ≡ k → get_or d y 0 ≡ 0 → Seeding arcs n ts (suc k) (set d (mate y) 0) (q ++ (y ∷ []))
    seed_gone y v z = record {
      long = length-set d (mate y) 0 ∙ b.long;
      paired = λ x l p. paired x l p (ℕ_discrete (vertex x) k);
      right = λ x p. other x (λ f. omega (arith, none x (omega arith))) ∙ b.right x (omega (arith, other x (λ f. omega (arith, none x (omega arith)))));
      fresh = λ x l w. other x (λ f. omega arith) ∙ b.fresh x (omega arith) w;
      once = λ u. once u (ℕ_discrete u k);
      idle = λ x m. idle x (Memᴰ.append_cases q m);
    }
      where
        e : List ℕ
        e = set d (mate y) 0

        other : (x : ℕ) → x ≢ mate y → get_or e x 0 ≡ get_or d x 0
        other x f = get_or-set_other d (mate y) x 0 0 f

        here : get_or e (mate y) 0 ≡ 0
        here = get_or-set_same d (mate y) 0 0 (omega (arith, b.long))

        none : (x : ℕ) → vertex x ≡ k → get_or e x 0 ≡ 0
        none x p = go (ℕ_discrete x y)
          where
            go : Dec (x ≡ y) → get_or e x 0 ≡ 0
            go (yes f) = other x (λ g. omega arith) ∙ ap (λ (i : ℕ). get_or d i 0) f ∙ z
            go (no f) = let g : x ≡ mate y = omega arith in ap (λ (i : ℕ). get_or e i 0) g ∙ here

        paired : (x : ℕ) → vertex x < suc k → get_or e x 0 ≡ 0 → Dec (vertex x ≡ k) → get_or e (mate x) 0 ≡ 0
        paired x l p (yes f) = none (mate x) (omega arith)
        paired x l p (no f) = other (mate x) (λ g. f (omega arith)) ∙ b.paired x (omega arith) (sym (other x (λ g. f (omega arith))) ∙ p)

        once : (u : ℕ) → Dec (u ≡ k) → waits u (q ++ (y ∷ [])) ≡ bump (ltb u (suc k) && eqb (get_or e (2 * u) 0) 0) 0
        once u (yes f) = rw f (count_append (λ x. eqb (vertex x) k) q (y ∷ []) ∙ one)
          where
            before : waits k q ≡ 0
            before = b.once k ∙ ap (λ (t : Bool). bump (t && eqb (get_or d (2 * k) 0) 0) 0) (le-ltb k k (omega arith))

            last : waits k (y ∷ []) ≡ 1
            last = count_one (λ x. eqb (vertex x) k) y ∙ ap (λ (t : Bool). bump t 0) (eq-eqb (vertex y) k v)

            after : bump (ltb k (suc k) && eqb (get_or e (2 * k) 0) 0) 0 ≡ 1
            after = λ j. bump (lt-ltb k (suc k) (omega arith) j && eq-eqb (get_or e (2 * k) 0) 0 (none (2 * k) (omega arith)) j) 0

            one : waits k q + waits k (y ∷ []) ≡ bump (ltb k (suc k) && eqb (get_or e (2 * k) 0) 0) 0
            one = omega (arith, before, last, after)
        once u (no f) = count_append (λ x. eqb (vertex x) u) q (y ∷ []) ∙ omega (arith, b.once u, last, same)
          where
            last : waits u (y ∷ []) ≡ 0
            last = count_one (λ x. eqb (vertex x) u) y ∙ ap (λ (t : Bool). bump t 0) (ne_eqb (vertex y) u (λ g. f (omega arith)))

            same : bump (ltb u (suc k) && eqb (get_or e (2 * u) 0) 0) 0 ≡ bump (ltb u k && eqb (get_or d (2 * u) 0) 0) 0
            same = λ j. bump (ltb_next u k f j && eqb (other (2 * u) (λ g. f (omega arith)) j) 0) 0

        idle : (x : ℕ) → In x q ⊎ In x (y ∷ []) → within arcs (vertices n) x ≡ 0
        idle x (inl m) = b.idle x m
        idle x (inr m) = ap (within arcs (vertices n)) (Memᴰ.eq_of_singleton m) ∙ omega (arith, b.fresh y (omega arith) (omega arith), z)

  pub seed_turn : (k : ℕ) (h : Halves) → k < n → Seeding arcs n ts k h.degrees h.waiting → Seeding arcs n ts (suc k) (seed k h).degrees (seed k h).waiting
  unfolding seed
  seed_turn k h low b = go (eqb (get_or d (2 * k) 0) 0) refl (eqb (get_or d (2 * k + 1) 0) 0) refl
    where
      d : List ℕ
      d = h.degrees

      up : mate (2 * k) ≡ 2 * k + 1
      up = omega arith

      down : mate (2 * k + 1) ≡ 2 * k
      down = omega arith

      after : Bool → Bool → Halves
      after i o =
          cond i (record { degrees = set d (2 * k + 1) 0; waiting = h.waiting ++ ((2 * k) ∷ []) })
          (cond o (record { degrees = set d (2 * k) 0; waiting = h.waiting ++ ((2 * k + 1) ∷ []) }) h)

      go : (i : Bool) → eqb (get_or d (2 * k) 0) 0 ≡ i → (o : Bool) → eqb (get_or d (2 * k + 1) 0) 0 ≡ o → Seeding arcs n ts (suc k) (after i o).degrees (after i o).waiting
      go true e o f =
          subst (λ (z : ℕ). Seeding arcs n ts (suc k) (set d z 0) (h.waiting ++ ((2 * k) ∷ []))) up
          (seed_gone k d h.waiting low b (2 * k) (omega arith) (eqb-true (get_or d (2 * k) 0) 0 e))
      go false e true f =
          subst (λ (z : ℕ). Seeding arcs n ts (suc k) (set d z 0) (h.waiting ++ ((2 * k + 1) ∷ []))) down
          (seed_gone k d h.waiting low b (2 * k + 1) (omega arith) (eqb-true (get_or d (2 * k + 1) 0) 0 f))
      go false e false f =
          seed_live k d h.waiting low b (pos_of (get_or d (2 * k) 0) (eqb-false (get_or d (2 * k) 0) 0 e)) (pos_of (get_or d (2 * k + 1) 0) (eqb-false (get_or d (2 * k + 1) 0) 0 f))

  -- ---- all vertices are seeded

  pub seeding_done : (d q : List ℕ) → Seeding arcs n ts n d q → Between arcs n (vertices n) d q ts
  seeding_done d q b = record {
    long = b.long;
    set_long = length-replicate n true;
    paired = λ y. paired y (dec_le (2 * n) y);
    inside = λ y p. subst T (sym (get_or-replicate n (vertex y) true false (omega (arith, low y p)))) tt;
    right = b.right;
    once = once;
    idle = b.idle;
    number = omega (arith, as_many q (passing bare (vertices n)) (λ x. once x ∙ ap (λ (t : Bool). bump t 0) (sym (has_passing bare (vertices n) x))), parts, size_vertices n);
  }
    where
      bare : ℕ → Bool
      bare x = eqb (get_or d (2 * x) 0) 0

      low : (y : ℕ) → 0 < get_or d y 0 → y < 2 * n
      low y p = go (dec_le (2 * n) y)
        where
          go : Dec (2 * n ≤ y) → y < 2 * n
          go (yes l) = absurd (let z : 0 < 0 = subst (λ (k : ℕ). 0 < k) (get_d_past d y (omega (arith, b.long))) p in omega arith)
          go (no l) = lt_of_not-le l

      paired : (y : ℕ) → Dec (2 * n ≤ y) → get_or d y 0 ≡ 0 → get_or d (mate y) 0 ≡ 0
      paired y (yes l) e = get_d_past d (mate y) (omega (arith, b.long))
      paired y (no l) e = b.paired y (omega (arith, lt_of_not-le l)) e

      once : (x : ℕ) → waits x q ≡ bump (has (vertices n) x && eqb (get_or d (2 * x) 0) 0) 0
      once x = b.once x ∙ ap (λ (t : Bool). bump (t && eqb (get_or d (2 * x) 0) 0) 0) (go (dec_le n x))
        where
          go : Dec (n ≤ x) → ltb x n ≡ has (vertices n) x
          go (yes l) = le-ltb x n l ∙ sym (past n x l)
            where
              past : (m u : ℕ) → m ≤ u → has (vertices m) u ≡ false
              past zero u k = refl
              past (suc m) zero k = absurd (omega arith)
              past (suc m) (suc u) k = past m u (omega arith)
          go (no l) = lt-ltb x n (lt_of_not-le l) ∙ sym (get_or-replicate n x true false (lt_of_not-le l))

      parts : size (passing bare (vertices n)) + size (live n d) ≡ size (vertices n)
      parts = unfold live in two_parts bare (vertices n)

  -- ---- all of it, as the model does

  pub seeded : (k : ℕ) (h : Halves) → k ≤ n → Seeding arcs n ts 0 h.degrees h.waiting → Seeding arcs n ts k (seed_to k h).degrees (seed_to k h).waiting
  unfolding seed_to
  seeded zero h l b = b
  seeded (suc k) h l b = seed_turn k (seed_to k h) l (seeded k h (omega arith) b)
