-- One vertex leaves S: the first that waits, or one that is chosen. What is then to be lowered is its lists, before what was still to be lowered; and what holds when nothing waits.
-- Assumes nothing.
use mathlib.Core.Path.{◌≡◌, refl, sym, ap, ◌∙◌, subst}
use mathlib.Core.Bool.{Bool, true, false, ◌&&◌}
use mathlib.Core.List.Memᴰ
use mathlib.Core.List.{List, [], ◌∷◌, ◌++◌}
use mathlib.Core.Logic.{◌≢◌}
use Prim.Native.Nat.{ℕ, suc, ◌+◌, ◌*◌, ◌%◌, ◌<◌}
use native.Mathlib.Decide.{ℕ_discrete}
use native.Mathlib.Omega.{arith}
use lib.Dec.{T, eqb}
use lib.ListN.{get_or, set, length-set}
use lib.Seq.{get_or-set_same, get_or-set_other}
use borrow.Author.Tests.{eq-eqb, ne_eqb, eqb-true}
use Rattle.choice.specs.Arcs.{Arc, bump, how_many, Set, has, without, Stable}
use Rattle.choice.proofs.Sets.{and_left, and_right, gone, stays, size_without, has_lt}
use Rattle.choice.proofs.Degrees.{is_true}
use Rattle.halves.specs.Halves.{vertex, mate, within, joins, times, waits, Listed, drop_both, Between}
use Rattle.halves.proofs.Lists.{count_cons, count_append, pos_of, live_gone}
use Rattle.halves.proofs.Sides.{within_without, within_less, idle_takes, joins_other, into_half, out_half}

pub bump_true : (t : Bool) → 0 < bump t 0 → T t
bump_true true l = tt
bump_true false l = omega arith

pub has_without : (x u : ℕ) (S : Set) → u ≢ x → has (without x S) u ≡ has S u
has_without x u S n = get_or-set_other S x u false false n

-- has no x after it left
pub not_in : (x : ℕ) (S : Set) (t : Bool) → bump (has (without x S) x && t) 0 ≡ 0
not_in x S t = go (has (without x S) x) (gone x S)
  where
    go : (a : Bool) → (T a → ⊥) → bump (a && t) 0 ≡ 0
    go true k = absurd (k tt)
    go false k = refl

pub nil_times : (z : ℕ) → times z [] ≡ 0
unfolding how_many
nil_times z = refl

module _ (arcs : List Arc) (n : ℕ) (lists : ℕ → List ℕ) (listed : Listed arcs n lists) where
  -- ---- the first that waits

  module _ (S : Set) (d q : List ℕ) (y : ℕ) (ts : List ℕ) (b : Between arcs n S d (y ∷ q) ts) where
    waiting_there : T (has S (vertex y) && eqb (get_or d (2 * vertex y) 0) 0)
    waiting_there =
        bump_true (has S (vertex y) && eqb (get_or d (2 * vertex y) 0) 0)
        (omega (arith, b.once (vertex y), here))
      where
        here : waits (vertex y) (y ∷ q) ≡ suc (waits (vertex y) q)
        here = count_cons (λ z. eqb (vertex z) (vertex y)) y q ∙ ap (λ (t : Bool). bump t (waits (vertex y) q)) (eq-eqb (vertex y) (vertex y) refl)

    pub waiting_in : T (has S (vertex y))
    waiting_in = and_left (has S (vertex y)) (eqb (get_or d (2 * vertex y) 0) 0) waiting_there

    pub waiting_low : y < 2 * n
    waiting_low = omega (arith, has_lt S (vertex y) waiting_in, b.set_long)

    waiting_gone : (z : ℕ) → vertex z ≡ vertex y → get_or d z 0 ≡ 0
    waiting_gone z e = go (ℕ_discrete z (2 * vertex y))
      where
        k : get_or d (2 * vertex y) 0 ≡ 0
        k = eqb-true (get_or d (2 * vertex y) 0) 0 (is_true (eqb (get_or d (2 * vertex y) 0) 0) (and_right (has S (vertex y)) (eqb (get_or d (2 * vertex y) 0) 0) waiting_there))

        go : Dec (z ≡ 2 * vertex y) → get_or d z 0 ≡ 0
        go (yes f) = ap (λ (k : ℕ). get_or d k 0) f ∙ k
        go (no f) = let g : z ≡ mate (2 * vertex y) = omega arith in ap (λ (k : ℕ). get_or d k 0) g ∙ b.paired (2 * vertex y) k

    -- it leaves S, and its half's list is to be lowered, before what was
    pub waiting_leaves : Between arcs n (without (vertex y) S) d q (lists y ++ ts)
    waiting_leaves = record {
      long = b.long;
      set_long = length-set S x false ∙ b.set_long;
      paired = b.paired;
      inside = λ z p. stays x S (vertex z) (away z p) (b.inside z p);
      right = λ z p. b.right z p ∙ omega (arith, count_append (λ t. eqb t z) (lists y) ts, idle_takes arcs S y z waiting_in (b.inside z p) (b.idle y (Memᴰ.head refl)), listed.right y z waiting_low);
      once = λ u. once u (ℕ_discrete u x);
      idle = λ z m. omega (arith, within_less arcs S x waiting_in z, b.idle z (Memᴰ.tail m));
      number = omega (arith, b.number, size_without x S waiting_in);
    }
      where
        x : ℕ
        x = vertex y

        away : (z : ℕ) → 0 < get_or d z 0 → vertex z ≢ x
        away z p e = omega (arith, waiting_gone z e)

        once : (u : ℕ) → Dec (u ≡ x) → waits u q ≡ bump (has (without x S) u && eqb (get_or d (2 * u) 0) 0) 0
        once u (yes f) = rw f (sym (not_in x S (eqb (get_or d (2 * x) 0) 0) ∙ sym none))
          where
            one : suc (waits x q) ≡ bump (has S x && eqb (get_or d (2 * x) 0) 0) 0
            one = sym (count_cons (λ z. eqb (vertex z) x) y q ∙ ap (λ (t : Bool). bump t (waits x q)) (eq-eqb (vertex y) x refl)) ∙ b.once x

            none : waits x q ≡ 0
            none = omega (arith, one ∙ ap (λ (t : Bool). bump t 0) (is_true (has S x && eqb (get_or d (2 * x) 0) 0) waiting_there))
        once u (no f) =
            sym (count_cons (λ z. eqb (vertex z) u) y q ∙ ap (λ (t : Bool). bump t (waits u q)) (ne_eqb (vertex y) u (λ g. f (sym g)))) ∙ b.once u
            ∙ ap (λ (t : Bool). bump (t && eqb (get_or d (2 * u) 0) 0) 0) (sym (has_without x u S f))

  -- ---- one that is chosen

  module _ (S : Set) (d q : List ℕ) (x : ℕ) (low : x < n) (alive : 0 < get_or d (2 * x) 0) (b : Between arcs n S d q []) where
    chosen_in : T (has S x)
    chosen_in = let e : vertex (2 * x) ≡ x = omega arith in subst (λ (k : ℕ). T (has S k)) e (b.inside (2 * x) alive)

    -- both its halves are set to 0, and both its lists are to be lowered
    pub chosen_leaves : Between arcs n (without x S) (drop_both x d) q (lists (2 * x) ++ lists (2 * x + 1))
    chosen_leaves = record {
      long = unfold drop_both in (length-set (set d (2 * x) 0) (2 * x + 1) 0 ∙ length-set d (2 * x) 0 ∙ b.long);
      set_long = length-set S x false ∙ b.set_long;
      paired = λ z. paired z (ℕ_discrete (vertex z) x);
      inside = λ z p. stays x S (vertex z) (away z p) (b.inside z (was z p));
      right = λ z p. right z p;
      once = λ u. once u (ℕ_discrete u x);
      idle = λ z m. omega (arith, within_less arcs S x chosen_in z, b.idle z m);
      number = omega (arith, b.number, size_without x S chosen_in, live_gone n d e x low alive gone_in_lem (λ u k. other (2 * u) (λ f. k (omega arith))));
    }
      where
        e : List ℕ
        e = drop_both x d

        other : (z : ℕ) → vertex z ≢ x → get_or e z 0 ≡ get_or d z 0
        other z p = unfold drop_both in (get_or-set_other (set d (2 * x) 0) (2 * x + 1) z 0 0 (λ f. p (omega arith)) ∙ get_or-set_other d (2 * x) z 0 0 (λ f. p (omega arith)))

        gone_in_lem : get_or e (2 * x) 0 ≡ 0
        gone_in_lem = unfold drop_both in (get_or-set_other (set d (2 * x) 0) (2 * x + 1) (2 * x) 0 0 (λ f. omega arith) ∙ get_or-set_same d (2 * x) 0 0 (omega (arith, b.long)))

        gone_out : get_or e (2 * x + 1) 0 ≡ 0
        gone_out = unfold drop_both in get_or-set_same (set d (2 * x) 0) (2 * x + 1) 0 0 (rw length-set (omega (arith, b.long)))

        none : (z : ℕ) → vertex z ≡ x → get_or e z 0 ≡ 0
        none z p = go (ℕ_discrete z (2 * x))
          where
            go : Dec (z ≡ 2 * x) → get_or e z 0 ≡ 0
            go (yes f) = ap (λ (k : ℕ). get_or e k 0) f ∙ gone_in_lem
            go (no f) = let g : z ≡ 2 * x + 1 = omega arith in ap (λ (k : ℕ). get_or e k 0) g ∙ gone_out

        away : (z : ℕ) → 0 < get_or e z 0 → vertex z ≢ x
        away z p f = omega (arith, none z f)

        was : (z : ℕ) → 0 < get_or e z 0 → 0 < get_or d z 0
        was z p = omega (arith, other z (away z p))

        paired : (z : ℕ) → Dec (vertex z ≡ x) → get_or e z 0 ≡ 0 → get_or e (mate z) 0 ≡ 0
        paired z (yes f) p = none (mate z) (omega arith)
        paired z (no f) p = other (mate z) (λ g. f (omega arith)) ∙ b.paired z (sym (other z f) ∙ p)

        -- of x's two lists the one on z's side takes from z
        both : (z : ℕ) → within arcs S z ≡ within arcs (without x S) z + (joins arcs (2 * x) z + joins arcs (2 * x + 1) z)
        both z = go (ℕ_discrete (z % 2) 0)
          where
            go : Dec (z % 2 ≡ 0) → within arcs S z ≡ within arcs (without x S) z + (joins arcs (2 * x) z + joins arcs (2 * x + 1) z)
            go (yes f) = omega (arith, within_without arcs S x chosen_in (2 * x) z (omega arith) (omega arith), joins_other arcs (2 * x + 1) z (λ g. omega arith))
            go (no f) = omega (arith, within_without arcs S x chosen_in (2 * x + 1) z (omega arith) (omega arith), joins_other arcs (2 * x) z (λ g. omega arith))

        right : (z : ℕ) → 0 < get_or e z 0 → get_or e z 0 ≡ within arcs (without x S) z + times z (lists (2 * x) ++ lists (2 * x + 1))
        right z p =
            omega (
              arith,
              other z (away z p),
              b.right z (was z p),
              nil_times z,
              both z,
              count_append (λ t. eqb t z) (lists (2 * x)) (lists (2 * x + 1)),
              listed.right (2 * x) z (omega arith),
              listed.right (2 * x + 1) z (omega arith),
            )

        once : (u : ℕ) → Dec (u ≡ x) → waits u q ≡ bump (has (without x S) u && eqb (get_or e (2 * u) 0) 0) 0
        once u (yes f) = rw f (b.once x ∙ none_before ∙ sym (not_in x S (eqb (get_or e (2 * x) 0) 0)))
          where
            and_false : (a : Bool) → bump (a && false) 0 ≡ 0
            and_false true = refl
            and_false false = refl

            none_before : bump (has S x && eqb (get_or d (2 * x) 0) 0) 0 ≡ 0
            none_before = ap (λ (t : Bool). bump (has S x && t) 0) (ne_eqb (get_or d (2 * x) 0) 0 (λ k. omega arith)) ∙ and_false (has S x)
        once u (no f) =
            b.once u
            ∙ (λ i. bump (sym (has_without x u S f) i && eqb (sym (other (2 * u) (λ g. f (omega arith))) i) 0) 0)

-- ---- nothing waits

module _ (arcs : List Arc) (n : ℕ) (S : Set) (d : List ℕ) {ts : List ℕ} (b : Between arcs n S d [] ts) where
  -- whoever is in S is live
  pub all_live : (x : ℕ) → T (has S x) → 0 < get_or d (2 * x) 0
  unfolding how_many
  all_live x t = pos_of (get_or d (2 * x) 0) (λ k. bad (has S x) t (eqb (get_or d (2 * x) 0) 0) (eq-eqb (get_or d (2 * x) 0) 0 k) (b.once x))
    where
      bad : (a : Bool) → T a → (c : Bool) → c ≡ true → 0 ≡ bump (a && c) 0 → ⊥
      bad true s true e f = omega arith
      bad true s false e f = let z : bump true 0 ≡ bump false 0 = ap (λ (t : Bool). bump t 0) (sym e) in omega arith
      bad false s c e f = s

  pub all_live_out : (x : ℕ) → T (has S x) → 0 < get_or d (2 * x + 1) 0
  all_live_out x t =
      pos_of (get_or d (2 * x + 1) 0)
      (λ k. let e : mate (2 * x + 1) ≡ 2 * x = omega arith in omega (arith, all_live x t, ap (λ (k : ℕ). get_or d k 0) e, b.paired (2 * x + 1) k))

-- and nothing is to be lowered
module _ (arcs : List Arc) (n : ℕ) (S : Set) (d : List ℕ) (b : Between arcs n S d [] []) where
  pub in_right : (x : ℕ) → T (has S x) → get_or d (2 * x) 0 ≡ within arcs S (2 * x)
  in_right x t = omega (arith, b.right (2 * x) (all_live arcs n S d b x t), nil_times (2 * x))

  pub out_right : (x : ℕ) → T (has S x) → get_or d (2 * x + 1) 0 ≡ within arcs S (2 * x + 1)
  out_right x t = omega (arith, b.right (2 * x + 1) (all_live_out arcs n S d b x t), nil_times (2 * x + 1))

  -- so each has an arc in and an arc out within S
  pub all_stable : Stable arcs S
  all_stable x t = (
    omega (arith, all_live arcs n S d b x t, in_right x t, into_half arcs S x),
    omega (arith, all_live_out arcs n S d b x t, out_right x t, out_half arcs S x),
  )
