-- One lowered arc, and a list of them: the invariant holds again, with one half less to be lowered.
-- Assumes nothing.
use mathlib.Core.Path.{◌≡◌, refl, sym, ap, ◌∙◌, subst}
use mathlib.Core.Bool.{Bool, true, false, ◌&&◌, cond}
use mathlib.Core.List.Memᴰ
use mathlib.Core.List.{List, [], ◌∷◌, ◌++◌}
use mathlib.Core.Logic.{◌≢◌, ◌⊎◌, inl, inr}
use Prim.Native.Nat.{ℕ, ◌+◌, ◌-◌, ◌*◌, ◌<◌}
use native.Mathlib.Decide.{ℕ_discrete}
use native.Mathlib.Omega.{arith}
use lib.Dec.{eqb}
use lib.ListN.{length, get_or, set, drop, length-set, length-append}
use lib.Seq.{drop-append-le}
use borrow.Author.Tests.{eq-eqb, ne_eqb, eqb-true, eqb-false}
use Rattle.choice.specs.Arcs.{Arc, In, bump, Set, has, size}
use Rattle.choice.proofs.Degrees.{is_true}
use Rattle.halves.specs.Halves.{vertex, mate, within, times, waits, Halves, lower, lower_all, Between, Ready}
use Rattle.halves.proofs.Lists.{count_append, count_one, times_here, times_other, pos_of, live_same}
use Rattle.halves.proofs.Marks.{keeps_here, keeps_other, keeps_zero, keeps_back, keeps_same, goes_other, goes_none, goes_paired, goes_full, goes_live}

module _ (arcs : List Arc) (n : ℕ) (S : Set) (d q : List ℕ) (y : ℕ) (ts : List ℕ) (low : y < 2 * n) (b : Between arcs n S d q (y ∷ ts)) where
  -- half y does not run out: it has one less, or has none before and after
  stays_on : get_or d y 0 ≢ 1 → Between arcs n S (set d y (get_or d y 0 - 1)) q ts
  stays_on more = record {
    long = length-set d y (get_or d y 0 - 1) ∙ b.long;
    set_long = b.set_long;
    paired = λ z p. keeps_zero n d y low b.long (mate z) (b.paired z (keeps_back n d y low b.long more z p));
    inside = λ z p. b.inside z (pos_of (get_or d z 0) (λ q. omega (arith, keeps_zero n d y low b.long z q)));
    right = λ z. right z (ℕ_discrete z y);
    once = λ x. b.once x ∙ ap (λ (t : Bool). bump (has S x && t) 0) (sym (same (2 * x)));
    idle = b.idle;
    number = ap (λ (U : Set). length q + size U) (live_same n e d (λ x. same (2 * x))) ∙ b.number;
  }
    where
      e : List ℕ
      e = set d y (get_or d y 0 - 1)

      here : get_or e y 0 ≡ get_or d y 0 - 1
      here = keeps_here n d y low b.long

      same : (z : ℕ) → eqb (get_or e z 0) 0 ≡ eqb (get_or d z 0) 0
      same = keeps_same n d y low b.long more

      right : (z : ℕ) → Dec (z ≡ y) → 0 < get_or e z 0 → get_or e z 0 ≡ within arcs S z + times z ts
      right z (yes f) p =
          let k : 0 < get_or e y 0 = subst (λ (k : ℕ). 0 < get_or e k 0) f p in
          subst (λ (k : ℕ). get_or e k 0 ≡ within arcs S k + times k ts) (sym f) (omega (arith, here, b.right y (omega (arith, here)), times_here y ts))
      right z (no f) p =
          let o : get_or e z 0 ≡ get_or d z 0 = keeps_other n d y low b.long z f in
          omega (arith, b.right z (omega arith), times_other y z ts (λ g. f (sym g)))

  -- half y runs out: its vertex goes, and waits
  runs_out : get_or d y 0 ≡ 1 → Between arcs n S (set (set d y 0) (mate y) 0) (q ++ (y ∷ [])) ts
  runs_out last = record {
    long = length-set (set d y 0) (mate y) 0 ∙ length-set d y 0 ∙ b.long;
    set_long = b.set_long;
    paired = goes_paired n d y low b.long b.paired;
    inside = λ z p. b.inside z (was z p);
    right = λ z p. right z p (ℕ_discrete (vertex z) x);
    once = λ u. count_append (λ z. eqb (vertex z) u) q (y ∷ []) ∙ once u (ℕ_discrete u x);
    idle = λ z m. idle z (Memᴰ.append_cases q m);
    number = omega (arith, length-append q (y ∷ []), b.number, goes_live n d y low b.long b.paired last);
  }
    where
      x : ℕ
      x = vertex y

      e : List ℕ
      e = set (set d y 0) (mate y) 0

      other : (z : ℕ) → vertex z ≢ x → get_or e z 0 ≡ get_or d z 0
      other = goes_other n d y low b.long

      none : (z : ℕ) → vertex z ≡ x → get_or e z 0 ≡ 0
      none = goes_none n d y low b.long

      full : (z : ℕ) → vertex z ≡ x → 0 < get_or d z 0
      full = goes_full n d y low b.long b.paired last

      was : (z : ℕ) → 0 < get_or e z 0 → 0 < get_or d z 0
      was z p = go (ℕ_discrete (vertex z) x)
        where
          go : Dec (vertex z ≡ x) → 0 < get_or d z 0
          go (yes f) = full z f
          go (no f) = omega (arith, other z f)

      right : (z : ℕ) → 0 < get_or e z 0 → Dec (vertex z ≡ x) → get_or e z 0 ≡ within arcs S z + times z ts
      right z p (yes f) = omega (arith, none z f)
      right z p (no f) = omega (arith, other z f, b.right z (was z p), times_other y z ts (λ g. f (ap vertex (sym g))))

      once : (u : ℕ) → Dec (u ≡ x) → waits u q + waits u (y ∷ []) ≡ bump (has S u && eqb (get_or e (2 * u) 0) 0) 0
      once u (yes f) = rw f (omega (arith, last_one, before, after))
        where
          last_one : waits x (y ∷ []) ≡ 1
          last_one = count_one (λ z. eqb (vertex z) x) y ∙ ap (λ (t : Bool). bump t 0) (eq-eqb (vertex y) x refl)

          inside : has S x ≡ true
          inside = is_true (has S x) (b.inside y (omega arith))

          before : waits x q ≡ 0
          before = b.once x ∙ (λ i. bump (inside i && ne_eqb (get_or d (2 * x) 0) 0 (λ k. omega (arith, full (2 * x) (omega arith))) i) 0)

          after : bump (has S x && eqb (get_or e (2 * x) 0) 0) 0 ≡ 1
          after = λ i. bump (inside i && eq-eqb (get_or e (2 * x) 0) 0 (none (2 * x) (omega arith)) i) 0
      once u (no f) = omega (arith, no_last, b.once u, same)
        where
          no_last : waits u (y ∷ []) ≡ 0
          no_last = count_one (λ z. eqb (vertex z) u) y ∙ ap (λ (t : Bool). bump t 0) (ne_eqb (vertex y) u (λ g. f (sym g)))

          same : bump (has S u && eqb (get_or e (2 * u) 0) 0) 0 ≡ bump (has S u && eqb (get_or d (2 * u) 0) 0) 0
          same = λ i. bump (has S u && eqb (other (2 * u) (λ g. f (omega arith)) i) 0) 0

      idle : (z : ℕ) → In z q ⊎ In z (y ∷ []) → within arcs S z ≡ 0
      idle z (inl m) = b.idle z m
      idle z (inr m) =
          ap (within arcs S) (Memᴰ.eq_of_singleton m) ∙ omega (arith, b.right y (omega arith), times_here y ts)

-- one lowered arc
pub lower_ready : (arcs : List Arc) (n : ℕ) (S : Set) (h : Halves) (first y : ℕ) (ts : List ℕ) → y < 2 * n
    → Ready arcs n S h first (y ∷ ts) → Ready arcs n S (lower y h) first ts
unfolding lower
lower_ready arcs n S h first y ts low r = go (eqb (get_or h.degrees y 0) 1) refl
  where
    go : (t : Bool) → eqb (get_or h.degrees y 0) 1 ≡ t
        → Ready arcs n S (cond t (record { degrees = set (set h.degrees y 0) (mate y) 0; waiting = h.waiting ++ (y ∷ []) }) (record { degrees = set h.degrees y (get_or h.degrees y 0 - 1); waiting = h.waiting })) first ts
    go true e = record {
      started = omega (arith, r.started, length-append h.waiting (y ∷ []));
      state = rw (drop-append-le first h.waiting (y ∷ []) r.started) (runs_out arcs n S h.degrees (drop first h.waiting) y ts low r.state (eqb-true (get_or h.degrees y 0) 1 e));
    }
    go false e = record {
      started = r.started;
      state = stays_on arcs n S h.degrees (drop first h.waiting) y ts low r.state (eqb-false (get_or h.degrees y 0) 1 e);
    }

-- all arcs of a list
pub lower_all_ready : (arcs : List Arc) (n : ℕ) (S : Set) (ts more : List ℕ) (h : Halves) (first : ℕ) → ((t : ℕ) → In t ts → t < 2 * n)
    → Ready arcs n S h first (ts ++ more) → Ready arcs n S (lower_all ts h) first more
unfolding lower_all
lower_all_ready arcs n S [] more h first low r = r
lower_all_ready arcs n S (y ∷ ts) more h first low r =
    lower_all_ready arcs n S ts more (lower y h) first (λ t m. low t (Memᴰ.tail m))
    (lower_ready arcs n S h first y (ts ++ more) (low y (Memᴰ.head refl)) r)
