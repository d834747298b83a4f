-- What the two parts begin with: at the start each vertex without an arc out is given one that is still to be lowered, and only those without an arc in wait; at a choice
-- the chosen vertex's arcs out are lowered, and its arcs in are still to be. Assumes nothing.
use mathlib.Core.Path.{◌≡◌, refl, sym, ap, ◌∙◌, subst}
use mathlib.Core.Bool.{Bool, true, false, cond}
use mathlib.Core.List.Memᴰ
use mathlib.Core.List.{List, [], ◌∷◌, ◌++◌}
use mathlib.Core.Logic.{◌⊎◌, inl, inr, ◌≢◌}
use Prim.Native.Nat.{ℕ, zero, suc, ◌+◌, ◌*◌, ◌≤◌, ◌<◌}
use native.Mathlib.Decide.{ℕ_discrete}
use native.Mathlib.Omega.{arith}
use lib.Dec.{eqb}
use lib.ListN.{length, get_or, set, length-set}
use lib.Seq.{drop-length, get_or-set_same, get_or-set_other}
use borrow.Author.Tests.{eq-eqb, ne_eqb, eqb-true}
use Rattle.choice.specs.Arcs.{Arc, In, bump, how_many, Set, vertices, without, size}
use Rattle.choice.specs.Choice.{Best}
use Rattle.choice.specs.Degrees.{Sofar}
use Rattle.choice.proofs.Sets.{has_lt, size_without}
use Rattle.choice.proofs.Sofar.{sofar_best}
use Rattle.halves.specs.Halves.{within, times, Listed, Halves, lower_all, drop_both, seed, seed_to, raise_to, ends_to, Ready, Going, Seeding}
use Rattle.halves.proofs.Leaving.{all_live, nil_times}
use Rattle.halves.proofs.Lists.{count_append, count_one, pos_of}
use Rattle.halves.proofs.Lowering.{lower_all_ready}
use Rattle.halves.proofs.Phases.{AllFrom, On, lists_on, lower_all_from, none_in}
use Rattle.halves.proofs.Start.{seeding_start, seeded, seeding_done}
use Rattle.halves.proofs.Whole.{pick_left, going_stable, still}

-- ---- arcs that are put in

ends_on : (n : ℕ) (lists : ℕ → List ℕ) (k : ℕ) → k ≤ n → (t : ℕ) → In t (ends_to lists k) → (t < 2 * k) × On n 1 t
unfolding ends_to
ends_on n lists zero l t m = absurd (Memᴰ.not-nil m)
ends_on n lists (suc k) l t m = go (eqb (length (lists (2 * k))) 0) (Memᴰ.append_cases (ends_to lists k) m) (ends_on n lists k (omega arith) t)
  where
    go : (b : Bool) → In t (ends_to lists k) ⊎ In t (cond b ((2 * k + 1) ∷ []) []) → (In t (ends_to lists k) → (t < 2 * k) × On n 1 t) → (t < 2 * suc k) × On n 1 t
    go b (inl j) r = (omega (arith, (r j).0), (r j).1)
    go true (inr j) r = let e = Memᴰ.eq_of_singleton j in (omega arith, record { low = omega arith; sided = omega arith })
    go false (inr j) r = absurd (Memᴰ.not-nil j)

pub ends_out : (n : ℕ) (lists : ℕ → List ℕ) (t : ℕ) → In t (ends_to lists n) → On n 1 t
ends_out n lists t m = (ends_on n lists n (omega arith) t m).1

ends_pos : (lists : ℕ → List ℕ) (x k : ℕ) → x < k → length (lists (2 * x)) ≡ 0 → 0 < times (2 * x + 1) (ends_to lists k)
unfolding ends_to
ends_pos lists x zero l e = absurd (omega arith)
ends_pos lists x (suc k) l e = go (ℕ_discrete x k) (λ m. ends_pos lists x k m e)
  where
    p : ℕ → Bool
    p t = eqb t (2 * x + 1)

    tail : List ℕ
    tail = cond (eqb (length (lists (2 * k))) 0) ((2 * k + 1) ∷ []) []

    go : Dec (x ≡ k) → (x < k → 0 < times (2 * x + 1) (ends_to lists k)) → 0 < times (2 * x + 1) (ends_to lists k ++ tail)
    go (yes q) r =
        let here : tail ≡ (2 * k + 1) ∷ [] = ap (λ (b : Bool). cond b ((2 * k + 1) ∷ []) []) (eq-eqb (length (lists (2 * k))) 0 (subst (λ (v : ℕ). length (lists (2 * v)) ≡ 0) q e)) in
        let same : 2 * k + 1 ≡ 2 * x + 1 = omega arith in
        omega (arith, count_append p (ends_to lists k) tail, ap (how_many p) here, count_one p (2 * k + 1), ap (λ (b : Bool). bump b 0) (eq-eqb (2 * k + 1) (2 * x + 1) same))
    go (no q) r = omega (arith, count_append p (ends_to lists k) tail, r (omega arith))

length_raise : (k : ℕ) (d : List ℕ) → length (raise_to k d) ≡ length d
unfolding raise_to
length_raise zero d = refl
length_raise (suc k) d = go (eqb (get_or (raise_to k d) (2 * k + 1) 0) 0) (length_raise k d)
  where
    go : (b : Bool) → length (raise_to k d) ≡ length d → length (cond b (set (raise_to k d) (2 * k + 1) 1) (raise_to k d)) ≡ length d
    go true e = length-set (raise_to k d) (2 * k + 1) 1 ∙ e
    go false e = e

module _ (n : ℕ) (lists : ℕ → List ℕ) (d : List ℕ) (long : length d ≡ 2 * n) (outs : (x : ℕ) → x < n → get_or d (2 * x + 1) 0 ≡ length (lists (2 * x))) where
  raise_adds : (k : ℕ) → k ≤ n → (y : ℕ) → get_or (raise_to k d) y 0 ≡ get_or d y 0 + times y (ends_to lists k)
  unfolding raise_to ends_to
  raise_adds zero l y = omega (arith, nil_times y)
  raise_adds (suc k) l y = go (λ i. raise_adds k (omega arith) i) (ℕ_discrete (length (lists (2 * k))) 0)
    where
      e : List ℕ
      e = raise_to k d

      p : ℕ → Bool
      p t = eqb t y

      -- what half 2k + 1 has so far
      here : ((i : ℕ) → get_or (raise_to k d) i 0 ≡ get_or d i 0 + times i (ends_to lists k)) → get_or e (2 * k + 1) 0 ≡ length (lists (2 * k))
      here so =
          omega (arith, so (2 * k + 1), outs k l, none_in (2 * k + 1) (ends_to lists k) (λ t m q. omega (arith, (ends_on n lists k (omega arith) t m).0)))

      go : ((i : ℕ) → get_or (raise_to k d) i 0 ≡ get_or d i 0 + times i (ends_to lists k)) → Dec (length (lists (2 * k)) ≡ 0)
          → get_or (cond (eqb (get_or e (2 * k + 1) 0) 0) (set e (2 * k + 1) 1) e) y 0 ≡ get_or d y 0 + times y (ends_to lists k ++ cond (eqb (length (lists (2 * k))) 0) ((2 * k + 1) ∷ []) [])
      go so (yes z) = rw (eq-eqb (get_or e (2 * k + 1) 0) 0 (here so ∙ z), eq-eqb (length (lists (2 * k))) 0 z) (at (ℕ_discrete y (2 * k + 1)))
        where
          at : Dec (y ≡ 2 * k + 1) → get_or (set e (2 * k + 1) 1) y 0 ≡ get_or d y 0 + times y (ends_to lists k ++ ((2 * k + 1) ∷ []))
          at (yes q) =
              ap (λ (i : ℕ). get_or (set e (2 * k + 1) 1) i 0) q ∙ get_or-set_same e (2 * k + 1) 1 0 (omega (arith, length_raise k d))
              ∙ omega (arith, count_append p (ends_to lists k) ((2 * k + 1) ∷ []), count_one p (2 * k + 1), ap (λ (b : Bool). bump b 0) (eq-eqb (2 * k + 1) y (sym q)), so y, ap (λ (i : ℕ). get_or e i 0) q, here so, z)
          at (no q) =
              get_or-set_other e (2 * k + 1) y 1 0 q
              ∙ omega (arith, count_append p (ends_to lists k) ((2 * k + 1) ∷ []), count_one p (2 * k + 1), ap (λ (b : Bool). bump b 0) (ne_eqb (2 * k + 1) y (λ f. q (sym f))), so y)
      go so (no z) =
          rw (ne_eqb (get_or e (2 * k + 1) 0) 0 (λ f. z (sym (here so) ∙ f)), ne_eqb (length (lists (2 * k))) 0 z)
          (omega (arith, so y, count_append p (ends_to lists k) [], nil_times y))

  -- no half out has nothing
  raise_pos : (x : ℕ) → x < n → 0 < get_or d (2 * x + 1) 0 + times (2 * x + 1) (ends_to lists n)
  raise_pos x l = go (ℕ_discrete (length (lists (2 * x))) 0)
    where
      go : Dec (length (lists (2 * x)) ≡ 0) → 0 < get_or d (2 * x + 1) 0 + times (2 * x + 1) (ends_to lists n)
      go (yes e) = omega (arith, ends_pos lists x n l e)
      go (no e) = omega (arith, outs x l, pos_of (length (lists (2 * x))) e)

  module _ (arcs : List Arc) (right : (y : ℕ) → y < 2 * n → get_or d y 0 ≡ within arcs (vertices n) y) where
    abbrev raised : Halves
    raised = record { degrees = raise_to n d; waiting = [] }

    starting : Seeding arcs n (ends_to lists n) 0 (raise_to n d) []
    starting = seeding_start arcs n (ends_to lists n) (raise_to n d) (length_raise n d ∙ long) (λ y l. omega (arith, raise_adds n (omega arith) y, right y l))

    -- who waits has no arc in
    seeds_in : (k : ℕ) → k ≤ n → (z : ℕ) → In z (seed_to k raised).waiting → On n 0 z
    unfolding seed_to seed
    seeds_in zero l z m = absurd (Memᴰ.not-nil m)
    seeds_in (suc k) l z m = go (eqb (get_or h.degrees (2 * k) 0) 0) (eqb (get_or h.degrees (2 * k + 1) 0) 0) refl m (seeds_in k (omega arith) z)
      where
        h : Halves
        h = seed_to k raised

        s : Seeding arcs n (ends_to lists n) k h.degrees h.waiting
        s = seeded arcs n (ends_to lists n) k raised (omega arith) starting

        some : get_or h.degrees (2 * k + 1) 0 ≢ 0
        some e = omega (arith, s.fresh (2 * k + 1) (omega arith) (omega arith), right (2 * k + 1) (omega arith), raise_pos k l)

        at : In z h.waiting ⊎ In z ((2 * k) ∷ []) → (In z h.waiting → On n 0 z) → On n 0 z
        at (inl j) r = r j
        at (inr j) r = let e = Memᴰ.eq_of_singleton j in record { low = omega arith; sided = omega arith }

        go : (i o : Bool) → eqb (get_or h.degrees (2 * k + 1) 0) 0 ≡ o
            → In z (cond i (record { degrees = set h.degrees (2 * k + 1) 0; waiting = h.waiting ++ ((2 * k) ∷ []) }) (cond o (record { degrees = set h.degrees (2 * k) 0; waiting = h.waiting ++ ((2 * k + 1) ∷ []) }) h)).waiting
            → (In z h.waiting → On n 0 z) → On n 0 z
        go true o e j r = at (Memᴰ.append_cases h.waiting j) r
        go false true e j r = absurd (some (eqb-true (get_or h.degrees (2 * k + 1) 0) 0 e))
        go false false e j r = r j

    pub start_ready : Ready arcs n (vertices n) (seed_to n raised) 0 (ends_to lists n)
    start_ready = record { started = omega arith; state = seeding_done arcs n (ends_to lists n) (seed_to n raised).degrees (seed_to n raised).waiting (seeded arcs n (ends_to lists n) n raised (omega arith) starting) }

    pub start_in : AllFrom (On n 0) 0 (seed_to n raised).waiting
    start_in z m = seeds_in n (omega arith) z m

-- ---- a vertex that is chosen

module _ (arcs : List Arc) (may : ℕ → Bool) (n : ℕ) (lists : ℕ → List ℕ) (listed : Listed arcs n lists) (S : Set) (h : Halves) (picked : List ℕ)
    (g : Going arcs may n S h picked (length h.waiting)) (x : ℕ) (best : Best arcs may S x) where
  abbrev first : ℕ
  first = length h.waiting

  abbrev bared : Halves
  bared = record { degrees = drop_both x h.degrees; waiting = h.waiting }

  low : x < n
  low = omega (arith, has_lt S x best.inside, g.ready.state.set_long)

  pub chosen_ready : Ready arcs n (without x S) (lower_all (lists (2 * x)) bared) (length h.waiting) (lists (2 * x + 1))
  chosen_ready =
      lower_all_ready arcs n (without x S) (lists (2 * x)) (lists (2 * x + 1)) bared first (λ t m. listed.low (2 * x) t (omega (arith, low)) m)
      (pick_left arcs n lists listed S h first x low (all_live arcs n S h.degrees (still arcs n S h g.ready) x best.inside) g.ready)

  pub chosen_in : AllFrom (On n 0) (length h.waiting) (lower_all (lists (2 * x)) bared).waiting
  chosen_in =
      lower_all_from (On n 0) first bared (lists (2 * x)) (omega arith) (λ t m. lists_on arcs n lists listed 0 (2 * x) t (record { low = omega (arith, low); sided = omega arith }) m)
      (λ z m. absurd (Memᴰ.not-nil (subst (In z) (drop-length h.waiting) m)))

  pub chosen_out : (t : ℕ) → In t (lists (2 * x + 1)) → On n 1 t
  chosen_out t m = lists_on arcs n lists listed 1 (2 * x + 1) t (record { low = omega (arith, low); sided = omega arith }) m

  pub chosen_told : Sofar arcs may n (without x S) (x ∷ picked) (length h.waiting)
  chosen_told = sofar_best arcs may n S picked first g.told x (going_stable arcs may n lists listed S h picked g) best

  pub chosen_spent : length h.waiting + length (x ∷ picked) + size (without x S) ≡ n
  chosen_spent = omega (arith, g.spent, size_without x S best.inside)
