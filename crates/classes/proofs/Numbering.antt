-- The numbers of the classes, in one pass over the table of least members.
-- Assumes nothing.
use mathlib.Core.Bool.{Bool, true, false, not, cond}
use mathlib.Core.List.{List}
use mathlib.Core.Path.{◌≡◌, refl, sym, ap, ◌∙◌, subst}
use Prim.Native.Nat.{ℕ, ◌+◌, ◌≤◌, ◌<◌}
use native.Mathlib.Numerals.{add-one}
use native.Mathlib.Omega.{arith}
use lib.Dec.{eqb}
use lib.ListN.{length, length-map, get_or, set}
use borrow.Author.Tests.{eqb-true, eqb-false, eq-eqb, ne_eqb}
use Rattle.graph.specs.Delete.{new_id}
use Rattle.graph.specs.Lists.{flat}
use Rattle.graph.specs.Merge.{leaders, absorbed, numbered}
use Rattle.graph.proofs.Lists.{get_d_map}
use Rattle.graph.proofs.Classes.{tells_leader, leaders_tell}
use Rattle.le.specs.Le.{Below}
use Rattle.classes.specs.Forest.{Falls, Tabled, Names, number_of, Counted}
use Rattle.classes.proofs.Trees.{each}

-- the table that `find_leaders` leaves is one of least members
pub leaders_named : (n : ℕ) (pairs : List (ℕ × ℕ)) (W : List ℕ) → Below n (flat pairs) → Tabled n (leaders n pairs) W → Names n (leaders n pairs) W
leaders_named n pairs W below e =
    let t = leaders_tell n pairs below in
    record { tabled = e; low = t.low; leader = tells_leader n pairs (leaders n pairs) t }

pub names_fall : (n : ℕ) (table W : List ℕ) → Names n table W → Falls n W
names_fall n table W t = record { low = λ v h. omega (arith, t.tabled.is v h, t.low v h) }

pub count_start : (n : ℕ) (W : List ℕ) → Counted n W W 0 0
count_start n W = record {
  few = omega arith;
  rest = λ u l h. refl;
  sum = λ table t. refl;
  done = λ table t u l. absurd (omega arith);
}

module _ (n : ℕ) (W X : List ℕ) (k count : ℕ) (c : Counted n W X k count) (room : n ≤ length X) (inside : k < n) where
  pub count_low : Falls n W → get_or X k 0 ≤ k
  count_low f = omega (arith, c.rest k (omega arith) inside, f.low k inside)

  module _ (Y : List ℕ) (r : ℕ) (told : r ≡ cond (eqb (get_or X k 0) k) (count + 1) count)
      (stored : Y ≡ set X k (number_of X k count (get_or X k 0))) where
    -- the word is the least member's
    word : (table : List ℕ) → Names n table W → get_or X k 0 ≡ get_or table k 0
    word table t = c.rest k (omega arith) inside ∙ t.tabled.is k inside

    next : (table : List ℕ) → new_id (absorbed table) (k + 1) ≡ new_id (absorbed table) k + cond (not (eqb (get_or table k 0) k)) 0 1
    next table = ap (new_id (absorbed table)) (add-one k)

    sums : (table : List ℕ) → Names n table W → r ≡ new_id (absorbed table) (k + 1)
    sums table t = told ∙ ap (λ (l : ℕ). cond (eqb l k) (count + 1) count) (word table t) ∙ go (eqb (get_or table k 0) k) ∙ sym (next table)
      where
        go : (d : Bool) → cond d (count + 1) count ≡ new_id (absorbed table) k + cond (not d) 0 1
        go true = omega (arith, c.sum table t)
        go false = omega (arith, c.sum table t)

    number : (table : List ℕ) → Names n table W → number_of X k count (get_or X k 0) ≡ new_id (absorbed table) (get_or table k 0)
    number table t = ap (number_of X k count) (word table t) ∙ go (eqb (get_or table k 0) k) refl
      where
        go : (d : Bool) → eqb (get_or table k 0) k ≡ d → cond d count (get_or X (get_or table k 0) 0) ≡ new_id (absorbed table) (get_or table k 0)
        go true e = c.sum table t ∙ ap (new_id (absorbed table)) (sym (eqb-true _ k e))
        go false e =
            let ne : get_or table k 0 ≡ k → ⊥ = eqb-false _ k e in
            let less : get_or table k 0 < k = omega (arith, t.low k inside) in
            c.done table t (get_or table k 0) less ∙ ap (new_id (absorbed table)) (t.leader k inside)

    pub count_turn : Counted n W Y (k + 1) r
    count_turn =
        let q = number_of X k count (get_or X k 0) in
        subst (λ (Z : List ℕ). Counted n W Z (k + 1) r) (sym stored) (record {
          few = few (eqb (get_or X k 0) k) told;
          rest = λ u l h. each n X room k q inside (λ u w. k + 1 ≤ u → w ≡ get_or W u 0) (λ u h ne l. c.rest u (omega arith) h) (λ l. absurd (omega arith)) u h l;
          sum = sums;
          done = λ table t u l. each n X room k q inside (λ u w. u < k + 1 → w ≡ new_id (absorbed table) (get_or table u 0))
              (λ u h ne l. c.done table t u (omega arith)) (λ l. number table t) u (omega arith) l;
        })
      where
        few : (d : Bool) → r ≡ cond d (count + 1) count → r ≤ k + 1
        few true e = omega (arith, c.few)
        few false e = omega (arith, c.few)

pub count_done : (n : ℕ) (W X : List ℕ) (count : ℕ) → Counted n W X n count → (table : List ℕ) → Names n table W
    → (count ≡ new_id (absorbed table) n) × Tabled n (numbered table) X
count_done n W X count c table t = (
  c.sum table t,
  record {
    long = length-map table _ ∙ t.tabled.long;
    is = λ u h. c.done table t u h ∙ sym (get_d_map (new_id (absorbed table)) table u (omega (arith, t.tabled.long)));
  },
)

-- ---- the step, by the word that was read

module _ (W X : List ℕ) (k count l : ℕ) (read : l ≡ get_or W k 0) where
  pub number_own : l ≡ k → X ≡ set W k count
      → (count + 1 ≡ cond (eqb (get_or W k 0) k) (count + 1) count) × (X ≡ set W k (number_of W k count (get_or W k 0)))
  number_own e s =
      let t : eqb (get_or W k 0) k ≡ true = eq-eqb _ k (sym read ∙ e) in
      (rw t, s ∙ ap (λ (d : Bool). set W k (cond d count (get_or W (get_or W k 0) 0))) (sym t))

  pub number_other : (l ≡ k → ⊥) → (q : ℕ) → q ≡ get_or W l 0 → X ≡ set W k q
      → (count ≡ cond (eqb (get_or W k 0) k) (count + 1) count) × (X ≡ set W k (number_of W k count (get_or W k 0)))
  number_other ne q e s =
      let t : eqb (get_or W k 0) k ≡ false = ne_eqb _ k (λ z. ne (read ∙ z)) in (
        rw t,
        s ∙ ap (set W k) (e ∙ ap (λ (i : ℕ). get_or W i 0) read)
            ∙ ap (λ (d : Bool). set W k (cond d count (get_or W (get_or W k 0) 0))) (sym t),
      )
