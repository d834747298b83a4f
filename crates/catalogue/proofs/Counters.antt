-- Twelve counters, one raised for each edge.
-- Assumes nothing.
use mathlib.Core.Path.{◌≡◌, refl, sym, ◌∙◌}
use mathlib.Core.Bool.{Bool, true, false}
use mathlib.Core.List.{List, [], ◌∷◌, ◌++◌, map}
use Prim.Native.Nat.{ℕ, zero, suc, ◌+◌, ◌-◌, ◌≤◌, ◌<◌}
use native.Mathlib.Nat.{le_refl, lt_irrefl, not-suc-le-zero, zero-add, add-zero}
use native.Mathlib.Omega.{arith}
use lib.Dec.{eqb}
use lib.ListN.{get_or, set}
use borrow.Author.Tests.{eqb-true, eq-eqb, ne_eqb}
use Rattle.graph.specs.Lists.{range}
use Rattle.graph.specs.Graph.{Edge, spider}
use Rattle.choice.specs.Arcs.{bump, how_many}
use Rattle.catalogue.specs.Price.{kinds, is_spider, of_kind}
use Rattle.catalogue.specs.Promises.{OfKind}

pub of_kind_next : (es : List Edge) (e : Edge) (k : ℕ) → of_kind (es ++ (e ∷ [])) k ≡ of_kind es k + bump (eqb e.label k) 0
unfolding of_kind how_many
of_kind_next [] e k = sym (zero-add (bump (eqb e.label k) 0))
of_kind_next (x ∷ es) e k = go (eqb x.label k) (of_kind_next es e k)
  where
    n : ℕ
    n = bump (eqb e.label k) 0

    go : (b : Bool) → how_many (λ y. eqb y.label k) (es ++ (e ∷ [])) ≡ how_many (λ y. eqb y.label k) es + n
        → bump b (how_many (λ y. eqb y.label k) (es ++ (e ∷ []))) ≡ bump b (how_many (λ y. eqb y.label k) es) + n
    go true r = omega arith
    go false r = r

same_counts : (c d : ℕ → ℕ) (from n : ℕ) → ((k : ℕ) → from ≤ k → c k ≡ d k) → map c (range from n) ≡ map d (range from n)
same_counts c d from zero h = refl
same_counts c d from (suc n) h =
    λ i. h from (le_refl from) i ∷ same_counts c d (suc from) n (λ k l. h k (omega arith)) i

pub raise : (c : ℕ → ℕ) (label from i n : ℕ) → label ≡ from + i → i < n
    → map (λ k. c k + bump (eqb label k) 0) (range from n) ≡ set (map c (range from n)) i (get_or (map c (range from n)) i 0 + 1)
raise c label from i zero e l = absurd (not-suc-le-zero l)
raise c label from zero (suc n) e l = λ j. first j ∷ same_counts (λ k. c k + bump (eqb label k) 0) c (suc from) n rest j
  where
    first : c from + bump (eqb label from) 0 ≡ c from + 1
    first = rw (eq-eqb label from (omega arith)) refl

    rest : (k : ℕ) → suc from ≤ k → c k + bump (eqb label k) 0 ≡ c k
    rest k m = let d : label ≡ k → ⊥ = λ q. lt_irrefl k (omega arith) in rw (ne_eqb label k d) (add-zero (c k))
raise c label from (suc i) (suc n) e l = λ j. first j ∷ raise c label (suc from) i n (omega arith) (omega arith) j
  where
    first : c from + bump (eqb label from) 0 ≡ c from
    first = let d : label ≡ from → ⊥ = λ q. lt_irrefl from (omega arith) in rw (ne_eqb label from d) (add-zero (c from))

-- "twelve counters .. updated for each edge": an edge of a kind raises that kind's counter, and a spider none
pub counters_next : (es : List Edge) (e : Edge) → OfKind e
    → map (of_kind (es ++ (e ∷ []))) kinds ≡ set (map (of_kind es) kinds) (e.label - 1) (get_or (map (of_kind es) kinds) (e.label - 1) 0 + 1)
counters_next es e q =
    let a : e.label ≡ 1 + (e.label - 1) = omega (arith, q.low) in
    let b : e.label - 1 < 12 = omega (arith, q.low, q.high) in
    (λ i. map (λ k. of_kind_next es e k i) kinds) ∙ raise (of_kind es) e.label 1 (e.label - 1) 12 a b

pub counters_spider : (es : List Edge) (e : Edge) → is_spider e ≡ true → map (of_kind (es ++ (e ∷ []))) kinds ≡ map (of_kind es) kinds
counters_spider es e q = (λ i. map (λ k. of_kind_next es e k i) kinds) ∙ rw (eqb-true e.label spider q) (simp add-zero)
