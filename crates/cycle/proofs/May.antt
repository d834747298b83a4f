-- Which vertices may be chosen, as the flags in the room tell it: it stays the same while no flag of a kept node comes or goes.
-- Assumes nothing.
use mathlib.Core.Path.{◌≡◌, refl, sym, ap, ◌∙◌}
use mathlib.Core.Bool.{Bool, true, false, ◌&&◌, not}
use mathlib.Core.List.{List}
use mathlib.Core.Logic.{inl}
use Prim.Native.Nat.{ℕ, ◌+◌, ◌≤◌, ◌<◌}
use native.Mathlib.Decide.{ℕ_discrete}
use native.Mathlib.Omega.{arith}
use lib.Dec.{T, eqb, ltb, ltb→lt}
use lib.ListN.{length, get_or, set}
use lib.Seq.{get_or-set_same, get_or-set_other}
use borrow.Author.Tests.{ltb-true, lt-ltb, le-ltb, ne_eqb}
use Rattle.le.specs.Le.{Outside}
use Rattle.tables.specs.Tables.{most_nodes, picked_at, queue_at}
use Rattle.choice.proofs.Sets.{and_left, and_right}
use Rattle.cycle.specs.Next.{may, NoneKept}

pub may_low : (W : List ℕ) (nodes v : ℕ) → T (may W nodes v) → v < nodes
may_low W nodes v t = ltb→lt v nodes (and_left (ltb v nodes) (not (eqb (get_or W (picked_at + v) 0) 2)) t)

-- one that may be chosen is not flagged as kept
may_free : (W : List ℕ) (nodes v : ℕ) → T (may W nodes v) → eqb (get_or W (picked_at + v) 0) 2 ≡ false
may_free W nodes v t = go (eqb (get_or W (picked_at + v) 0) 2) (and_right (ltb v nodes) (not (eqb (get_or W (picked_at + v) 0) 2)) t)
  where
    go : (b : Bool) → T (not b) → b ≡ false
    go true n = absurd n
    go false n = refl

-- the same nodes are flagged as kept
pub same_may : (W X : List ℕ) (nodes : ℕ) → ((v : ℕ) → v < nodes → eqb (get_or X (picked_at + v) 0) 2 ≡ eqb (get_or W (picked_at + v) 0) 2) → may X nodes ≡ may W nodes
same_may W X nodes h = λ i v. at v i
  where
    at : (v : ℕ) → may X nodes v ≡ may W nodes v
    at v = go (ltb v nodes) refl
      where
        go : (b : Bool) → ltb v nodes ≡ b → b && not (eqb (get_or X (picked_at + v) 0) 2) ≡ b && not (eqb (get_or W (picked_at + v) 0) 2)
        go true e = ap not (h v (ltb-true v nodes e))
        go false e = refl

-- the flags stand before the queue
pub may_outside : (W X : List ℕ) (nodes hi : ℕ) → nodes ≤ most_nodes → Outside queue_at hi W X → may X nodes ≡ may W nodes
may_outside W X nodes hi few o = same_may W X nodes (λ v l. ap (λ (k : ℕ). eqb k 2) (o.same (picked_at + v) (inl (omega arith))))

-- one that may be chosen is flagged as chosen
pub may_chosen : (W X : List ℕ) (nodes best : ℕ) → T (may W nodes best) → picked_at + nodes ≤ length W
    → ((v : ℕ) → v < nodes → get_or X (picked_at + v) 0 ≡ get_or (set W (picked_at + best) 1) (picked_at + v) 0) → may X nodes ≡ may W nodes
may_chosen W X nodes best t long h = same_may W X nodes (λ v l. ap (λ (k : ℕ). eqb k 2) (h v l) ∙ at v l (ℕ_discrete v best))
  where
    low : best < nodes
    low = may_low W nodes best t

    at : (v : ℕ) → v < nodes → Dec (v ≡ best) → eqb (get_or (set W (picked_at + best) 1) (picked_at + v) 0) 2 ≡ eqb (get_or W (picked_at + v) 0) 2
    at v l (yes e) =
        rw e (ap (λ (k : ℕ). eqb k 2) (get_or-set_same W (picked_at + best) 1 0 (omega (arith, low))) ∙ one ∙ sym (may_free W nodes best t))
      where
        one : eqb 1 2 ≡ false
        one = refl
    at v l (no n) = ap (λ (k : ℕ). eqb k 2) (get_or-set_other W (picked_at + best) (picked_at + v) 1 0 (λ z. n (omega arith)))

-- ---- as the test finds it

pub may_edge : (W : List ℕ) (nodes v : ℕ) → nodes ≤ v → false ≡ may W nodes v
may_edge W nodes v l = sym (ap (λ (b : Bool). b && not (eqb (get_or W (picked_at + v) 0) 2)) (le-ltb v nodes l))

pub may_flag : (W : List ℕ) (nodes v flag : ℕ) → v < nodes → flag ≡ get_or W (picked_at + v) 0 → not (eqb flag 2) ≡ may W nodes v
may_flag W nodes v flag l e = sym (λ i. lt-ltb v nodes l i && not (eqb (sym e i) 2))

pub may_unkept : (W : List ℕ) (nodes v : ℕ) → v < nodes → NoneKept W nodes → true ≡ may W nodes v
may_unkept W nodes v l none = sym (λ i. lt-ltb v nodes l i && not (ne_eqb (get_or W (picked_at + v) 0) 2 (none v l) i))

-- the flags stand before the queue
pub none_outside : (W X : List ℕ) (nodes hi : ℕ) → nodes ≤ most_nodes → Outside queue_at hi W X → NoneKept W nodes → NoneKept X nodes
none_outside W X nodes hi few o none v l e = none v l (sym (o.same (picked_at + v) (inl (omega arith))) ∙ e)
