-- The waiting list only grows at its end, by halves of the lists that are walked.
-- Assumes nothing.
use mathlib.Core.Path.{◌≡◌, refl, ◌∙◌}
use mathlib.Core.Bool.{Bool, true, false, cond}
use mathlib.Core.List.{List, [], ◌∷◌, ◌++◌}
use Prim.Native.Nat.{ℕ, zero, suc, ◌-◌, ◌≤◌, ◌<◌}
use native.Mathlib.Nat.{le_refl}
use native.Mathlib.Omega.{arith}
use lib.Dec.{eqb, ltb}
use lib.ListN.{length, get_or, set, length-append, get_or-append}
use Rattle.halves.specs.Halves.{mate, Halves, lower, lower_all, peel_from}

-- q is p with more behind it
pub record Behind (p q : List ℕ) : Type 0 where
  pub longer : length p ≤ length q
  pub same : (i : ℕ) → i < length p → get_or q i 0 ≡ get_or p i 0

behind_none : (p : List ℕ) → Behind p p
behind_none p = record { longer = le_refl (length p); same = λ i l. refl }

behind_then : {p q r : List ℕ} → Behind p q → Behind q r → Behind p r
behind_then a b = record { longer = omega (arith, a.longer, b.longer); same = λ i l. b.same i (omega (arith, a.longer)) ∙ a.same i l }

behind_more : (p q : List ℕ) → Behind p (p ++ q)
behind_more p q = record { longer = omega (arith, length-append p q); same = λ i l. get_or-append p q 0 i l }

pub lower_front : (y : ℕ) (h : Halves) → Behind h.waiting (lower y h).waiting
unfolding lower
lower_front y h = go (eqb (get_or h.degrees y 0) 1)
  where
    go : (t : Bool) → Behind h.waiting (cond {A = Halves} t (record { degrees = set (set h.degrees y 0) (mate y) 0; waiting = h.waiting ++ (y ∷ []) }) (record { degrees = set h.degrees y (get_or h.degrees y 0 - 1); waiting = h.waiting })).waiting
    go true = behind_more h.waiting (y ∷ [])
    go false = behind_none h.waiting

pub lower_all_front : (ts : List ℕ) (h : Halves) → Behind h.waiting (lower_all ts h).waiting
unfolding lower_all
lower_all_front [] h = behind_none h.waiting
lower_all_front (y ∷ ts) h = behind_then (lower_front y h) (lower_all_front ts (lower y h))

pub peel_front : (k : ℕ) (lists : ℕ → List ℕ) (first : ℕ) (h : Halves) → Behind h.waiting (peel_from k lists first h).waiting
unfolding peel_from
peel_front zero lists first h = behind_none h.waiting
peel_front (suc k) lists first h = go (ltb first (length h.waiting)) (peel_front k lists (suc first) l)
  where
    l : Halves
    l = lower_all (lists (get_or h.waiting first 0)) h

    go : (t : Bool) → Behind l.waiting (peel_from k lists (suc first) l).waiting → Behind h.waiting (cond {A = Halves} t (peel_from k lists (suc first) l) h).waiting
    go true b = behind_then (lower_all_front (lists (get_or h.waiting first 0)) h) b
    go false b = behind_none h.waiting
