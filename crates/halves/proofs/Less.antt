-- Removal only lowers: no degree is above what it was. What is not told of it, as a queue of snapshots, stays right.
-- Assumes nothing.
use mathlib.Core.Bool.{Bool, true, false, cond}
use mathlib.Core.List.{List, [], ◌∷◌, ◌++◌}
use Prim.Native.Nat.{ℕ, zero, suc, ◌+◌, ◌-◌, ◌*◌, ◌≤◌}
use native.Mathlib.Nat.{le_refl}
use native.Mathlib.Omega.{arith}
use lib.Dec.{eqb, ltb}
use lib.ListN.{length, get_or, set}
use Rattle.halves.specs.Halves.{mate, Halves, lower, lower_all, peel_from, drop_both, pick}

-- a smaller number is stored
pub set_less : (l : List ℕ) (i a z : ℕ) → a ≤ get_or l i 0 → get_or (set l i a) z 0 ≤ get_or l z 0
set_less [] i a z h = omega arith
set_less (x ∷ l) zero a zero h = h
set_less (x ∷ l) zero a (suc z) h = le_refl (get_or l z 0)
set_less (x ∷ l) (suc i) a zero h = le_refl x
set_less (x ∷ l) (suc i) a (suc z) h = set_less l i a z h

pub lower_less : (y : ℕ) (h : Halves) (z : ℕ) → get_or (lower y h).degrees z 0 ≤ get_or h.degrees z 0
unfolding lower
lower_less y h z = go (eqb (get_or d y 0) 1)
  where
    d : List ℕ
    d = h.degrees

    go : (t : Bool) → get_or (cond {A = Halves} t (record { degrees = set (set d y 0) (mate y) 0; waiting = h.waiting ++ (y ∷ []) }) (record { degrees = set d y (get_or d y 0 - 1); waiting = h.waiting })).degrees z 0 ≤ get_or d z 0
    go true = omega (arith, set_less (set d y 0) (mate y) 0 z (omega arith), set_less d y 0 z (omega arith))
    go false = set_less d y (get_or d y 0 - 1) z (omega arith)

pub lower_all_less : (ts : List ℕ) (h : Halves) (z : ℕ) → get_or (lower_all ts h).degrees z 0 ≤ get_or h.degrees z 0
unfolding lower_all
lower_all_less [] h z = le_refl (get_or h.degrees z 0)
lower_all_less (y ∷ ts) h z = omega (arith, lower_less y h z, lower_all_less ts (lower y h) z)

pub peel_less : (k : ℕ) (lists : ℕ → List ℕ) (first : ℕ) (h : Halves) (z : ℕ) → get_or (peel_from k lists first h).degrees z 0 ≤ get_or h.degrees z 0
unfolding peel_from
peel_less zero lists first h z = le_refl (get_or h.degrees z 0)
peel_less (suc k) lists first h z = go (ltb first (length h.waiting)) (peel_less k lists (suc first) l z)
  where
    l : Halves
    l = lower_all (lists (get_or h.waiting first 0)) h

    go : (t : Bool) → get_or (peel_from k lists (suc first) l).degrees z 0 ≤ get_or l.degrees z 0
        → get_or (cond {A = Halves} t (peel_from k lists (suc first) l) h).degrees z 0 ≤ get_or h.degrees z 0
    go true r = omega (arith, lower_all_less (lists (get_or h.waiting first 0)) h z)
    go false r = le_refl (get_or h.degrees z 0)

pub pick_less : (lists : ℕ → List ℕ) (x : ℕ) (h : Halves) (z : ℕ) → get_or (pick lists x h).degrees z 0 ≤ get_or h.degrees z 0
unfolding pick drop_both
pick_less lists x h z =
    omega (
      arith,
      lower_all_less (lists (2 * x + 1)) (lower_all (lists (2 * x)) k) z,
      lower_all_less (lists (2 * x)) k z,
      set_less (set h.degrees (2 * x) 0) (2 * x + 1) 0 z (omega arith),
      set_less h.degrees (2 * x) 0 z (omega arith),
    )
  where
    k : Halves
    k = record { degrees = drop_both x h.degrees; waiting = h.waiting }
