-- The kept nodes, marked in the room one after the other.
-- Assumes nothing.
use mathlib.Core.Path.{◌≡◌, refl, ap, ◌∙◌}
use mathlib.Core.Bool.{Bool, true, false, ◌||◌, cond}
use mathlib.Core.List.{List, [], ◌∷◌, ◌++◌}
use Prim.Native.Nat.{ℕ, ◌+◌, ◌<◌}
use native.Mathlib.Omega.{arith}
use lib.Dec.{eqb}
use lib.ListN.{length, get_or, set, length-set}
use lib.Seq.{get_or-set_same, get_or-set_other}
use borrow.Author.Tests.{eqb-true, eqb-false}
use Rattle.graph.specs.Lists.{among}
use Rattle.tables.specs.Tables.{picked_at}
use Rattle.cycle.specs.Begin.{kept_marked}

-- one more
pub marked_next : (W vs : List ℕ) (v : ℕ) → kept_marked W (vs ++ (v ∷ [])) ≡ set (kept_marked W vs) (picked_at + v) 2
marked_next W [] v = refl
marked_next W (u ∷ vs) v = marked_next (set W (picked_at + u) 2) vs v

pub marked_long : (W vs : List ℕ) → length (kept_marked W vs) ≡ length W
marked_long W [] = refl
marked_long W (u ∷ vs) = marked_long (set W (picked_at + u) 2) vs ∙ length-set W (picked_at + u) 2

-- what stands before the flags stays
pub marked_before : (W vs : List ℕ) (i : ℕ) → i < picked_at → get_or (kept_marked W vs) i 0 ≡ get_or W i 0
marked_before W [] i l = refl
marked_before W (u ∷ vs) i l = marked_before (set W (picked_at + u) 2) vs i l ∙ get_or-set_other W (picked_at + u) i 2 0 (λ e. omega arith)

-- the flags
pub marked_flag : (W vs : List ℕ) (v : ℕ) → picked_at + v < length W → get_or (kept_marked W vs) (picked_at + v) 0 ≡ cond (among vs v) 2 (get_or W (picked_at + v) 0)
marked_flag W [] v l = refl
marked_flag W (u ∷ vs) v l = marked_flag (set W (picked_at + u) 2) vs v (omega (arith, length-set W (picked_at + u) 2)) ∙ go (eqb v u) refl (among vs v)
  where
    go : (b : Bool) → eqb v u ≡ b → (c : Bool) → cond c 2 (get_or (set W (picked_at + u) 2) (picked_at + v) 0) ≡ cond (b || c) 2 (get_or W (picked_at + v) 0)
    go true e true = refl
    go true e false =
        let q : picked_at + v ≡ picked_at + u = ap (λ (k : ℕ). picked_at + k) (eqb-true v u e) in
        ap (λ (k : ℕ). get_or (set W (picked_at + u) 2) k 0) q ∙ get_or-set_same W (picked_at + u) 2 0 (omega (arith, q))
    go false e true = refl
    go false e false = get_or-set_other W (picked_at + u) (picked_at + v) 2 0 (λ q. eqb-false v u e (omega arith))
