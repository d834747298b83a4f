-- 02, T-09: what the once-fed check says of each node.
-- Assumes nothing.
use mathlib.Core.Bool.{Bool, true, false, ◌&&◌, and-eq-true_iff}
use mathlib.Core.List.{List, [], ◌∷◌, ◌++◌}
use mathlib.Core.Logic.{◌↔◌}
use mathlib.Core.Path.{◌≡◌, refl, sym, ap, ◌∙◌}
use Prim.Native.Nat.{ℕ, zero, suc, ◌+◌, ◌≤◌, ◌<◌}
use native.Mathlib.Omega.{arith}
use lib.Dec.{eqb}
use lib.ListN.{length}
use borrow.Author.Tests.{eqb-true, eqb-false, eq-eqb}
use Rattle.graph.specs.Checks.{feeds, uses, monogamous}
use Rattle.graph.specs.Graph.{Graph}
use Rattle.graph.specs.Lists.{all, range, occurrences}

-- how often a number stands in two lists, one after the other
pub occurrences_append : (v : ℕ) (xs ys : List ℕ) → occurrences v (xs ++ ys) ≡ occurrences v xs + occurrences v ys
occurrences_append v [] ys = omega arith
occurrences_append v (x ∷ xs) ys = omega (arith, occurrences_append v xs ys)

-- a test of every number of a range
all_range : (test : ℕ → Bool) (from k : ℕ) → (all test (range from k) ≡ true) ↔ ((v : ℕ) → from ≤ v → v < from + k → test v ≡ true)
all_range test from zero = ((λ e v l h. absurd (omega arith)), (λ h. refl))
all_range test from (suc k) =
    let r = all_range test (suc from) k in
    let both = and-eq-true_iff (test from) (all test (range (suc from) k)) in (
      (λ e v l h. go v l h (eqb from v) refl (both.0 e).0 (r.0 (both.0 e).1 v)),
      (λ h. both.1 (h from (omega arith) (omega arith), r.1 (λ v l q. h v (omega arith) (omega arith)))),
    )
  where
    go : (v : ℕ) → from ≤ v → v < from + suc k → (c : Bool) → eqb from v ≡ c → test from ≡ true → (suc from ≤ v → v < suc from + k → test v ≡ true) → test v ≡ true
    go v l h true e t r = ap test (sym (eqb-true from v e)) ∙ t
    go v l h false e t r = let ne : from ≡ v → ⊥ = eqb-false from v e in r (omega arith) (omega arith)

pub monogamous_iff : (g : Graph) → (monogamous g ≡ true) ↔ ((v : ℕ) → v < length g.labels → (occurrences v (feeds g) ≡ 1) × (occurrences v (uses g) ≡ 1))
unfolding monogamous
monogamous_iff g =
    let both : (v : ℕ) → _ = λ v. and-eq-true_iff (eqb (occurrences v (feeds g)) 1) (eqb (occurrences v (uses g)) 1) in
    let r = all_range (λ v. eqb (occurrences v (feeds g)) 1 && eqb (occurrences v (uses g)) 1) 0 (length g.labels) in (
      (λ e v l. let p = (both v).0 (r.0 e v (omega arith) (omega arith)) in (eqb-true _ _ p.0, eqb-true _ _ p.1)),
      (λ h. r.1 (λ v l q. let p = h v (omega arith) in (both v).1 (eq-eqb _ _ p.0, eq-eqb _ _ p.1))),
    )
