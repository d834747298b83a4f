-- How the ending of a call with steps came about: each part before it gave something.
-- Assumes nothing.
use mathlib.Core.Logic.{◌⊎◌, inl, inr}
use mathlib.Core.Path.{◌≡◌, refl, sym, ap}
use Prim.Native.Nat.{ℕ}
use native.Mathlib.Omega.{arith}
use Rattle.graph.specs.Answer.{Refusal, Answer, refused, answered}
use Rattle.steps.specs.Calls.{Built, stopped, built, ◌at_step◌, ◌then◌}

pub never_built : {A : Type 0} {x : A} {k : ℕ} {r : Refusal} → built x ≡ stopped k r → ⊥
never_built e = let z : ◌≡◌ {A = ℕ} 0 1 = cc in omega arith

pub same_built : {A : Type 0} {x y : A} → built x ≡ built y → x ≡ y
same_built e = cc

-- ---- where it is an answer

pub came_built : {A B : Type 0} (m : Built A) (next : A → Built B) {y : B} → (m then next) ≡ built y → (x : A) × (m ≡ built x) × (next x ≡ built y)
unfolding ◌then◌
came_built (stopped k r) next e = absurd (never_built (sym e))
came_built (built x) next e = (x, refl, e)

pub at_built : {A : Type 0} (a : Answer A) (k : ℕ) {y : A} → (a at_step k) ≡ built y → a ≡ answered y
unfolding ◌at_step◌
at_built (refused r) k e = absurd (never_built (sym e))
at_built (answered x) k e = ap answered (same_built e)

-- ---- where it is a refusal

pub came_stopped : {A B : Type 0} (m : Built A) (next : A → Built B) {k : ℕ} {r : Refusal} → (m then next) ≡ stopped k r
    → (m ≡ stopped k r) ⊎ ((x : A) × (m ≡ built x) × (next x ≡ stopped k r))
unfolding ◌then◌
came_stopped (stopped j q) next {k} {r} e =
    let index : j ≡ k = cc in
    let same : q ≡ r = cc in
    inl (λ i. stopped (index i) (same i))
came_stopped (built x) next e = inr (x, refl, e)

pub at_stopped : {A : Type 0} (a : Answer A) (k : ℕ) {j : ℕ} {r : Refusal} → (a at_step k) ≡ stopped j r → (a ≡ refused r) × (k ≡ j)
unfolding ◌at_step◌
at_stopped (refused q) k {j} {r} e =
    let same : q ≡ r = cc in
    let index : k ≡ j = cc in
    (ap refused same, index)
at_stopped (answered x) k e = absurd (never_built e)

-- ---- one part after the other

pub then_assoc : {A B C : Type 0} (m : Built A) (f : A → Built B) (g : B → Built C) → ((m then f) then g) ≡ (m then λ a. f a then g)
unfolding ◌then◌
then_assoc (stopped k r) f g = refl
then_assoc (built a) f g = refl

pub then_built : {A : Type 0} (m : Built A) → (m then built) ≡ m
unfolding ◌then◌
then_built (stopped k r) = refl
then_built (built a) = refl
