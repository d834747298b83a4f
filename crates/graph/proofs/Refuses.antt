-- What holds of every refusal that a step or a call can give: it holds of those of its tests and steps.
-- Assumes nothing.
use mathlib.Core.Bool.{Bool, true, false, false≢true, ◌||◌, and-eq-true_iff}
use mathlib.Core.List.{List, [], ◌∷◌}
use mathlib.Core.Path.{◌≡◌, refl, sym, ap, ◌∙◌, subst}
use Prim.Native.Nat.{ℕ}
use lib.Dec.{eqb}
use borrow.Author.Tests.{eqb-true}
use Rattle.graph.specs.Answer.{Refusal, Answer, refused, answered, ◌else◌, ◌>>=◌, ◌>>◌}
use Rattle.graph.specs.Lists.{all, member}
use Rattle.graph.proofs.Steps.{never, same_refusal}

pub record Refuses {A : Type 0} (P : Refusal → Type 0) (a : Answer A) : Type 0 where
  pub each : (r : Refusal) → a ≡ refused r → P r

module _ {P : Refusal → Type 0} where
  pub answer_by : {A : Type 0} (x : A) → Refuses P (answered x)
  answer_by x = record { each = λ r e. absurd (never (sym e)) }

  pub refusal_by : {A : Type 0} (r : Refusal) → P r → Refuses {A = A} P (refused r)
  refusal_by r h = record { each = λ q e. subst P (same_refusal e) h }

  -- a test, with what is known where it fails and where it passes
  pub test_when : {A : Type 0} (c : Bool) (r : Refusal) (next : Answer A) → (c ≡ false → P r) → (c ≡ true → Refuses P next) → Refuses P ((c else r) >> next)
  unfolding ◌else◌ ◌>>◌
  test_when true r next h k = k refl
  test_when false r next h k = refusal_by r (h refl)

  pub test_by : {A : Type 0} (c : Bool) (r : Refusal) (next : Answer A) → P r → Refuses P next → Refuses P ((c else r) >> next)
  test_by c r next h k = test_when c r next (λ e. h) (λ e. k)

  -- a step, and what follows where it answers
  pub step_when : {A B : Type 0} (m : Answer A) (next : A → Answer B) → Refuses P m → ((x : A) → m ≡ answered x → Refuses P (next x)) → Refuses P (m >>= next)
  unfolding ◌>>=◌
  step_when (refused r) next h k = record { each = λ q e. h.each q (ap refused (same_refusal e)) }
  step_when (answered x) next h k = k x refl

  pub step_by : {A B : Type 0} (m : Answer A) (next : A → Answer B) → Refuses P m → ((x : A) → Refuses P (next x)) → Refuses P (m >>= next)
  step_by m next h k = step_when m next h (λ x e. k x)

-- ---- which numbers they have

-- a refusal has one of these numbers
abbrev pub RefusedBy : {A : Type 0} → List ℕ → Answer A → Type 0
RefusedBy ns a = Refuses (λ r. member r.no ns ≡ true) a

-- a number of a list passes what all of the list pass
pub member_passes : (test : ℕ → Bool) (ns : List ℕ) (n : ℕ) → all test ns ≡ true → member n ns ≡ true → test n ≡ true
member_passes test [] n h k = absurd (false≢true k)
member_passes test (x ∷ xs) n h k =
    let both = (and-eq-true_iff (test x) (all test xs)).0 h in
    go (eqb n x) refl both.0 (member_passes test xs n both.1) k
  where
    go : (c : Bool) → eqb n x ≡ c → test x ≡ true → (member n xs ≡ true → test n ≡ true) → (c || member n xs) ≡ true → test n ≡ true
    go true e first others q = ap test (eqb-true n x e) ∙ first
    go false e first others q = others q

pub wider_by : {A : Type 0} (ns more : List ℕ) {a : Answer A} → all (λ n. member n more) ns ≡ true → RefusedBy ns a → RefusedBy more a
wider_by ns more h b = record { each = λ r e. member_passes (λ n. member n more) ns r.no h (b.each r e) }
