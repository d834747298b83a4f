-- 02, T-11, for one who calls `ohg_spiderize`: said of the returned number and of the lent buffers alone.
-- Assumes nothing.
use mathlib.Core.List.{List}
use mathlib.Core.Path.{◌≡◌, refl, sym, ap, ◌∙◌, subst}
use Prim.Native.Nat.{ℕ}
use native.Mathlib.Omega.{arith}
use lib.ListN.{length, take, drop}
use lib.Seq.{take_at}
use Rattle.le.specs.Le.{Below}
use Rattle.graph.specs.Answer.{Answer, refused, answered, Result, laid}
use Rattle.graph.specs.Calls.{spiderize_call}
use Rattle.graph.proofs.ExplicitCall.{spiderize_all_answer}
use Rattle.choice.specs.Explicit.{ExplicitForm}
use Rattle.choice.proofs.Explicit.{spiderize_call_explicit}
use Rattle.packing.specs.Packed.{packed, Returns, Ranged}
use Rattle.packing.specs.Unpacked.{code_in, a_in}
use Rattle.ohg.proofs.Ranges.{spiderize_ranged}
use Rattle.packing.proofs.Unpacked.{code_of_packed, a_of_packed}

-- where the code is 0, the first a bytes of the buffer are a form that is explicit
pub spiderized_all_for_the_caller : (src : List ℕ) → Below 256 src → (work_room r : ℕ) (old new : List ℕ) → Returns (spiderize_call src (length old) work_room) r old new → code_in r ≡ 0
    → (length (take (a_in r) new) ≡ a_in r) × ExplicitForm src (take (a_in r) new)
spiderized_all_for_the_caller src t work_room r old new h z = go (spiderize_call src (length old) work_room) refl (spiderize_ranged src t (length old) work_room) h.number h.buffer
  where
    go : (a : Answer Result) → spiderize_call src (length old) work_room ≡ a → Ranged a → r ≡ packed a → new ≡ laid a old
        → (length (take (a_in r) new) ≡ a_in r) × ExplicitForm src (take (a_in r) new)
    go (refused q) e k n b = absurd (omega (arith, code_of_packed (refused q) k n, (k.no q refl).0))
    go (answered x) e k n b =
        let long : length x.bytes ≡ a_in r = sym (ap (λ (y : Result). y.a) (spiderize_all_answer src t (length old) work_room x e).7) ∙ sym (a_of_packed (answered x) k n) in
        let form : x.bytes ≡ take (a_in r) new = sym (ap (take (a_in r)) b ∙ take_at x.bytes (drop (length x.bytes) old) (a_in r) long) in
        subst (λ (l : List ℕ). (length l ≡ a_in r) × ExplicitForm src l) form (long, spiderize_call_explicit src t (length old) work_room x e)
