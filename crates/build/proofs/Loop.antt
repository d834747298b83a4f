-- The steps one after the other: what is left of them, from the graph that was reached.
-- Assumes nothing.
use mathlib.Core.List.{List, [], ◌∷◌}
use mathlib.Core.Path.{◌≡◌, sym, ap, ◌∙◌}
use Prim.Native.Nat.{ℕ, zero, suc, ◌+◌, ◌≤◌, ◌<◌}
use native.Mathlib.Numerals.{add-one}
use native.Mathlib.Omega.{arith}
use lib.ListN.{length, get_or, drop}
use lib.Seq.{drop-cons, drop-nil}
use Rattle.graph.specs.Answer.{Answer, refused, answered, ◌>>=◌}
use Rattle.graph.specs.Graph.{Graph}
use Rattle.graph.specs.Answer as answer
use Rattle.steps.specs.Steps.{Step, read_step, steps_in}
use Rattle.steps.specs.Calls as calls
use Rattle.steps.specs.Calls.{Built, stopped, built, ◌at_step◌, ◌then◌}
use Rattle.steps.proofs.LaidDown.{steps_next, steps_stop}
use Rattle.build.specs.Turns.{FoundStep, step_in}
use Rattle.build.specs.declared.StepAt.{StepAt}

-- ---- what is left of the steps

module _ (b : List ℕ) (at : ℕ) (inside : at < length b) where
  here : drop at b ≡ get_or b at 0 ∷ drop (at + 1) b
  here = drop-cons b at 0 inside ∙ ap (λ (n : ℕ). get_or b at 0 ∷ drop n b) (sym (add-one at))

  pub first_cut : (r : answer.Refusal) → read_step (get_or b at 0) (drop (at + 1) b) ≡ refused r → (k : ℕ) (g : Graph) → calls.turns k (steps_in (drop at b)) g ≡ stopped k r
  unfolding calls.turn ◌>>=◌ ◌at_step◌ ◌then◌
  first_cut r e k g = ap (λ (l : List ℕ). calls.turns k (steps_in l) g) here ∙ ap (λ (l : List (Answer Step)). calls.turns k l g) (steps_stop (get_or b at 0) (drop (at + 1) b) r e)

  module _ (p : StepAt) (f : FoundStep (read_step (get_or b at 0) (drop (at + 1) b)) b at p) where
    one : (k : ℕ) (g : Graph) → calls.turns k (steps_in (drop at b)) g ≡ ((calls.turn (answered (step_in b p)) g) at_step k then λ h. calls.turns (suc k) (steps_in (drop p.end b)) h)
    one k g =
        ap (λ (l : List ℕ). calls.turns k (steps_in l) g) here ∙ ap (λ (l : List (Answer Step)). calls.turns k l g) (steps_next (get_or b at 0) (drop (at + 1) b) f.step f.after f.is)
        ∙ (λ i. (calls.turn (answered (f.in_list i)) g) at_step k then λ h. calls.turns (suc k) (steps_in (f.next i)) h)

    pub first_refused : (r : answer.Refusal) (k : ℕ) (g : Graph) → calls.turn (answered (step_in b p)) g ≡ refused r → calls.turns k (steps_in (drop at b)) g ≡ stopped k r
    unfolding ◌at_step◌ ◌then◌
    first_refused r k g e = one k g ∙ ap (λ (a : Answer Graph). a at_step k then λ h. calls.turns (suc k) (steps_in (drop p.end b)) h) e

    pub first_done : (h : Graph) (k : ℕ) (g : Graph) → calls.turn (answered (step_in b p)) g ≡ answered h → calls.turns k (steps_in (drop at b)) g ≡ calls.turns (k + 1) (steps_in (drop p.end b)) h
    unfolding ◌at_step◌ ◌then◌
    first_done h k g e =
        one k g ∙ ap (λ (a : Answer Graph). a at_step k then λ h. calls.turns (suc k) (steps_in (drop p.end b)) h) e ∙ ap (λ (n : ℕ). calls.turns n (steps_in (drop p.end b)) h) (sym (add-one k))

pub none_left : (b : List ℕ) (at k : ℕ) (g : Graph) → length b ≤ at → calls.turns k (steps_in (drop at b)) g ≡ built g
none_left b at k g h = ap (λ (l : List ℕ). calls.turns k (steps_in l) g) (past b at h)
  where
    past : (l : List ℕ) (n : ℕ) → length l ≤ n → drop n l ≡ []
    past [] n h = drop-nil n
    past (x ∷ l) zero h = absurd (omega arith)
    past (x ∷ l) (suc n) h = past l n (omega arith)
