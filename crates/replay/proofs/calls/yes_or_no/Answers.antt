-- `replay::calls::yes_or_no` meets its contract.
-- Assumes nothing.
use mathlib.Core.Path.{ap, ◌∙◌}
use Prim.Native.Nat.{ℕ}
use borrow.Author.Rules.{rules}
use Rattle.graph.specs.Calls.{once_fed_call}
use Rattle.choice.specs.Calls.{no_loop_call}
use Rattle.replay.specs.Due.{answer_to, out_after, map_after}
use Rattle.replay.proofs.Agreed.{agreed_yes, not_so}
use Rattle.replay.proofs.calls.yes_or_no.Goals as goal

pub returns-in-17 : goal.returns-in-17
unfolding answer_to out_after map_after
returns-in-17 c = λ e h q o m. agreed_yes c.ohg_no_loop.ensures e _ h (ap (λ (n : ℕ). answer_to n h) c.in-17.is ∙ (λ i. no_loop_call (q.0 i) (q.1 i))) (ap (λ (n : ℕ). out_after n) c.in-17.is) (ap (λ (n : ℕ). map_after n) c.in-17.is) o m

pub returns-in-18 : goal.returns-in-18
unfolding answer_to out_after map_after
returns-in-18 c = λ e h q o m. agreed_yes c.ohg_once_fed.ensures e _ h (ap (λ (n : ℕ). answer_to n h) c.in-18.is ∙ (λ i. once_fed_call (q.0 i) (q.1 i))) (ap (λ (n : ℕ). out_after n) c.in-18.is) (ap (λ (n : ℕ). map_after n) c.in-18.is) o m

pub returns-in_default : goal.returns-in_default
returns-in_default c = λ e. not_so e
