-- `replay::calls::number_and_two_in` meets its contract.
-- Assumes nothing.
use mathlib.Core.Path.{ap, ◌∙◌}
use Prim.Native.Nat.{ℕ}
use borrow.Author.Rules.{rules}
use Rattle.graph.specs.Calls.{singleton_call}
use Rattle.replay.specs.Due.{answer_to, out_after, map_after}
use Rattle.replay.proofs.Agreed.{agreed, not_so}
use Rattle.replay.proofs.calls.number_and_two_in.Goals as goal

pub returns-in-5 : goal.returns-in-5
unfolding answer_to out_after map_after
returns-in-5 c = λ e h q m. agreed c.ohg_singleton.ensures e _ h (ap (λ (n : ℕ). answer_to n h) c.in-5.is ∙ (λ i. singleton_call (q.0 i) (q.1 i) (q.2 i) (q.3 i))) (ap (λ (n : ℕ). out_after n) c.in-5.is) (ap (λ (n : ℕ). map_after n) c.in-5.is) m

pub returns-in_default : goal.returns-in_default
returns-in_default c = λ e. not_so e
