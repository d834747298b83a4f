-- `replay::calls::number_and_three_in` meets its contract.
-- Assumes nothing.
use mathlib.Core.Path.{ap, ◌∙◌}
use Prim.Native.Nat.{ℕ}
use borrow.Author.Rules.{rules}
use Rattle.graph.specs.Calls.{new_edge_call, new_operation_call}
use Rattle.replay.specs.Due.{answer_to, out_after, map_after}
use Rattle.replay.proofs.Agreed.{agreed, not_so}
use Rattle.replay.proofs.calls.number_and_three_in.Goals as goal

pub returns-in-7 : goal.returns-in-7
unfolding answer_to out_after map_after
returns-in-7 c = λ e h q m. agreed c.ohg_new_edge.ensures e _ h (ap (λ (n : ℕ). answer_to n h) c.in-7.is ∙ (λ i. new_edge_call (q.1 i) (q.0 i) (q.2 i) (q.3 i) (q.4 i))) (ap (λ (n : ℕ). out_after n) c.in-7.is) (ap (λ (n : ℕ). map_after n) c.in-7.is) m

pub returns-in-8 : goal.returns-in-8
unfolding answer_to out_after map_after
returns-in-8 c = λ e h q m. agreed c.ohg_new_operation.ensures e _ h (ap (λ (n : ℕ). answer_to n h) c.in-8.is ∙ (λ i. new_operation_call (q.1 i) (q.0 i) (q.2 i) (q.3 i) (q.4 i))) (ap (λ (n : ℕ). out_after n) c.in-8.is) (ap (λ (n : ℕ). map_after n) c.in-8.is) m

pub returns-in_default : goal.returns-in_default
returns-in_default c = λ e. not_so e
