-- `replay::calls::two_numbers_and_one_in` meets its contract.
-- Assumes nothing.
use mathlib.Core.Path.{ap, ◌∙◌}
use Prim.Native.Nat.{ℕ}
use borrow.Author.Rules.{rules}
use Rattle.graph.specs.Calls.{add_edge_source_call, add_edge_target_call, unify_call}
use Rattle.replay.specs.Due.{answer_to, out_after, map_after}
use Rattle.replay.proofs.Agreed.{agreed, not_so}
use Rattle.replay.proofs.calls.two_numbers_and_one_in.Goals as goal

pub returns-in-9 : goal.returns-in-9
unfolding answer_to out_after map_after
returns-in-9 c = λ e h q m. agreed c.ohg_unify.ensures e _ h (ap (λ (n : ℕ). answer_to n h) c.in-9.is ∙ (λ i. unify_call (q.2 i) (q.0 i) (q.1 i) (q.3 i))) (ap (λ (n : ℕ). out_after n) c.in-9.is) (ap (λ (n : ℕ). map_after n) c.in-9.is) m

pub returns-in-10 : goal.returns-in-10
unfolding answer_to out_after map_after
returns-in-10 c = λ e h q m. agreed c.ohg_add_edge_source.ensures e _ h (ap (λ (n : ℕ). answer_to n h) c.in-10.is ∙ (λ i. add_edge_source_call (q.2 i) (q.0 i) (q.1 i) (q.3 i))) (ap (λ (n : ℕ). out_after n) c.in-10.is) (ap (λ (n : ℕ). map_after n) c.in-10.is) m

pub returns-in-11 : goal.returns-in-11
unfolding answer_to out_after map_after
returns-in-11 c = λ e h q m. agreed c.ohg_add_edge_target.ensures e _ h (ap (λ (n : ℕ). answer_to n h) c.in-11.is ∙ (λ i. add_edge_target_call (q.2 i) (q.0 i) (q.1 i) (q.3 i))) (ap (λ (n : ℕ). out_after n) c.in-11.is) (ap (λ (n : ℕ). map_after n) c.in-11.is) m

pub returns-in_default : goal.returns-in_default
returns-in_default c = λ e. not_so e
