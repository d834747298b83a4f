-- `replay::calls::one_in_with_room` meets its contract.
-- Assumes nothing.
use mathlib.Core.Path.{ap, ◌∙◌}
use Prim.Native.Nat.{ℕ}
use borrow.Author.Rules.{rules}
use Rattle.graph.specs.Calls.{spiderize_call}
use Rattle.choice.specs.Calls.{cycle_breaking_nodes_call, find_loop_call, reasons_call}
use Rattle.replay.specs.Due.{answer_to, out_after, map_after}
use Rattle.replay.proofs.Agreed.{agreed, not_so}
use Rattle.replay.proofs.calls.one_in_with_room.Goals as goal

pub returns-in-14 : goal.returns-in-14
unfolding answer_to out_after map_after
returns-in-14 c = λ e h q m. agreed c.ohg_cycle_breaking_nodes.ensures e _ h (ap (λ (n : ℕ). answer_to n h) c.in-14.is ∙ (λ i. cycle_breaking_nodes_call (q.0 i) (q.1 i) (q.2 i))) (ap (λ (n : ℕ). out_after n) c.in-14.is) (ap (λ (n : ℕ). map_after n) c.in-14.is) m

pub returns-in-15 : goal.returns-in-15
unfolding answer_to out_after map_after
returns-in-15 c = λ e h q m. agreed c.ohg_spiderize.ensures e _ h (ap (λ (n : ℕ). answer_to n h) c.in-15.is ∙ (λ i. spiderize_call (q.0 i) (q.1 i) (q.2 i))) (ap (λ (n : ℕ). out_after n) c.in-15.is) (ap (λ (n : ℕ). map_after n) c.in-15.is) m

pub returns-in-22 : goal.returns-in-22
unfolding answer_to out_after map_after
returns-in-22 c = λ e h q m. agreed c.ohg_find_loop.ensures e _ h (ap (λ (n : ℕ). answer_to n h) c.in-22.is ∙ (λ i. find_loop_call (q.0 i) (q.1 i) (q.2 i))) (ap (λ (n : ℕ). out_after n) c.in-22.is) (ap (λ (n : ℕ). map_after n) c.in-22.is) m

pub returns-in-23 : goal.returns-in-23
unfolding answer_to out_after map_after
returns-in-23 c = λ e h q m. agreed c.ohg_reasons.ensures e _ h (ap (λ (n : ℕ). answer_to n h) c.in-23.is ∙ (λ i. reasons_call (q.0 i) (q.1 i) (q.2 i))) (ap (λ (n : ℕ). out_after n) c.in-23.is) (ap (λ (n : ℕ). map_after n) c.in-23.is) m

pub returns-in_default : goal.returns-in_default
returns-in_default c = λ e. not_so e
