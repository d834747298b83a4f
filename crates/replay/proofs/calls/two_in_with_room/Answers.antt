-- `replay::calls::two_in_with_room` meets its contract.
-- Assumes nothing.
use mathlib.Core.Path.{ap, ◌∙◌}
use Prim.Native.Nat.{ℕ}
use borrow.Author.Rules.{rules}
use Rattle.graph.specs.Calls.{delete_edges_call, spiderize_nodes_call}
use Rattle.choice.specs.Calls.{cycle_breaking_nodes_keeping_call, cycle_breaking_nodes_scanning_call}
use Rattle.replay.specs.Due.{answer_to, out_after, map_after}
use Rattle.replay.proofs.Agreed.{agreed, not_so}
use Rattle.replay.proofs.calls.two_in_with_room.Goals as goal

pub returns-in-12 : goal.returns-in-12
unfolding answer_to out_after map_after
returns-in-12 c = λ e h q m. agreed c.ohg_delete_edges.ensures e _ h (ap (λ (n : ℕ). answer_to n h) c.in-12.is ∙ (λ i. delete_edges_call (q.0 i) (q.1 i) (q.2 i) (q.3 i))) (ap (λ (n : ℕ). out_after n) c.in-12.is) (ap (λ (n : ℕ). map_after n) c.in-12.is) m

pub returns-in-16 : goal.returns-in-16
unfolding answer_to out_after map_after
returns-in-16 c = λ e h q m. agreed c.ohg_spiderize_nodes.ensures e _ h (ap (λ (n : ℕ). answer_to n h) c.in-16.is ∙ (λ i. spiderize_nodes_call (q.0 i) (q.1 i) (q.2 i) (q.3 i))) (ap (λ (n : ℕ). out_after n) c.in-16.is) (ap (λ (n : ℕ). map_after n) c.in-16.is) m

pub returns-in-20 : goal.returns-in-20
unfolding answer_to out_after map_after
returns-in-20 c = λ e h q m. agreed c.ohg_cycle_breaking_nodes_keeping.ensures e _ h (ap (λ (n : ℕ). answer_to n h) c.in-20.is ∙ (λ i. cycle_breaking_nodes_keeping_call (q.0 i) (q.1 i) (q.2 i) (q.3 i))) (ap (λ (n : ℕ). out_after n) c.in-20.is) (ap (λ (n : ℕ). map_after n) c.in-20.is) m

pub returns-in-21 : goal.returns-in-21
unfolding answer_to out_after map_after
returns-in-21 c = λ e h q m. agreed c.ohg_cycle_breaking_nodes_scanning.ensures e _ h (ap (λ (n : ℕ). answer_to n h) c.in-21.is ∙ (λ i. cycle_breaking_nodes_scanning_call (q.0 i) (q.1 i) (q.2 i) (q.3 i))) (ap (λ (n : ℕ). out_after n) c.in-21.is) (ap (λ (n : ℕ). map_after n) c.in-21.is) m

pub returns-in_default : goal.returns-in_default
returns-in_default c = λ e. not_so e
