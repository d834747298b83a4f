-- `replay::calls::number_and_one_in` meets its contract.
-- Assumes nothing.
use mathlib.Core.Path.{ap, ◌∙◌}
use Prim.Native.Nat.{ℕ}
use borrow.Author.Rules.{rules}
use Rattle.graph.specs.Calls.{new_node_call}
use Rattle.replay.specs.Due.{answer_to, out_after, map_after}
use Rattle.replay.proofs.Agreed.{agreed, not_so}
use Rattle.replay.proofs.calls.number_and_one_in.Goals as goal

pub returns-in-6 : goal.returns-in-6
unfolding answer_to out_after map_after
returns-in-6 c = λ e h q m. agreed c.ohg_new_node.ensures e _ h (ap (λ (n : ℕ). answer_to n h) c.in-6.is ∙ (λ i. new_node_call (q.1 i) (q.0 i) (q.2 i))) (ap (λ (n : ℕ). out_after n) c.in-6.is) (ap (λ (n : ℕ). map_after n) c.in-6.is) m

pub returns-in_default : goal.returns-in_default
returns-in_default c = λ e. not_so e
