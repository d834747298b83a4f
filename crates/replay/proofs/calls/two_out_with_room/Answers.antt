-- `replay::calls::two_out_with_room` meets its contract.
-- Assumes nothing.
use mathlib.Core.Path.{ap, ◌∙◌}
use Prim.Native.Nat.{ℕ}
use borrow.Author.Rules.{rules}
use Rattle.graph.specs.Calls.{delete_nodes_call}
use Rattle.replay.specs.Due.{answer_to, out_after, map_after}
use Rattle.replay.proofs.Agreed.{agreed_map, not_so}
use Rattle.replay.proofs.calls.two_out_with_room.Goals as goal

pub returns-in-13 : goal.returns-in-13
unfolding answer_to out_after map_after
returns-in-13 c = λ e h q. agreed_map c.ohg_delete_nodes.ensures e _ h (ap (λ (n : ℕ). answer_to n h) c.in-13.is ∙ (λ i. delete_nodes_call (q.0 i) (q.1 i) (q.2 i) (q.3 i) (q.4 i))) (ap (λ (n : ℕ). out_after n) c.in-13.is) (ap (λ (n : ℕ). map_after n) c.in-13.is)

pub returns-in_default : goal.returns-in_default
returns-in_default c = λ e. not_so e
