-- `replay::calls::one_in_two_out_with_room` meets its contract.
-- Assumes nothing.
use mathlib.Core.Path.{ap, ◌∙◌}
use Prim.Native.Nat.{ℕ}
use borrow.Author.Rules.{rules}
use Rattle.graph.specs.Calls.{quotient_call}
use Rattle.replay.specs.Due.{answer_to, out_after, map_after}
use Rattle.replay.proofs.Agreed.{agreed_map, not_so}
use Rattle.replay.proofs.calls.one_in_two_out_with_room.Goals as goal

pub returns-in-19 : goal.returns-in-19
unfolding answer_to out_after map_after
returns-in-19 c = λ e h q. agreed_map c.ohg_quotient.ensures e _ h (ap (λ (n : ℕ). answer_to n h) c.in-19.is ∙ (λ i. quotient_call (q.0 i) (q.1 i) (q.2 i) (q.3 i))) (ap (λ (n : ℕ). out_after n) c.in-19.is) (ap (λ (n : ℕ). map_after n) c.in-19.is)

pub returns-in_default : goal.returns-in_default
returns-in_default c = λ e. not_so e
