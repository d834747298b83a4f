-- `replay::calls::none_in` meets its contract.
-- Assumes nothing.
use mathlib.Core.Path.{ap, ◌∙◌}
use Prim.Native.Nat.{ℕ}
use borrow.Author.Rules.{rules}
use Rattle.graph.specs.Calls.{empty_call}
use Rattle.replay.specs.Due.{answer_to, out_after, map_after}
use Rattle.replay.proofs.Agreed.{agreed, not_so}
use Rattle.replay.proofs.calls.none_in.Goals as goal

pub returns-in-2 : goal.returns-in-2
unfolding answer_to out_after map_after
returns-in-2 c = λ e h q m. agreed c.ohg_empty.ensures e _ h (ap (λ (n : ℕ). answer_to n h) c.in-2.is ∙ (λ i. empty_call (q i))) (ap (λ (n : ℕ). out_after n) c.in-2.is) (ap (λ (n : ℕ). map_after n) c.in-2.is) m

pub returns-in_default : goal.returns-in_default
returns-in_default c = λ e. not_so e
