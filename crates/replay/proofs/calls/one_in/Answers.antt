-- `replay::calls::one_in` meets its contract.
-- Assumes nothing.
use mathlib.Core.Path.{ap, ◌∙◌}
use Prim.Native.Nat.{ℕ}
use borrow.Author.Rules.{rules}
use Rattle.graph.specs.Calls.{discrete_call, identity_call, read_call, rewrite_call}
use Rattle.replay.specs.Due.{answer_to, out_after, map_after}
use Rattle.replay.proofs.Agreed.{agreed, not_so}
use Rattle.replay.proofs.calls.one_in.Goals as goal

pub returns-in-0 : goal.returns-in-0
unfolding answer_to out_after map_after
returns-in-0 c = λ e h q m. agreed c.ohg_read.ensures e _ h (ap (λ (n : ℕ). answer_to n h) c.in-0.is ∙ (λ i. read_call (q.0 i) (q.1 i))) (ap (λ (n : ℕ). out_after n) c.in-0.is) (ap (λ (n : ℕ). map_after n) c.in-0.is) m

pub returns-in-1 : goal.returns-in-1
unfolding answer_to out_after map_after
returns-in-1 c = λ e h q m. agreed c.ohg_rewrite.ensures e _ h (ap (λ (n : ℕ). answer_to n h) c.in-1.is ∙ (λ i. rewrite_call (q.0 i) (q.1 i))) (ap (λ (n : ℕ). out_after n) c.in-1.is) (ap (λ (n : ℕ). map_after n) c.in-1.is) m

pub returns-in-3 : goal.returns-in-3
unfolding answer_to out_after map_after
returns-in-3 c = λ e h q m. agreed c.ohg_discrete.ensures e _ h (ap (λ (n : ℕ). answer_to n h) c.in-3.is ∙ (λ i. discrete_call (q.0 i) (q.1 i))) (ap (λ (n : ℕ). out_after n) c.in-3.is) (ap (λ (n : ℕ). map_after n) c.in-3.is) m

pub returns-in-4 : goal.returns-in-4
unfolding answer_to out_after map_after
returns-in-4 c = λ e h q m. agreed c.ohg_identity.ensures e _ h (ap (λ (n : ℕ). answer_to n h) c.in-4.is ∙ (λ i. identity_call (q.0 i) (q.1 i))) (ap (λ (n : ℕ). out_after n) c.in-4.is) (ap (λ (n : ℕ). map_after n) c.in-4.is) m

pub returns-in_default : goal.returns-in_default
returns-in_default c = λ e. not_so e
