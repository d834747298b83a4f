-- `deletions::second_left` meets its contract.
-- Assumes nothing.
use mathlib.Core.Logic.{⊎_elim}
use Rattle.ledger.specs.Left.{second_left}
use Rattle.deletions.proofs.second_left.Goals as goal

pub returns-in-EdgeOfPort : goal.returns-in-EdgeOfPort
unfolding second_left
returns-in-EdgeOfPort c = rw c.in-EdgeOfPort.is

pub returns-in-NodeOfPort : goal.returns-in-NodeOfPort
unfolding second_left
returns-in-NodeOfPort c = ⊎_elim (λ e. rw e c.word.ensures) (λ e. rw e c.word.ensures) c.in-NodeOfPort.is
