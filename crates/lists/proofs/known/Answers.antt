-- `lists::known` meets its contract.
-- Assumes nothing.
use native.Mathlib.Omega.{arith}
use borrow.Author.Tests.{lt-ltb, le-ltb}
use Rattle.graph.specs.Answer.{◌else◌, ◌>>◌}
use Rattle.graph.specs.Calls.{known}
use Rattle.lists.proofs.known.Goals as goal

pub returns-then-count-id : goal.returns-then-count-id
unfolding known ◌else◌ ◌>>◌
returns-then-count-id c = let a = c.args in rw (le-ltb a.id a.count (omega (arith, c.if-count-id.true)))

pub returns : goal.returns
unfolding known ◌else◌ ◌>>◌
returns c = let a = c.args in rw (lt-ltb a.id a.count (omega (arith, c.if-count-id.false)))
