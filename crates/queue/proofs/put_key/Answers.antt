-- `queue::put_key` meets its contract.
-- Assumes nothing.
use mathlib.Core.List.{List}
use mathlib.Core.Path.{ap, ◌∙◌}
use Prim.Native.Nat.{ℕ, ◌+◌, ◌*◌, ◌/◌}
use lib.ListN.{set}
use Rattle.queue.specs.Places.{placed}
use Rattle.queue.proofs.put_key.Goals as goal

pub returns : goal.returns
unfolding placed
returns c =
    let a = c.args in
    c.set_word-2.ensures ∙ ap (λ (X : List ℕ). set X (a.base + 2 * a.i + 1) (a.k / 4294967296)) c.set_word.ensures
