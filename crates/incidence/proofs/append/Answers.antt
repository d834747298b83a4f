-- `incidence::append` meets its contract.
-- Assumes nothing.
use mathlib.Core.Path.{◌∙◌}
use Prim.Native.Nat.{◌+◌, ◌*◌}
use lib.ListN.{set}
use Rattle.le.specs.Le.{words}
use Rattle.tables.specs.Tables.{lists_at, entries_at}
use Rattle.incidence.specs.Incidence.{appended}
use Rattle.incidence.proofs.append.Goals as goal

pub returns : goal.returns
unfolding appended
returns c =
    let a = c.args in
    let W = words a.room.now in
    let start = c.word-start.ensures in
    let count = c.word-count.ensures in
    c.set_word-2.ensures ∙ (λ i. set ((c.set_word.ensures ∙ (λ j. set W (entries_at + (start j + count j)) a.t)) i) (lists_at + 2 * a.y + 1) (count i + 1))
