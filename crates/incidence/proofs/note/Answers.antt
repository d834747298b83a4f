-- `incidence::note` meets its contract.
-- Assumes nothing.
use mathlib.Core.List.{List}
use mathlib.Core.Path.{ap, ◌∙◌}
use Prim.Native.Nat.{ℕ, ◌+◌, ◌*◌}
use lib.ListN.{set}
use Rattle.tables.specs.Tables.{lists_at}
use Rattle.incidence.specs.Incidence.{noted}
use Rattle.incidence.proofs.note.Goals as goal

pub returns : goal.returns
unfolding noted
returns c =
    let a = c.args in
    c.set_word-3.ensures ∙ ap (λ (W : List ℕ). set W (lists_at + 2 * a.y + 1) a.count) (c.set_word-2.ensures ∙ ap (λ (W : List ℕ). set W (lists_at + 2 * a.y) a.start) c.set_word.ensures)
