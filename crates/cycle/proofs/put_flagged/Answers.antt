-- `cycle::put_flagged` meets its contract.
-- Assumes nothing.
use mathlib.Core.Path.{◌≡◌, sym, ap, ◌∙◌}
use mathlib.Core.List.{[], ◌∷◌}
use Prim.Native.Nat.{◌+◌}
use native.Mathlib.Omega.{arith}
use lib.ListN.{length, get_or}
use borrow.Author.Tests.{eq-eqb, ne_eqb}
use Rattle.choice.specs.Passing.{shown}
use Rattle.choice.proofs.Passing.{shown_no, shown_yes}
use Rattle.cycle.specs.Begin.{is_flagged}
use Rattle.tables.specs.Tables.{picked_at}
use Rattle.le.specs.Le.{words}
use Rattle.le.proofs.Rows.{holds_less, holds_index, puts_none}
use Rattle.cycle.proofs.put_flagged.Goals as goal
use Rattle.cycle.proofs.put_flagged.Goals.{Else-word-ne-CHOSEN}

-- v is shown
flagged : (c : Else-word-ne-CHOSEN) → shown (is_flagged (words c.args.room.now)) c.args.v ≡ c.args.v ∷ []
flagged c =
    let a = c.args in
    let W = words a.room.now in
    shown_yes (is_flagged W) a.v (eq-eqb (get_or W (picked_at + a.v) 0) 1 (sym c.word.ensures ∙ c.if-word-ne-CHOSEN.false))

pub returns-then-word-ne-CHOSEN : goal.returns-then-word-ne-CHOSEN
returns-then-word-ne-CHOSEN c =
    let a = c.args in
    let W = words a.room.now in
    rw (shown_no (is_flagged W) a.v (ne_eqb (get_or W (picked_at + a.v) 0) 1 (λ z. c.if-word-ne-CHOSEN.true (c.word.ensures ∙ z)))) (omega arith, sym (puts_none a.list.now a.r a.k))

pub put_number-requires : goal.put_number-requires
put_number-requires c = (holds_less c.requires.2 _ (omega (arith, ap length (flagged (goal.at.put_number-requires c).Else-word-ne-CHOSEN))), omega arith)

pub overflow_add-result : goal.overflow_add-result
overflow_add-result c = omega (arith, ap length (flagged (goal.at.overflow_add-result c).Else-word-ne-CHOSEN), holds_index c.requires.2)

pub returns : goal.returns
returns c = rw (flagged (goal.at.returns c).Else-word-ne-CHOSEN) (omega arith, c.put_number.ensures)
