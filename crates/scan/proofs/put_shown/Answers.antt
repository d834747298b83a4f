-- `scan::put_shown` meets its contract.
-- Assumes nothing.
use mathlib.Core.Path.{◌≡◌, sym}
use mathlib.Core.List.{[], ◌∷◌}
use native.Mathlib.Omega.{arith}
use lib.ListN.{get_or}
use borrow.Author.Tests.{eq-eqb, ne_eqb}
use Rattle.choice.specs.Passing.{shown}
use Rattle.choice.proofs.Passing.{shown_no, shown_yes}
use Rattle.scan.specs.Stages.{is_chosen}
use Rattle.le.proofs.Rows.{puts_none}
use Rattle.scan.proofs.put_shown.Goals as goal
use Rattle.scan.proofs.put_shown.Goals.{Else-room-v-ne-CHOSEN}

-- v is shown
chosen : (c : Else-room-v-ne-CHOSEN) → shown (is_chosen c.args.room.now) c.args.v ≡ c.args.v ∷ []
chosen c = let a = c.args in shown_yes (is_chosen a.room.now) a.v (eq-eqb (get_or a.room.now a.v 0) 2 c.if-room-v-ne-CHOSEN.false)

pub returns-then-room-v-ne-CHOSEN : goal.returns-then-room-v-ne-CHOSEN
returns-then-room-v-ne-CHOSEN c =
    let a = c.args in
    rw (shown_no (is_chosen a.room.now) a.v (ne_eqb (get_or a.room.now a.v 0) 2 c.if-room-v-ne-CHOSEN.true)) (omega arith, sym (puts_none a.list.now a.r a.k))

pub returns : goal.returns
returns c = rw (chosen (goal.at.returns c).Else-room-v-ne-CHOSEN) (omega arith, c.put_number.ensures)
