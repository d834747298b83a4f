-- `gone::if_stays` meets its contract.
-- Assumes nothing.
use mathlib.Core.Bool.{Bool, cond}
use mathlib.Core.Path.{sym, ap}
use Rattle.gone.proofs.Marks.{stays, goes}
use native.Mathlib.Omega.{arith}
use Rattle.gone.proofs.if_stays.Goals as goal

pub returns-then-room-id-eq0 : goal.returns-then-room-id-eq0
returns-then-room-id-eq0 c =
    let a = c.args in
    (omega arith, λ n l. sym (ap (λ (t : Bool). cond t 0 a.x) (stays a.room.now n a.id l c.if-room-id-eq0.true)))

pub returns-else-room-id-eq0 : goal.returns-else-room-id-eq0
returns-else-room-id-eq0 c =
    let a = c.args in
    (omega arith, λ n l. sym (ap (λ (t : Bool). cond t 0 a.x) (goes a.room.now n a.id l c.if-room-id-eq0.false)))
