-- `marks::worth` meets its contract.
-- Assumes nothing.
use Rattle.std.proofs.Common.{ℕ, ◌*◌, ◌/◌, ◌%◌, Bool, cond, get_or, sym, ap, ◌∙◌, eq-eqb, ne_eqb}
use Rattle.marks.specs.Tables.{degrees, worth_in}
use Rattle.marks.proofs.worth.Goals as goal

pub returns-then-room-v-eq-REMAINS : goal.returns-then-room-v-eq-REMAINS
unfolding worth_in
returns-then-room-v-eq-REMAINS c =
    let a = c.args in
    ap (λ (w : ℕ). w % 65536 * (w / 65536)) c.word-w.ensures
    ∙ sym (ap (λ (b : Bool). cond b (degrees a.room.now a.v % 65536 * (degrees a.room.now a.v / 65536)) 0) (eq-eqb (get_or a.room.now a.v 0) 1 c.if-room-v-eq-REMAINS.true))

pub returns-else-room-v-eq-REMAINS : goal.returns-else-room-v-eq-REMAINS
unfolding worth_in
returns-else-room-v-eq-REMAINS c =
    let a = c.args in
    sym (ap (λ (b : Bool). cond b (degrees a.room.now a.v % 65536 * (degrees a.room.now a.v / 65536)) 0) (ne_eqb (get_or a.room.now a.v 0) 1 c.if-room-v-eq-REMAINS.false))
