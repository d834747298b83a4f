-- `marks::shift_each` meets its contract.
-- Assumes nothing.
use Rattle.std.proofs.Common.{refl, ◌∙◌, arith}
use Rattle.le.specs.Rows.{span}
use Rattle.marks.specs.Tables.{most_nodes}
use Rattle.marks.proofs.Loops.{read_low, shift_turn}
use Rattle.marks.proofs.shift_each.Goals as goal

pub loop-j-init : goal.loop-j-init
unfolding span
loop-j-init c = (omega arith, refl, refl)

pub shift-requires : goal.shift-requires
shift-requires c =
    let a = c.args in
    let l = c.loop-j in
    (read_low a.src.now a.r a.first a.count l.j c.number-id.result c.number-id.ensures.0 most_nodes (omega arith) c.requires.1, omega (arith, l.invariant.1))

pub loop-j-preserved : goal.loop-j-preserved
loop-j-preserved c =
    let a = c.args in
    let l = c.loop-j in
    let o = c.shift in
    let x = c.number-id in
    (omega arith, o.auto.room ∙ l.invariant.1, shift_turn a.src.now a.r a.first a.count l.j x.result x.ensures.0 a.delta a.room.now l.room o.new.room l.invariant.2 o.ensures)
