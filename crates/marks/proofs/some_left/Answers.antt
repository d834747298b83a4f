-- `marks::some_left` meets its contract.
-- Assumes nothing.
use Rattle.std.proofs.Common.{ℕ, ◌%◌, get_or, sym, refl, ap, ◌∙◌, le_antisymm, arith, eq-eqb}
use Rattle.le.specs.Rows.{span}
use Rattle.marks.specs.Tables.{most_nodes, some_left}
use Rattle.marks.proofs.Loops.{read_low, some_found, none_found}
use Rattle.marks.proofs.some_left.Goals as goal

pub loop-j-init : goal.loop-j-init
unfolding span
loop-j-init c = (omega arith, refl)

pub bounds-room-id : goal.bounds-room-id
bounds-room-id c =
    let a = c.args in
    omega (arith, read_low a.src.now a.r a.first a.count c.loop-j.j c.number-id.result c.number-id.ensures.0 most_nodes (omega arith) c.requires.1)

pub returns-then-room-id-eq1 : goal.returns-then-room-id-eq1
returns-then-room-id-eq1 c =
    let a = c.args in
    let l = c.loop-j in
    let x = c.number-id in
    sym (some_found a.src.now a.r a.first a.count l.j x.result x.ensures.0 a.room.now (omega arith) (eq-eqb (get_or a.room.now x.result 0 % 2) 1 c.if-room-id-eq1.true))

pub loop-j-preserved : goal.loop-j-preserved
loop-j-preserved c =
    let a = c.args in
    let l = c.loop-j in
    let x = c.number-id in
    (omega arith, none_found a.src.now a.r a.first a.count l.j x.result x.ensures.0 a.room.now c.if-room-id-eq1.false l.invariant.1)

pub returns : goal.returns
returns c =
    let a = c.args in
    let l = c.loop-j in
    sym l.invariant.1 ∙ ap (λ (k : ℕ). some_left a.room.now (span a.src.now a.r a.first k)) (le_antisymm l.invariant.0 c.loop-j-test.false)
