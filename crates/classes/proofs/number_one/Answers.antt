-- `classes::number_one` meets its contract.
-- Assumes nothing.
use Rattle.le.specs.Le.{words}
use Rattle.classes.proofs.Numbering.{number_own, number_other}
use Rattle.classes.proofs.number_one.Goals as goal

pub returns-then-l-k : goal.returns-then-l-k
returns-then-l-k c =
    let a = c.args in
    let w = c.word-l in
    let t = c.set_word in
    number_own (words a.room.now) (words t.new.room) a.k a.count w.result w.ensures c.if-l-k.true t.ensures

pub returns : goal.returns
returns c =
    let a = c.args in
    let w = c.word-l in
    let q = c.word-id in
    let t = c.set_word-2 in
    number_other (words a.room.now) (words t.new.room) a.k a.count w.result w.ensures c.if-l-k.false q.result q.ensures t.ensures
