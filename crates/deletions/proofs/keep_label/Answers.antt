-- `deletions::keep_label` meets its contract.
-- Assumes nothing.
use mathlib.Core.Bool.{false}
use Rattle.le.specs.Le.{words}
use Rattle.deletions.proofs.Turns.{word_goes, word_stays}
use Rattle.deletions.proofs.keep_label.Goals as goal

pub returns-then-word : goal.returns-then-word
returns-then-word c =
    let a = c.args in
    word_goes (words a.room.now) false a.off a.k a.to c.word.result c.word.ensures c.if-word.true

pub returns : goal.returns
returns c =
    let a = c.args in
    word_stays (words a.room.now) (words c.set_word.new.room) false a.off a.k a.to c.word.result c.word-x.result c.word.ensures c.if-word.false c.word-x.ensures c.set_word.ensures
