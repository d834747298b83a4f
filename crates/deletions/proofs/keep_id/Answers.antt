-- `deletions::keep_id` meets its contract.
-- Assumes nothing.
use mathlib.Core.Bool.{true}
use mathlib.Core.Path.{ap, ◌∙◌}
use Rattle.le.specs.Le.{words}
use Rattle.ledger.specs.Left.{mapped}
use Rattle.deletions.proofs.Turns.{word_goes, word_stays}
use Rattle.deletions.proofs.keep_id.Goals as goal

pub returns-then-new : goal.returns-then-new
returns-then-new c =
    let a = c.args in
    let W = words a.room.now in
    word_goes W true a.off a.k a.to c.word-new.result (c.word-new.ensures ∙ ap (mapped W) c.word-x.ensures) c.if-new.true

pub returns : goal.returns
returns c =
    let a = c.args in
    let W = words a.room.now in
    let new = c.word-new.ensures ∙ ap (mapped W) c.word-x.ensures in
    word_stays W (words c.set_word.new.room) true a.off a.k a.to c.word-new.result c.word-new.result new c.if-new.false new c.set_word.ensures
