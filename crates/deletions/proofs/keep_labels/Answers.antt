-- `deletions::keep_labels` meets its contract.
-- Assumes nothing.
use mathlib.Core.Bool.{false}
use mathlib.Core.Path.{◌∙◌}
use Rattle.le.specs.Le.{words}
use Rattle.le.proofs.Places.{length_words}
use Rattle.ledger.proofs.Sifting.{words_turned}
use native.Mathlib.Omega.{arith}
use Rattle.deletions.proofs.keep_labels.Goals as goal

pub loop-k-preserved : goal.loop-k-preserved
loop-k-preserved c =
    let a = c.args in
    let l = c.loop-k in
    let o = c.keep_label-to in
    (omega arith, words_turned (words a.room.now) (words l.room) (words o.new.room) false a.off l.k l.to o.result l.invariant.1 (omega (arith, c.requires.1, c.requires.2, length_words a.room.now)) (omega (arith, c.requires.1)) o.ensures.words o.ensures.next, o.auto.room ∙ l.invariant.2)
