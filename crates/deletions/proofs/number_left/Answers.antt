-- `deletions::number_left` meets its contract.
-- Assumes nothing.
use mathlib.Core.Path.{◌∙◌}
use Rattle.le.specs.Le.{words}
use Rattle.le.proofs.Places.{length_words}
use Rattle.graph.proofs.Kept.{new_id_le}
use Rattle.deletions.specs.Sifts.{is_marked}
use Rattle.deletions.proofs.Maps.{numbering_turn}
use native.Mathlib.Omega.{arith}
use Rattle.deletions.proofs.number_left.Goals as goal

pub number_one-to-requires : goal.number_one-to-requires
number_one-to-requires c =
    let l = c.loop-i in
    let W = words c.args.room.now in
    (omega (arith, c.requires.0), omega (arith, l.invariant.1.count, new_id_le (is_marked W) l.i), omega (arith, c.requires.1, l.invariant.2))

pub loop-i-preserved : goal.loop-i-preserved
loop-i-preserved c =
    let a = c.args in
    let l = c.loop-i in
    let o = c.number_one-to in
    (omega arith, numbering_turn (words a.room.now) (words l.room) (words o.new.room) a.n l.i l.to o.result (omega (arith, c.requires.0, c.requires.1, length_words a.room.now)) (omega arith) l.invariant.1 o.ensures, o.auto.room ∙ l.invariant.2)
