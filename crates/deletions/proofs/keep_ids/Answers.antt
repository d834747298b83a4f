-- `deletions::keep_ids` meets its contract.
-- Assumes nothing.
use mathlib.Core.Bool.{true}
use mathlib.Core.Logic.{inr}
use mathlib.Core.Path.{◌≡◌, ◌∙◌}
use Prim.Native.Nat.{◌+◌}
use lib.ListN.{get_or}
use Rattle.le.specs.Le.{words}
use Rattle.le.proofs.Numbers.{below_at}
use Rattle.le.proofs.Places.{length_words}
use Rattle.ledger.specs.Tables.{map_size}
use Rattle.ledger.specs.Ledger.{words_in}
use Rattle.ledger.proofs.Words.{length_words_in, words_at}
use Rattle.ledger.proofs.Sifting.{words_turned}
use native.Mathlib.Omega.{arith}
use Rattle.deletions.proofs.keep_ids.Goals as goal

pub keep_id-to-requires : goal.keep_id-to-requires
keep_id-to-requires c =
    let a = c.args in
    let l = c.loop-k in
    let W = words a.room.now in
    let same : get_or (words l.room) (a.off + l.k) 0 ≡ get_or W (a.off + l.k) 0 = l.invariant.1.frame.same (a.off + l.k) (inr (omega arith)) in
    let at = words_at W a.off a.n l.k (omega arith) in
    (omega (arith, same, at, below_at map_size (words_in W a.off a.n) l.k c.requires.0 (omega (arith, length_words_in W a.off a.n))), l.invariant.1.few, omega (arith, c.requires.1), omega (arith, c.requires.2, l.invariant.2))

pub loop-k-preserved : goal.loop-k-preserved
loop-k-preserved c =
    let a = c.args in
    let l = c.loop-k in
    let o = c.keep_id-to in
    (omega arith, words_turned (words a.room.now) (words l.room) (words o.new.room) true a.off l.k l.to o.result l.invariant.1 (omega (arith, c.requires.1, c.requires.2, length_words a.room.now)) (omega (arith, c.requires.1)) o.ensures.words o.ensures.next, o.auto.room ∙ l.invariant.2)
