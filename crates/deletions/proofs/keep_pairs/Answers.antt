-- `deletions::keep_pairs` meets its contract.
-- Assumes nothing.
use mathlib.Core.Logic.{inr}
use mathlib.Core.Path.{◌≡◌, ◌∙◌, subst}
use Prim.Native.Nat.{ℕ, ◌+◌, ◌*◌, ◌≤◌, ◌<◌}
use lib.ListN.{get_or}
use Rattle.le.specs.Le.{words}
use Rattle.le.proofs.Numbers.{below_at}
use Rattle.le.proofs.Places.{length_words}
use Rattle.ledger.specs.Tables.{map_size}
use Rattle.ledger.specs.Ledger.{words_in}
use Rattle.ledger.proofs.Words.{length_words_in, words_at}
use Rattle.ledger.proofs.Sifting.{pairs_turned}
use native.Mathlib.Omega.{arith}
use Rattle.deletions.proofs.keep_pairs.Goals as goal
use Rattle.deletions.proofs.keep_pairs.Goals.{In-loop-k}

-- an entry that is still to be read is as it was, and below the map's size
low : (c : In-loop-k) → (j : ℕ) → 2 * c.loop-k.k ≤ j → j < 2 * c.args.n → get_or (words c.loop-k.room) (c.args.off + j) 0 < map_size
low c j h m = let a = c.args in
    let l = c.loop-k in
    let W = words a.room.now in
    let same : get_or (words l.room) (a.off + j) 0 ≡ get_or W (a.off + j) 0 = l.invariant.1.frame.same (a.off + j) (inr (omega arith)) in
    let at = words_at W a.off (2 * a.n) j m in
    omega (arith, same, at, below_at map_size (words_in W a.off (2 * a.n)) j c.requires.0 (omega (arith, length_words_in W a.off (2 * a.n))))

pub keep_pair-to-requires : goal.keep_pair-to-requires
keep_pair-to-requires c =
    let a = c.args in
    let l = c.loop-k in
    let e : a.off + (2 * l.k + 1) ≡ a.off + 2 * l.k + 1 = omega arith in
    let second : get_or (words l.room) (a.off + 2 * l.k + 1) 0 < map_size = subst (λ (i : ℕ). get_or (words l.room) i 0 < map_size) e (low (goal.at.keep_pair-to-requires c).In-loop-k (2 * l.k + 1) (omega arith) (omega arith)) in
    (low (goal.at.keep_pair-to-requires c).In-loop-k (2 * l.k) (omega arith) (omega arith), second, l.invariant.1.few, omega (arith, c.requires.1), omega (arith, c.requires.2, l.invariant.2))

pub loop-k-preserved : goal.loop-k-preserved
loop-k-preserved c =
    let a = c.args in
    let l = c.loop-k in
    let o = c.keep_pair-to in
    (omega arith, pairs_turned (words a.room.now) (words l.room) (words o.new.room) a.how a.off l.k l.to o.result l.invariant.1 (omega (arith, c.requires.1, c.requires.2, length_words a.room.now)) (omega (arith, c.requires.1)) o.ensures.words o.ensures.next, o.auto.room ∙ l.invariant.2)
