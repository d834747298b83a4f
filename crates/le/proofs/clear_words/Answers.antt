-- `le::clear_words` meets its contract.
-- Assumes nothing.
use mathlib.Core.Path.{◌≡◌, ap, ◌∙◌}
use Prim.Native.Nat.{ℕ, ◌+◌, ◌-◌, ◌*◌}
use native.Mathlib.Omega.{arith}
use lib.ListN.{replicate, length-replicate}
use borrow.Rule.Slice.PartMut.{put_mid, mid_len}
use Rattle.le.specs.Le.{words}
use Rattle.le.proofs.Places.{words_cleared}
use Rattle.le.proofs.Stores.{put_part}
use Rattle.le.proofs.clear_words.Goals as goal

pub returns : goal.returns
returns c = let a = c.args in
    let at = 4 * a.off in
    let end = 4 * (a.off + a.n) in
    let same : end - at ≡ 4 * a.n = omega arith in
    let zeros = replicate {A = ℕ} (4 * a.n) 0 in
    let long = length-replicate {A = ℕ} (4 * a.n) 0 in
    ap (λ z. words (put_mid at (end - at) a.room.now z)) (c.fill.ensures.after (λ y e. e) ∙ ap (λ (k : ℕ). replicate k 0) (mid_len at end a.room.now c.requires ∙ same))
    ∙ ap words (put_part a.room.now at (end - at) zeros (omega arith) (omega arith)) ∙ words_cleared a.room.now a.off a.n (omega arith)
