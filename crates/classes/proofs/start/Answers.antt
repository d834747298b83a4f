-- `classes::start` meets its contract.
-- Assumes nothing.
use mathlib.Core.Path.{refl, ◌∙◌}
use native.Mathlib.Nat.{le_antisymm}
use native.Mathlib.Omega.{arith}
use Rattle.le.specs.Le.{words}
use Rattle.classes.proofs.Trees.{words_fit, own_more, range_forest}
use Rattle.classes.proofs.start.Goals as goal

pub loop-k-init : goal.loop-k-init
loop-k-init c = (omega arith, λ v h. absurd (omega arith), refl)

pub loop-k-preserved : goal.loop-k-preserved
loop-k-preserved c =
    let l = c.loop-k in
    let w = c.set_word in
    let room = words_fit l.room _ c.args.n l.invariant.2 c.requires.0 in
    (omega arith, own_more (words l.room) _ l.k (omega arith) w.ensures l.invariant.1, w.auto.room ∙ l.invariant.2)

pub returns : goal.returns
returns c =
    let l = c.loop-k in
    let e = le_antisymm l.invariant.0 c.loop-k-test.false in
    range_forest _ (words l.room) (λ v h. l.invariant.1 v (omega arith))
