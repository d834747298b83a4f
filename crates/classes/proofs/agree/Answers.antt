-- `classes::agree` meets its contract.
-- Assumes nothing.
use mathlib.Core.Path.{sym, ◌∙◌}
use Prim.Native.Nat.{◌<◌}
use native.Mathlib.Nat.{le_antisymm}
use native.Mathlib.Omega.{arith}
use borrow.Author.Count.{below_more}
use Rattle.le.specs.Le.{words}
use Rattle.classes.proofs.Labels.{all_agree, one_differs}
use Rattle.classes.proofs.agree.Goals as goal

pub loop-v-init : goal.loop-v-init
loop-v-init c = (omega arith, λ u l. absurd (omega arith))

pub same_label-requires : goal.same_label-requires
same_label-requires c = let h : c.loop-v.v < c.args.n = omega arith in (c.requires.n_in_bounds.0, c.requires.n_in_bounds.1, h, c.requires.falls.low c.loop-v.v h)

pub returns-then-not-same_label : goal.returns-then-not-same_label
returns-then-not-same_label c = λ table t.
    let a = c.args in
    let l = c.loop-v in
    one_differs a.n (words a.room.now) a.src.now a.r table t l.v (omega arith) (sym c.same_label.ensures ∙ c.if-not-same_label.true)

pub loop-v-preserved : goal.loop-v-preserved
loop-v-preserved c = (omega arith, below_more _ _ c.loop-v.invariant.1 (sym c.same_label.ensures ∙ c.if-not-same_label.false))

pub returns : goal.returns
returns c = λ table t.
    let a = c.args in
    let l = c.loop-v in
    let e = le_antisymm l.invariant.0 c.loop-v-test.false in
    all_agree a.n (words a.room.now) a.src.now a.r table t (λ u h. l.invariant.1 u (omega arith))
