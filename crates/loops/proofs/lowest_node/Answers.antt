-- `loops::lowest_node` meets its contract.
-- Assumes nothing.
use mathlib.Core.Logic.{inl, inr}
use mathlib.Core.Path.{refl, sym, ◌∙◌}
use native.Mathlib.Omega.{arith}
use Rattle.le.specs.Le.{words}
use Rattle.loops.proofs.Next.{all_before}
use Rattle.loops.proofs.lowest_node.Goals as goal

pub loop-v-init : goal.loop-v-init
loop-v-init c u l = absurd (omega arith)

pub returns-then-word-ne0 : goal.returns-then-word-ne0
returns-then-word-ne0 c = record { before = c.loop-v.invariant; live = inr (c.loop-v-test.true, λ z. c.if-word-ne0.true (c.word.ensures ∙ z)) }

pub loop-v-preserved : goal.loop-v-preserved
loop-v-preserved c = all_before (words c.args.room.now) c.loop-v.v c.loop-v.invariant (sym c.word.ensures ∙ c.if-word-ne0.false)

pub returns : goal.returns
returns c = record { before = λ u l. c.loop-v.invariant u (omega (arith, l, c.loop-v-test.false)); live = inl refl }
