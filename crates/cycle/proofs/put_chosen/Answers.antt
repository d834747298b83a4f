-- `cycle::put_chosen` meets its contract.
-- Assumes nothing.
use mathlib.Core.Path.{refl, sym, ap, ◌∙◌}
use native.Mathlib.Nat.{le_antisymm}
use native.Mathlib.Omega.{arith}
use lib.ListN.{length-append, length}
use Rattle.choice.specs.Passing.{shown, shown_below}
use Rattle.choice.proofs.Passing.{shown_next, shown_fits}
use Rattle.cycle.specs.Begin.{is_flagged}
use Rattle.le.specs.Le.{words}
use Rattle.le.proofs.Rows.{holds_less, holds_same, puts_none}
use Rattle.cycle.proofs.Flags.{flagged_turn}
use Rattle.cycle.proofs.put_chosen.Goals as goal

pub loop-v-init : goal.loop-v-init
loop-v-init c = (omega arith, refl, sym (puts_none _ _ 0), refl)

pub put_flagged-k-requires : goal.put_flagged-k-requires
put_flagged-k-requires c = let a = c.args in
    let l = c.loop-v in
    (omega arith, omega arith, holds_same (holds_less c.requires.2 _ (omega (arith, l.invariant.1, shown_fits (is_flagged (words a.room.now)) l.v a.nodes (omega arith)))) l.list l.invariant.3)

pub loop-v-preserved : goal.loop-v-preserved
loop-v-preserved c = let a = c.args in
    let l = c.loop-v in
    let p = c.put_flagged-k in
    let W = words a.room.now in (
      omega arith,
      omega (arith, p.ensures.0, l.invariant.1, ap length (shown_next (is_flagged W) l.v), length-append (shown_below (is_flagged W) l.v) (shown (is_flagged W) l.v)),
      flagged_turn W a.list.now l.list p.new.list a.r l.v l.k l.invariant.1 l.invariant.2 p.ensures.1,
      p.auto.list ∙ l.invariant.3,
    )

pub returns : goal.returns
returns c = let l = c.loop-v in
    let e = le_antisymm l.invariant.0 c.loop-v-test.false in
    rw (← e) l.invariant.2
