-- `scan::put_chosen` meets its contract.
-- Assumes nothing.
use mathlib.Core.Path.{refl, sym, ap, ◌∙◌}
use native.Mathlib.Omega.{arith}
use lib.ListN.{length-append, length}
use Rattle.choice.specs.Passing.{shown, shown_below}
use Rattle.choice.proofs.Passing.{shown_next, shown_fits}
use Rattle.scan.specs.Stages.{is_chosen}
use Rattle.le.proofs.Rows.{holds_less, holds_same, puts_none}
use Rattle.scan.proofs.Answering.{shown_turn}
use Rattle.scan.proofs.put_chosen.Goals as goal

pub loop-v-init : goal.loop-v-init
loop-v-init c = (omega arith, refl, sym (puts_none _ _ 0), refl)

pub put_shown-k-requires : goal.put_shown-k-requires
put_shown-k-requires c = let a = c.args in
    let l = c.loop-v in
    (omega arith, omega arith, holds_same (holds_less c.requires.2 _ (omega (arith, l.invariant.1, shown_fits (is_chosen a.room.now) l.v a.nodes (omega arith)))) l.list l.invariant.3)

pub loop-v-preserved : goal.loop-v-preserved
loop-v-preserved c = let a = c.args in
    let l = c.loop-v in
    let p = is_chosen a.room.now in
    let o = c.put_shown-k in (
      omega arith,
      omega (arith, o.ensures.0, l.invariant.1, ap length (shown_next p l.v), length-append (shown_below p l.v) (shown p l.v)),
      shown_turn a.room.now a.list.now l.list o.new.list a.r l.v l.k l.invariant.1 l.invariant.2 o.ensures.1,
      o.auto.list ∙ l.invariant.3,
    )
