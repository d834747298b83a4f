-- `build::turns` meets its contract.
-- Assumes nothing.
use mathlib.Core.Path.{sym, ap, ◌∙◌}
use Prim.Native.Nat.{◌+◌}
use native.Mathlib.Omega.{arith}
use lib.ListN.{drop}
use Rattle.le.specs.Le.{words}
use Rattle.graph.specs.Graph.{Graph}
use Rattle.steps.specs.Steps.{steps_in}
use Rattle.steps.specs.Calls as calls
use Rattle.ledger.specs.Ledger.{drawing}
use Rattle.build.proofs.Finding.{some}
use Rattle.build.proofs.Loop.{first_cut, first_refused, first_done}
use Rattle.build.proofs.turns.Goals as goal

pub returns-in-Err : goal.returns-in-Err
returns-in-Err c = let l = c.loop-at in l.invariant.3 ∙ first_cut c.args.steps.now l.at c.loop-at-test.true _ c.in-Err.ensures l.index (drawing (words l.room) l.z)

pub returns-in-Err-turn : goal.returns-in-Err-turn
returns-in-Err-turn c =
    let l = c.loop-at in
    l.invariant.3 ∙ first_refused c.args.steps.now l.at c.loop-at-test.true _ c.in-Ok.ensures _ l.index (drawing (words l.room) l.z) c.in-Err-turn.ensures

pub loop-at-preserved : goal.loop-at-preserved
loop-at-preserved c =
    let l = c.loop-at in
    let b = c.args.steps.now in
    let f = c.in-Ok.ensures in
    let t = f.there in
    let d = c.in-Ok-turn.ensures in (
      t.inside,
      omega (arith, l.invariant.1, t.at, t.lists, t.end, some c.in-Ok.p.kind),
      d.2.sound,
      l.invariant.3 ∙ first_done b l.at c.loop-at-test.true _ f d.0 l.index (drawing (words l.room) l.z) d.1 ∙ ap (λ (h : Graph). calls.turns (l.index + 1) (steps_in (drop c.in-Ok.p.end b)) h) (sym d.2.is),
      c.turn.auto.room ∙ l.invariant.4,
    )
