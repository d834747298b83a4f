-- `removal::seed_all` meets its contract.
-- Assumes nothing.
use mathlib.Core.Path.{refl, ◌∙◌}
use native.Mathlib.Omega.{arith}
use Rattle.le.specs.Le.{words}
use Rattle.removal.proofs.Seeding.{seeds_start, seeds_turn}
use Rattle.removal.proofs.seed_all.Goals as goal

pub loop-x-init : goal.loop-x-init
loop-x-init c = let a = c.args in (omega arith, omega arith, seeds_start (words a.room.now) a.n, refl)

pub loop-x-preserved : goal.loop-x-preserved
loop-x-preserved c =
    let a = c.args in
    let l = c.loop-x in
    let o = c.seed-end in
    (omega arith, omega (arith, o.ensures.1), seeds_turn (words a.room.now) (words l.room) (words o.new.room) a.n l.x l.end o.result l.invariant.2 o.ensures.0, o.auto.room ∙ l.invariant.3)
