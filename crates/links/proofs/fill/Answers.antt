-- `links::fill` meets its contract.
-- Assumes nothing.
use mathlib.Core.Path.{◌∙◌}
use native.Mathlib.Omega.{arith}
use Rattle.links.specs.Links.{cells}
use Rattle.le.proofs.Tables.{fill_table}
use Rattle.links.proofs.fill.Goals as goal

pub loop-k-preserved : goal.loop-k-preserved
loop-k-preserved c =
    let l = c.loop-k in
    let a = c.args in
    let s = c.set_cell in
    (omega arith, s.ensures ∙ rw l.invariant.1 (fill_table (cells a.room.now) a.from l.k a.v), s.auto.room ∙ l.invariant.2)
