-- `sweeps::block_left` meets its contract.
-- Assumes nothing.
use mathlib.Core.Path.{sym, ◌∙◌}
use native.Mathlib.Omega.{arith}
use Rattle.le.proofs.Rows.{holds_less}
use Rattle.marks.specs.Tables.{most_nodes}
use Rattle.marks.proofs.Loops.{part_below, part_left}
use Rattle.sweeps.proofs.block_left.Goals as goal

pub some_left-requires : goal.some_left-requires
some_left-requires c =
    let a = c.args in
    (holds_less c.requires.0 _ (omega arith), part_below a.src.now a.r a.first a.count _ _ (omega arith) most_nodes c.requires.1, c.requires.2)

pub returns : goal.returns
returns c e =
    let a = c.args in
    part_left a.src.now a.r a.first a.count _ _ (omega arith) a.room.now (sym c.some_left.ensures ∙ e)
