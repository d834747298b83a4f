-- `links::list_none` meets its contract.
-- Assumes nothing.
use mathlib.Core.Bool.{false}
use Rattle.links.specs.Links.{cells}
use Rattle.links.proofs.Cells.{length_cells, all_filled}
use native.Mathlib.Omega.{arith}
use Rattle.links.proofs.list_none.Goals as goal

pub returns : goal.returns
returns c = let a = c.args in rw (c.fill.ensures, c.unlisted.ensures) (all_filled (cells a.room.now) a.nodes false (omega (arith, length_cells a.room.now)))
