-- `links::listed` meets its contract.
-- Assumes nothing.
use mathlib.Core.Bool.{not}
use mathlib.Core.Path.{◌∙◌}
use lib.Dec.{eqb}
use Rattle.links.specs.Links.{cells}
use Rattle.links.proofs.Cells.{listed_at}
use Rattle.links.proofs.listed.Goals as goal

pub returns : goal.returns
returns c = λ nodes l. let a = c.args in (λ i. not (eqb (c.cell.ensures.0 i) (c.unlisted.ensures i))) ∙ listed_at nodes (cells a.room.now) a.id l
