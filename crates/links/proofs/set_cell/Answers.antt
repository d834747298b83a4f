-- `links::set_cell` meets its contract.
-- Assumes nothing.
use mathlib.Core.List.{[], ◌∷◌}
use mathlib.Core.Path.{ap, ◌∙◌}
use Rattle.le.specs.Rows.{puts}
use Rattle.le.specs.declared.Row.{Row}
use Rattle.links.specs.Links.{cells}
use Rattle.links.proofs.Cells.{set_cells}
use Rattle.links.proofs.set_cell.Goals as goal

pub returns : goal.returns
returns c =
    let a = c.args in
    ap cells c.put_number.ensures ∙ ap (λ (r : Row). cells (puts a.room.now r a.i (a.v ∷ []))) c.cell_row.ensures
    ∙ set_cells a.room.now a.i c.requires.0 a.v c.requires.1
