-- `links::cell` meets its contract.
-- Assumes nothing.
use mathlib.Core.Path.{sym, ap, ◌∙◌}
use native.Mathlib.Omega.{arith}
use Rattle.le.specs.Rows.{entry}
use Rattle.le.specs.declared.Row.{Row}
use Rattle.le.proofs.Numbers.{below_each}
use Rattle.links.proofs.Cells.{get_d_cells, cell_low}
use Rattle.links.proofs.cell.Goals as goal

pub returns : goal.returns
returns c =
    let a = c.args in
    let is = c.number.ensures.0 ∙ ap (λ (r : Row). entry a.room.now r a.i) c.cell_row.ensures ∙ sym (get_d_cells a.room.now a.i c.requires) in
    (is, omega (arith, cell_low a.room.now a.i c.requires (below_each 256 a.room.now (λ i l. (c.type_inv.room i).fits))))
