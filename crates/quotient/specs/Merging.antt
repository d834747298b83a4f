-- What the work room holds while the merged graph is written.
-- Assumes nothing.
use Rattle.std.specs.Prelude.{ℕ, ◌*◌, ◌≤◌, List, length}
use Rattle.le.specs.Le.{words}
use Rattle.graph.specs.Merge.{merged}
use Rattle.form.specs.Drawn.{graph_in}
use Rattle.form.specs.declared.Drawing.{Drawing}
use Rattle.classes.specs.Forest.{Tabled}

-- the map of merging a stored graph stands in the first words of the room
pub record Mapped (d : Drawing) (room : List ℕ) : Type 0 where
  pub held : 4 * d.sizes.nodes ≤ length room
  pub map : Tabled d.sizes.nodes (merged (graph_in d)).ids (words room)
