-- An edge met on the walk over the edges, as it is written.
-- Assumes nothing.
use mathlib.Core.Bool.{Bool}
use mathlib.Core.List.{List}
use mathlib.Core.Path.{◌≡◌}
use Prim.Native.Nat.{ℕ}
use Rattle.graph.specs.Delete.{renamed_edge}
use Rattle.graph.specs.Form.{edge_row}
use Rattle.form.specs.Form.{body_of}
use Rattle.form.specs.declared.EdgeAt.{EdgeAt}
use Rattle.form.specs.declared.Sizes.{Sizes}
use Rattle.write.proofs.Edges.{edge_no, Met}
use Rattle.moved.specs.Places.{edge_of}

-- an edge whose ids stand where they are read is written as the edge
pub same_row : {b : List ℕ} {z : Sizes} {i k : ℕ} {e : EdgeAt} → Met b (body_of z) z i k e → (goes : ℕ → Bool)
    → edge_row (renamed_edge goes (edge_of b z e)) ≡ edge_row (renamed_edge goes (edge_no b i))
same_row m goes = λ j. edge_row (renamed_edge goes (record { label = 0; sources = m.sources j; targets = m.targets j }))
