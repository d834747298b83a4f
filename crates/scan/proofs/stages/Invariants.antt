-- What the loops of `scan::stages` keep.
-- Assumes nothing.
use mathlib.Core.Path.{◌≡◌}
use mathlib.Core.List.{List}
use Prim.Native.Nat.{ℕ, ◌+◌}
use lib.ListN.{length}
use Rattle.form.specs.Stored.{graph_of}
use Rattle.choice.specs.Arcs.{size}
use Rattle.choice.specs.Drawing.{vertex_count}
use Rattle.marks.specs.Tables.{left}
use Rattle.scan.specs.Stages.{Begun}
use Rattle.scan.proofs.Staging.{Run}
use Rattle.scan.proofs.stages.Given as goal

abbrev pub invariant-loop-gone : goal.invariant-loop-gone
invariant-loop-gone l = (length l.room ≡ length l.initial.room) × (l.gone + l.ids + size (left (vertex_count (graph_of l.drawing.src.now)) l.room) ≡ vertex_count (graph_of l.drawing.src.now)) × ((kept : List ℕ) → Begun kept (graph_of l.drawing.src.now) l.initial.room l.free → Run kept (graph_of l.drawing.src.now) l.room l.gone)

-- each stage takes away what it chooses
abbrev pub decreases-loop-gone : goal.decreases-loop-gone
decreases-loop-gone l = size (left (vertex_count (graph_of l.drawing.src.now)) l.room)
