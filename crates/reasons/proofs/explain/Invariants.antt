-- What the loops of `reasons::explain` keep.
-- Assumes nothing.
use mathlib.Core.Path.{◌≡◌}
use Prim.Native.Nat.{◌+◌, ◌-◌}
use lib.ListN.{length}
use Rattle.le.specs.Le.{words}
use Rattle.reasons.proofs.Running.{Running}
use Rattle.incidence.specs.Incidence.{source_in}
use Rattle.form.specs.Drawn.{graph_in}
use Rattle.reasons.proofs.explain.Given as goal

abbrev pub invariant-loop-last : goal.invariant-loop-last
invariant-loop-last l = Running (source_in l.drawing) (graph_in l.drawing) l.initial.out (words l.room) l.out l.drawing.sizes.nodes (l.drawing.sizes.nodes + l.drawing.sizes.edges) l.m l.last l.ids × (length l.room ≡ length l.initial.room)

abbrev pub decreases-loop-last : goal.decreases-loop-last
decreases-loop-last l = l.drawing.sizes.nodes + l.drawing.sizes.edges - (l.last + l.ids)
