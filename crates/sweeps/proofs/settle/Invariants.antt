-- What the loops of `sweeps::settle` keep.
-- Assumes nothing.
use mathlib.Core.Path.{◌≡◌}
use Prim.Native.Nat.{ℕ}
use lib.ListN.{length}
use Rattle.form.specs.Stored.{graph_of}
use Rattle.choice.specs.Arcs.{size}
use Rattle.marks.specs.Tables.{left}
use Rattle.sweeps.specs.Sweeps.{Moves, Sweeps}
use Rattle.sweeps.proofs.settle.Given as goal

abbrev pub invariant-loop : goal.invariant-loop
invariant-loop l = (length l.room ≡ length l.initial.room) × Moves (graph_of l.drawing.src.now) l.initial.room l.room l.gone × ((m : ℕ) × Sweeps (graph_of l.drawing.src.now) l.initial.room l.room m)

-- each sweep but the last takes a node away
abbrev pub decreases-loop : goal.decreases-loop
decreases-loop l = size (left (length (graph_of l.drawing.src.now).labels) l.room)
