-- What the loop of `parts::count_parts` keeps: the first i edges are counted.
-- Assumes nothing.
use mathlib.Core.Path.{◌≡◌}
use lib.ListN.{take}
use Rattle.form.specs.Stored.{graph_of}
use Rattle.parts.specs.Parts.{parts_of}
use Rattle.parts.proofs.count_parts.Given as goal

abbrev pub invariant-loop-i : goal.invariant-loop-i
invariant-loop-i l = l.parts ≡ parts_of (take l.i (graph_of l.drawing.src.now).edges)
