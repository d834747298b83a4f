-- What the loop of `parts::check_parts` keeps: the first i edges are in order, and the next one begins at k.
-- Assumes nothing.
use Rattle.form.specs.Stored.{graph_of}
use Rattle.parts.proofs.Walking.{Sofar}
use Rattle.parts.proofs.check_parts.Given as goal

abbrev pub invariant-loop-i : goal.invariant-loop-i
invariant-loop-i l = Sofar (graph_of l.drawing.src.now).edges l.i l.k
