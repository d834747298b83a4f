-- What the loops of `cycle::greedy_feedback_nodes` keep.
-- Assumes nothing.
use mathlib.Core.Path.{◌≡◌}
use Prim.Native.Nat.{◌+◌, ◌-◌, ◌≤◌}
use lib.ListN.{length}
use Rattle.removal.specs.Room.{source}
use Rattle.le.specs.Le.{words}
use Rattle.cycle.specs.Stage.{Standing, Underway}
use Rattle.cycle.proofs.Running.{Run}
use Rattle.cycle.proofs.greedy_feedback_nodes.Given as goal

abbrev pub invariant-loop-last : goal.invariant-loop-last
invariant-loop-last l = (l.last ≤ l.n) × Standing (source l.s l.r) (words l.room) l.nodes l.n l.m l.last × ((u : Underway (source l.s l.r) (words l.initial.room) l.nodes l.n l.end) → Run (source l.s l.r) (words l.initial.room) (words l.room) l.nodes l.n l.last l.ids u.arcs) × (length l.room ≡ length l.initial.room)

abbrev pub decreases-loop-last : goal.decreases-loop-last
decreases-loop-last l = l.n - (l.last + l.ids)
