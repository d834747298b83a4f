-- What the loops of `incidence::append_some` keep.
-- Assumes nothing.
use mathlib.Core.Path.{◌≡◌}
use Prim.Native.Nat.{◌-◌, ◌≤◌}
use lib.ListN.{length, take}
use Rattle.le.specs.Le.{words}
use Rattle.removal.specs.Room.{source, form_list}
use Rattle.incidence.specs.Incidence.{appended_all}
use Rattle.incidence.proofs.append_some.Given as goal

abbrev pub invariant-loop-j : goal.invariant-loop-j
invariant-loop-j l = (l.j ≤ l.count) × (words l.room ≡ appended_all (take l.j (form_list (source l.src l.r) l.first l.count l.side)) l.t (words l.initial.room)) × (length l.room ≡ length l.initial.room)

abbrev pub decreases-loop-j : goal.decreases-loop-j
decreases-loop-j l = l.count - l.j
