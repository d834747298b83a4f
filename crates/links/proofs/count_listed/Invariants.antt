-- What the loops of `links::count_listed` keep.
-- Assumes nothing.
use mathlib.Core.Path.{◌≡◌}
use Prim.Native.Nat.{◌-◌, ◌≤◌}
use lib.ListN.{length}
use Rattle.graph.specs.Lists.{keep, range}
use Rattle.links.specs.Links.{cells, is_listed}
use Rattle.links.proofs.count_listed.Given as goal

abbrev pub invariant-loop-id : goal.invariant-loop-id
invariant-loop-id l = (l.id ≤ l.nodes) × (l.n ≤ l.id) × (l.n ≡ length (keep (is_listed l.nodes (cells l.room)) (range 0 l.id)))

abbrev pub decreases-loop-id : goal.decreases-loop-id
decreases-loop-id l = l.nodes - l.id
