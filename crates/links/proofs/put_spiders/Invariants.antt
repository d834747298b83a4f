-- What the loops of `links::put_spiders` keep.
-- Assumes nothing.
use mathlib.Core.List.{List}
use mathlib.Core.Path.{◌≡◌}
use Prim.Native.Nat.{ℕ, ◌-◌, ◌≤◌}
use lib.ListN.{length}
use Rattle.links.specs.Links.{cells, Table, spiders}
use Rattle.write.specs.Write.{Put}
use Rattle.links.proofs.put_spiders.Given as goal

abbrev pub invariant-loop-id : goal.invariant-loop-id
invariant-loop-id l = (l.id ≤ l.nodes) × (length l.out ≡ length l.initial.out)
    × ((fresh : ℕ → ℕ → List ℕ) → Table l.nodes l.room fresh → Put l.initial.out l.r l.start (spiders l.nodes (cells l.room) fresh l.id) l.out l.k)

abbrev pub decreases-loop-id : goal.decreases-loop-id
decreases-loop-id l = l.nodes - l.id
