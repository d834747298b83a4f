-- What the loops of `links::put_spider` keep.
-- Assumes nothing.
use mathlib.Core.List.{List}
use mathlib.Core.Path.{◌≡◌}
use Prim.Native.Nat.{ℕ, ◌-◌, ◌≤◌}
use lib.ListN.{length}
use Rattle.links.specs.Links.{Table}
use Rattle.write.specs.Write.{Put}
use Rattle.links.proofs.Spiders.{side_rows}
use Rattle.links.proofs.put_spider.Given as goal

abbrev pub invariant-loop-side : goal.invariant-loop-side
invariant-loop-side l = (l.side ≤ 2) × (length l.out ≡ length l.initial.out)
    × ((fresh : ℕ → ℕ → List ℕ) → Table l.nodes l.room fresh → Put l.initial.out l.r l.k (side_rows fresh l.id l.side) l.out l.next)

abbrev pub decreases-loop-side : goal.decreases-loop-side
decreases-loop-side l = 2 - l.side
