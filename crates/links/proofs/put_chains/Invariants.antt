-- What the loops of `links::put_chains` keep.
-- Assumes nothing.
use mathlib.Core.List.{List}
use mathlib.Core.Path.{◌≡◌}
use Prim.Native.Nat.{ℕ, ◌+◌, ◌-◌, ◌≤◌}
use lib.ListN.{length}
use Rattle.links.specs.Links.{Chain}
use Rattle.write.specs.Write.{Put}
use Rattle.links.proofs.Spiders.{on_side, sides_before}
use Rattle.links.proofs.put_chains.Given as goal

abbrev pub invariant-loop-half : goal.invariant-loop-half
invariant-loop-half l = (l.half ≤ 2) × (length l.out ≡ length l.initial.out) × (l.n ≡ on_side l.half l.a l.b) × (l.here ≡ on_side l.half l.first l.second)
    × ((A B : List ℕ) → Chain l.nodes l.room l.head A → Chain l.nodes l.room l.tail B → Put l.initial.out l.r (l.k + 2) (sides_before l.first l.id A B l.half) l.out l.next)

abbrev pub decreases-loop-half : goal.decreases-loop-half
decreases-loop-half l = 2 - l.half
