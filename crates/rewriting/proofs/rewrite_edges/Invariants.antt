-- What the loops of `rewriting::rewrite_edges` keep.
-- Assumes nothing.
use mathlib.Core.Path.{◌≡◌}
use Prim.Native.Nat.{◌-◌, ◌≤◌}
use lib.ListN.{length, take}
use Rattle.graph.specs.Form.{edge_start}
use Rattle.graph.specs.Graph.{Graph}
use Rattle.le.specs.Le.{Below}
use Rattle.rewriting.specs.Rewriting.{EdgesPassed, Laid}
use Rattle.rewriting.proofs.rewrite_edges.Given as goal

abbrev pub invariant-loop-i : goal.invariant-loop-i
invariant-loop-i l = (l.i ≤ l.n) × (length l.room ≡ length l.initial.room) × (length l.out ≡ length l.initial.out) × Below 256 l.out
    × ((g : Graph) → Laid g l.nodes l.n l.y l.initial.room l.initial.out → (l.k ≡ edge_start g.edges l.i) × EdgesPassed g l.nodes l.y (take l.i g.edges) l.initial.room l.initial.out l.room l.out l.next)

abbrev pub decreases-loop-i : goal.decreases-loop-i
decreases-loop-i l = l.n - l.i
