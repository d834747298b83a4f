-- What the loops of `spider::list_classes` keep.
-- Assumes nothing.
use mathlib.Core.Bool.{false}
use mathlib.Core.Path.{◌≡◌}
use Prim.Native.Nat.{ℕ, ◌-◌, ◌≤◌, ◌<◌}
use lib.ListN.{length, get_or}
use Rattle.graph.specs.Graph.{largest}
use Rattle.graph.specs.Lists.{among}
use Rattle.graph.specs.Merge.{looked}
use Rattle.le.specs.Le.{words}
use Rattle.le.specs.Rows.{span}
use Rattle.links.specs.Links.{cells, Heads}
use Rattle.copying.specs.Merged.{table_of}
use Rattle.spider.proofs.list_classes.Given as goal

abbrev pub invariant-loop-j : goal.invariant-loop-j
invariant-loop-j l = (l.j ≤ l.n) × (length l.room ≡ length l.initial.room) × ((v : ℕ) → v < largest.most.nodes → get_or (words l.room) v 0 ≡ get_or (words l.initial.room) v 0)
    × (Heads l.nodes (cells (table_of l.initial.room)) (λ x. false) → Heads l.nodes (cells (table_of l.room)) (among (looked (words l.initial.room) (span l.ids l.r 0 l.j))))

abbrev pub decreases-loop-j : goal.decreases-loop-j
decreases-loop-j l = l.n - l.j
