-- `copying::result_sizes` meets its contract.
-- Assumes nothing.
use mathlib.Core.List.{◌++◌}
use mathlib.Core.Path.{refl, ap, ◌∙◌}
use Prim.Native.Nat.{ℕ, ◌+◌, ◌*◌}
use lib.ListN.{length}
use Rattle.graph.specs.Graph.{edge_entries}
use Rattle.graph.specs.Lists.{keep}
use Rattle.links.specs.Links.{cells, is_listed}
use Rattle.write.specs.Write.{counted_as, fitted}
use Rattle.copying.specs.Merged.{table_of, merged_of}
use Rattle.copying.proofs.Merging.{merged_counted}
use Rattle.copying.proofs.Ready.{nodes_few, heads}
use native.Mathlib.Omega.{arith}
use Rattle.copying.proofs.result_sizes.Goals as goal

pub count_listed-spiders-requires : goal.count_listed-spiders-requires
count_listed-spiders-requires c = heads c.requires

pub overflow_mul-spiders : goal.overflow_mul-spiders
overflow_mul-spiders c = omega (arith, c.count_listed-spiders.ensures.1, nodes_few c.requires)

pub overflow_add-nodes : goal.overflow_add-nodes
overflow_add-nodes c = omega (arith, nodes_few c.requires, c.count_fresh-fresh.ensures.0, c.args.drawing.few)

pub overflow_add-z : goal.overflow_add-z
overflow_add-z c = omega (arith, nodes_few c.requires, c.count_listed-spiders.ensures.1, c.args.drawing.few)

pub overflow_add-spiders : goal.overflow_add-spiders
overflow_add-spiders c = omega (arith, nodes_few c.requires, c.count_listed-spiders.ensures.1, c.count_fresh-fresh.ensures.0, c.args.drawing.few)

pub overflow_add-z-2 : goal.overflow_add-z-2
overflow_add-z-2 c = omega (arith, nodes_few c.requires, c.count_listed-spiders.ensures.1, c.count_fresh-fresh.ensures.0, c.args.drawing.few)

pub returns : goal.returns
returns c =
    let a = c.args in
    let h = c.requires in
    let W = cells (table_of a.room.now) in
    let t = is_listed a.nodes W in
    let M = merged_of a.drawing in
    let listed = c.count_listed-spiders in
    let fresh = c.count_fresh-fresh.ensures.1 a.nodes h in
    c.sized.ensures
    ∙ (λ i. fitted (counted_as (a.nodes + fresh i) (a.drawing.sizes.edges + 2 * listed.result) a.drawing.sizes.sources a.drawing.sizes.targets 0) (a.drawing.sizes.ports + (2 * listed.result + fresh i)))
    ∙ merged_counted a.drawing h.proper a.nodes h.count W h.ids h.listed (length (keep t (edge_entries M.edges))) (length (keep t (M.sources ++ M.targets))) (2 * listed.result) refl refl (ap (λ (n : ℕ). 2 * n) listed.ensures.0)
