-- `links::count_listed` meets its contract.
-- Assumes nothing.
use mathlib.Core.List.{List, [], ◌∷◌}
use mathlib.Core.Path.{ap, ◌∙◌}
use Prim.Native.Nat.{ℕ}
use lib.ListN.{length}
use Rattle.graph.specs.Lists.{keep, range}
use Rattle.links.specs.Links.{cells, is_listed}
use Rattle.links.proofs.Cells.{keep_more, range_more}
use native.Mathlib.Omega.{arith}
use Rattle.links.proofs.count_listed.Goals as goal

pub loop-id-preserved : goal.loop-id-preserved
loop-id-preserved c =
    let a = c.args in
    let l = c.loop-id in
    let test = is_listed a.nodes (cells a.room.now) in
    let e = c.one_if_listed-n.ensures.1 a.nodes (omega arith) in
    (omega arith, omega arith, omega (arith, l.invariant.2, e, ap (λ (xs : List ℕ). length (keep test xs)) (range_more l.id) ∙ keep_more test (range 0 l.id) (l.id ∷ [])))
