-- `copying::count_part` meets its contract.
-- Assumes nothing.
use mathlib.Core.List.{List, [], ◌∷◌, ◌++◌}
use mathlib.Core.Path.{◌≡◌, refl, sym, ap, ◌∙◌}
use Prim.Native.Nat.{ℕ, ◌+◌, ◌<◌}
use native.Mathlib.Nat.{le_antisymm}
use lib.ListN.{length, get_or}
use Rattle.graph.specs.Lists.{keep}
use Rattle.graph.specs.Merge.{looked}
use Rattle.le.specs.Rows.{Holds, entry, span}
use Rattle.links.specs.Links.{cells, is_listed}
use Rattle.links.proofs.Cells.{keep_more}
use Rattle.write.proofs.Grows.{entry_below}
use Rattle.copying.proofs.Mapping.{looked_next}
use native.Mathlib.Omega.{arith}
use Rattle.copying.proofs.count_part.Given as given
use Rattle.copying.proofs.count_part.Goals as goal
use Rattle.copying.proofs.count_part.Goals.{After-number-id, In-loop-i}

-- the row of the entries
held : (g : given.Over) (c : In-loop-i g) → Holds c.args.drawing.src.now c.body-row.result (c.args.j + c.args.n)
held g c = rw c.body-row.ensures c.requires.ids.held

-- the id that was read is a node
known : (g : given.Over) (c : After-number-id g) → c.number-id.result < c.args.drawing.sizes.nodes
known g c = let a = c.args in
    entry_below a.drawing.sizes.nodes a.drawing.src.now c.body-row.result a.j a.n (rw c.body-row.ensures c.requires.ids.known) c.loop-i.i _ (omega arith) c.number-id.ensures.0

pub loop-i-init : goal.loop-i-init
unfolding span
loop-i-init g c = (omega arith, omega arith, λ nodes map looks. refl)

pub node-requires : goal.node-requires
node-requires g c = c.requires.given c.number-id.result (known g (goal.at.node-requires g c).After-number-id)

pub one_if_listed-count-requires : goal.one_if_listed-count-requires
one_if_listed-count-requires g c = c.requires.low c.number-id.result c.node.result (known g (goal.at.one_if_listed-count-requires g c).After-number-id) c.node.ensures

pub loop-i-preserved : goal.loop-i-preserved
loop-i-preserved g c =
    let a = c.args in
    let l = c.loop-i in
    let b = a.drawing.src.now in
    let row = c.body-row.result in
    let x = c.node.result in
    let one = c.one_if_listed-count.ensures in (
      omega arith,
      omega (arith, one.0, l.invariant.1),
      λ nodes map looks.
          let test = is_listed nodes (cells a.table.now) in
          let done = looked map (span b row a.j l.i) in
          let is = looks c.number-id.result x (known g (goal.at.loop-i-preserved g c).After-number-id) c.node.ensures in
          let class : x ≡ get_or map (entry b row (a.j + l.i)) 0 = is.0 ∙ ap (λ (v : ℕ). get_or map v 0) c.number-id.ensures.0 in
          let more = ap (λ (xs : List ℕ). length (keep test xs)) (looked_next map b row a.j l.i ∙ ap (λ (v : ℕ). done ++ (v ∷ [])) (sym class)) ∙ keep_more test done (x ∷ []) in
          omega (arith, l.invariant.2 nodes map looks, one.1 nodes is.1, more),
    )

pub returns : goal.returns
returns g c =
    let a = c.args in
    let l = c.loop-i in
    let e = le_antisymm l.invariant.0 c.loop-i-test.false in
    let is = c.body-row.ensures in (
      omega (arith, l.invariant.0, l.invariant.1),
      λ nodes map looks. l.invariant.2 nodes map looks ∙ (λ i. length (keep (is_listed nodes (cells a.table.now)) (looked map (span a.drawing.src.now (is i) a.j (e i))))),
    )
