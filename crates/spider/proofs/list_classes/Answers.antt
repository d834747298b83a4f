-- `spider::list_classes` meets its contract.
-- Assumes nothing.
use mathlib.Core.Path.{◌≡◌, refl, sym, ap, ◌∙◌, subst}
use Prim.Native.Nat.{ℕ, ◌+◌, ◌*◌, ◌<◌}
use native.Mathlib.Nat.{le_antisymm, zero-add}
use lib.ListN.{get_or, replicate}
use lib.Seq.{sets}
use Rattle.graph.specs.Graph.{largest}
use Rattle.graph.specs.Lists.{among}
use Rattle.graph.specs.Merge.{looked}
use Rattle.le.specs.Le.{words}
use Rattle.le.specs.Rows.{entry, span}
use Rattle.le.proofs.Rows.{holds_less}
use Rattle.links.specs.Links.{cells, Heads}
use Rattle.links.proofs.Cells.{list_more, length_cells}
use Rattle.write.proofs.Grows.{entry_below}
use Rattle.copying.specs.Merged.{table_of}
use Rattle.spider.proofs.Behind.{heads_behind}
use Rattle.copying.proofs.Mapping.{looked_next, class_below}
use native.Mathlib.Omega.{arith}
use Rattle.spider.proofs.list_classes.Goals as goal
use Rattle.spider.proofs.list_classes.Goals.{After-number-id}

-- the id that was read, its word, and that both are in bounds
read : (c : After-number-id) → c.number-id.result ≡ entry c.args.ids.now c.args.r (0 + c.loop-j.j)
read c = let a = c.args in c.number-id.ensures.0 ∙ ap (entry a.ids.now a.r) (sym (zero-add c.loop-j.j))

known : (c : After-number-id) → c.number-id.result < largest.most.nodes
known c = entry_below largest.most.nodes c.args.ids.now c.args.r 0 c.args.n c.requires.3 c.loop-j.j c.number-id.result (omega arith) (read c)

class : (c : After-number-id) → get_or (words c.loop-j.room) c.number-id.result 0 ≡ get_or (words c.args.room.now) (entry c.args.ids.now c.args.r (0 + c.loop-j.j)) 0
class c = c.loop-j.invariant.2 c.number-id.result (known c) ∙ ap (λ (v : ℕ). get_or (words c.args.room.now) v 0) (read c)

class_known : (c : After-number-id) → get_or (words c.args.room.now) (entry c.args.ids.now c.args.r (0 + c.loop-j.j)) 0 < c.args.nodes
class_known c = class_below (words c.args.room.now) c.args.ids.now c.args.r 0 c.args.n c.args.nodes c.requires.4 c.loop-j.j (omega arith)

pub loop-j-init : goal.loop-j-init
unfolding span
loop-j-init c = (omega arith, refl, (λ v l. refl), λ h. h)

pub number-id-requires : goal.number-id-requires
number-id-requires c = holds_less c.requires.2 _ (omega arith)

pub list_class-requires : goal.list_class-requires
list_class-requires c = (omega (arith, c.loop-j.invariant.1, c.requires.0), known (goal.at.list_class-requires c).After-number-id, omega (arith, class (goal.at.list_class-requires c).After-number-id, class_known (goal.at.list_class-requires c).After-number-id), c.requires.1)

pub loop-j-preserved : goal.loop-j-preserved
loop-j-preserved c =
    let a = c.args in
    let l = c.loop-j in
    let o = c.list_class in
    let W = words a.room.now in
    let table = cells (table_of l.room) in (
      omega arith,
      o.auto.room ∙ l.invariant.1,
      (λ v h. o.ensures.1 v h ∙ l.invariant.2 v h),
      λ h. rw (looked_next W a.ids.now a.r 0 l.j)
          (list_more a.nodes table _ (looked W (span a.ids.now a.r 0 l.j)) _ (class_known (goal.at.loop-j-preserved c).After-number-id)
          (omega (arith, length_cells (table_of l.room), heads_behind l.room (omega (arith, l.invariant.1, c.requires.0)) a.nodes c.requires.1))
          (o.ensures.0 ∙ ap (λ (x : ℕ). sets table (x * 4) (replicate 4 0)) (class (goal.at.loop-j-preserved c).After-number-id)) (l.invariant.3 h)),
    )

pub returns : goal.returns
returns c =
    let l = c.loop-j in
    let a = c.args in
    let e = le_antisymm l.invariant.0 c.loop-j-test.false in
    λ h. record {
      heads = subst (λ (k : ℕ). Heads a.nodes (cells (table_of l.room)) (among (looked (words a.room.now) (span a.ids.now a.r 0 k)))) e (l.invariant.3 h);
      map = l.invariant.2;
    }
