-- `links::chain_length` meets its contract.
-- Assumes nothing.
use mathlib.Core.List.{[], ◌∷◌}
use mathlib.Core.Path.{refl, sym, ap, ◌∙◌}
use Prim.Native.Nat.{◌+◌, ◌*◌, ◌<◌}
use lib.ListN.{length}
use Rattle.links.specs.Links.{cell_count}
use Rattle.links.proofs.Chains.{Turned, going_start, going_turn, going_done, starts_at}
use native.Mathlib.Omega.{arith}
use Rattle.links.proofs.chain_length.Goals as goal
use Rattle.links.proofs.chain_length.Goals.{After-cell-f-in-loop-f, In-loop-f}

-- the next fresh node has its cell
inside : (c : In-loop-f) → c.args.nodes * 3 + c.loop-f.f < cell_count c.args.room.now
inside c = let a = c.args in
    let l = c.loop-f in
    (going_turn a.nodes a.room.now c.cell-f.result l.f l.invariant.0 l.invariant.1 c.loop-f-test.true _ refl).inside

turned : (c : After-cell-f-in-loop-f)
    → Turned c.args.nodes c.args.room.now c.cell-f.result c.loop-f.f
    c.cell-f-in-loop-f.result c.loop-f.invariant.0
turned c = let a = c.args in
    let l = c.loop-f in
    going_turn a.nodes a.room.now c.cell-f.result l.f l.invariant.0 l.invariant.1 c.loop-f-test.true c.cell-f-in-loop-f.result c.cell-f-in-loop-f.ensures.0

pub cell-f-requires : goal.cell-f-requires
cell-f-requires c = c.requires.1.head_held

pub loop-f-init : goal.loop-f-init
loop-f-init c =
    ([], going_start c.args.nodes c.args.room.now c.cell-f.result _ (starts_at c.requires.1 c.cell-f.result c.cell-f.ensures.0), refl)

pub cell-f-requires-in-loop-f : goal.cell-f-requires-in-loop-f
cell-f-requires-in-loop-f c = inside c

pub loop-f-smaller : goal.loop-f-smaller
loop-f-smaller c = (turned c).falls

pub loop-f-preserved : goal.loop-f-preserved
loop-f-preserved c = (c.loop-f.f ∷ c.loop-f.invariant.0, (turned c).going, omega arith)

pub returns : goal.returns
returns c =
    let a = c.args in
    let l = c.loop-f in
    let first = c.cell-f in (
      λ es h. l.invariant.2 ∙ ap length (sym (going_done a.nodes a.room.now first.result l.f l.invariant.0 l.invariant.1 c.loop-f-test.false _ (starts_at h first.result first.ensures.0)) ∙ h.order),
      omega (arith, l.invariant.1.few),
    )
