-- `links::put_chain` meets its contract.
-- Assumes nothing.
use mathlib.Core.List.{List, [], ◌∷◌}
use mathlib.Core.Path.{◌≡◌, refl, sym, ap, ◌∙◌}
use Prim.Native.Nat.{ℕ, ◌+◌, ◌-◌, ◌*◌, ◌≤◌, ◌<◌}
use lib.ListN.{length}
use Rattle.le.specs.Rows.{puts}
use Rattle.le.proofs.Rows.{holds_less, holds_same, length_puts, puts_none}
use Rattle.links.specs.Links.{cell_count}
use Rattle.links.proofs.Chains.{Turned, going_start, going_turn, going_within, going_done, starts_at, puts_before}
use native.Mathlib.Omega.{arith}
use Rattle.links.proofs.put_chain.Goals as goal
use Rattle.links.proofs.put_chain.Goals.{After-cell-f-in-loop-f, In-loop-f}

-- the next fresh node has its cell, and there is room for it
inside : (c : In-loop-f)
    → (c.args.nodes * 3 + c.loop-f.f < cell_count c.args.room.now) × (1 ≤ c.loop-f.at)
inside c = let a = c.args in
    let l = c.loop-f in
    let h = c.requires.0.1 in
    let first = c.cell-f in
    let t = going_turn a.nodes a.room.now first.result l.f l.invariant.0 l.invariant.1 c.loop-f-test.true _ refl in
    let within = going_within a.nodes a.room.now first.result _ (l.f ∷ l.invariant.0) t.going h.backwards (starts_at h first.result first.ensures.0) in
    (t.inside, omega (arith, l.invariant.2, within, ap length h.order, c.requires.0.2))

turned : (c : After-cell-f-in-loop-f)
    → Turned c.args.nodes c.args.room.now
    c.cell-f.result c.loop-f.f c.cell-f-in-loop-f.result c.loop-f.invariant.0
turned c = let a = c.args in
    let l = c.loop-f in
    going_turn a.nodes a.room.now c.cell-f.result l.f l.invariant.0 l.invariant.1 c.loop-f-test.true c.cell-f-in-loop-f.result c.cell-f-in-loop-f.ensures.0

pub cell-f-requires : goal.cell-f-requires
cell-f-requires c = c.requires.0.1.head_held

pub loop-f-init : goal.loop-f-init
loop-f-init c =
    let a = c.args in
    ([], going_start a.nodes a.room.now c.cell-f.result _ (starts_at c.requires.0.1 c.cell-f.result c.cell-f.ensures.0), omega arith, sym (puts_none a.out.now a.r a.end))

pub overflow_sub-at : goal.overflow_sub-at
overflow_sub-at c = (inside c).1

pub put_number-requires : goal.put_number-requires
put_number-requires c =
    let l = c.loop-f in
    let e = l.invariant.2 in (
      holds_same (holds_less c.requires.1 _ (omega (arith, (inside (goal.at.put_number-requires c).In-loop-f).1))) l.out (ap length l.invariant.3 ∙ length_puts c.args.out.now c.args.r l.at l.invariant.0),
      omega (arith, l.invariant.1.few, c.cell-f.ensures.1),
    )

pub cell-f-requires-in-loop-f : goal.cell-f-requires-in-loop-f
cell-f-requires-in-loop-f c = (inside (goal.at.cell-f-requires-in-loop-f c).In-loop-f).0

pub loop-f-smaller : goal.loop-f-smaller
loop-f-smaller c = (turned c).falls

pub loop-f-preserved : goal.loop-f-preserved
loop-f-preserved c =
    let a = c.args in
    let l = c.loop-f in
    let one = (inside (goal.at.loop-f-preserved c).In-loop-f).1 in
    let e = l.invariant.2 in (
      l.f ∷ l.invariant.0,
      (turned c).going,
      omega arith,
      c.put_number.ensures ∙ ap (λ (o : List ℕ). puts o a.r (l.at - 1) (l.f ∷ [])) l.invariant.3
          ∙ puts_before a.out.now a.r (l.at - 1) l.at (l.f ∷ []) l.invariant.0 (omega arith),
    )

pub returns : goal.returns
returns c = λ es h.
    let a = c.args in
    let l = c.loop-f in
    let first = c.cell-f in
    let e : l.invariant.0 ≡ es = sym (going_done a.nodes a.room.now first.result l.f l.invariant.0 l.invariant.1 c.loop-f-test.false _ (starts_at h first.result first.ensures.0)) ∙ h.order in
    let place : l.at ≡ a.end - length es = omega (arith, l.invariant.2, ap length e) in
    l.invariant.3 ∙ (λ i. puts a.out.now a.r (place i) (e i))
