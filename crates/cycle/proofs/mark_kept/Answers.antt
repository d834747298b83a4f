-- `cycle::mark_kept` meets its contract.
-- Assumes nothing.
use mathlib.Core.List.{[], ◌∷◌, ◌++◌}
use mathlib.Core.Path.{◌≡◌, refl, sym, ap, ◌∙◌, subst}
use Prim.Native.Nat.{ℕ, ◌+◌, ◌<◌}
use native.Mathlib.Nat.{le_antisymm, zero-add}
use native.Mathlib.Omega.{arith}
use lib.ListN.{set}
use Rattle.le.specs.Le.{words}
use Rattle.le.specs.Rows.{entry, span}
use Rattle.le.proofs.Numbers.{below_at}
use Rattle.le.proofs.Rows.{holds_less, length_span, span_at, span_next}
use Rattle.tables.specs.Tables.{most_nodes, picked_at}
use Rattle.cycle.specs.Begin.{kept_marked}
use Rattle.cycle.proofs.Marks.{marked_next}
use Rattle.cycle.proofs.mark_kept.Goals as goal
use Rattle.cycle.proofs.mark_kept.Goals.{After-number-id}

-- the id that was read is the list's, and a node's
read : (c : After-number-id) → c.number-id.result ≡ entry c.args.kept.now c.args.r (0 + c.loop-k.k)
read c = c.number-id.ensures.0 ∙ ap (entry c.args.kept.now c.args.r) (sym (zero-add c.loop-k.k))

low : (c : After-number-id) → c.number-id.result < most_nodes
low c = let k = c.loop-k.k in
    let ids = span c.args.kept.now c.args.r 0 c.args.count in
    let l : k < c.args.count = omega arith in
    subst (λ (v : ℕ). v < most_nodes) (span_at c.args.kept.now c.args.r 0 c.args.count k l ∙ sym (read c))
    (below_at most_nodes ids k c.requires.2 (omega (arith, length_span c.args.kept.now c.args.r 0 c.args.count, l)))

pub loop-k-init : goal.loop-k-init
unfolding span
loop-k-init c = (omega arith, refl, refl)

pub number-id-requires : goal.number-id-requires
number-id-requires c = holds_less c.requires.1 _ (omega arith)

pub overflow_add-id : goal.overflow_add-id
overflow_add-id c = omega (arith, low (goal.at.overflow_add-id c).After-number-id)

pub set_word-requires : goal.set_word-requires
set_word-requires c = omega (arith, low (goal.at.set_word-requires c).After-number-id, c.loop-k.invariant.1)

pub loop-k-preserved : goal.loop-k-preserved
loop-k-preserved c =
    let a = c.args in
    let l = c.loop-k in
    let o = c.set_word in
    let ids = span a.kept.now a.r 0 l.k in
    let is = read (goal.at.loop-k-preserved c).After-number-id in (
      omega arith,
      o.auto.room ∙ l.invariant.1,
      o.ensures ∙ (λ i. set (l.invariant.2 i) (picked_at + c.number-id.result) 2) ∙ sym (marked_next (words a.room.now) ids c.number-id.result)
          ∙ ap (kept_marked (words a.room.now)) ((λ i. ids ++ (is i ∷ [])) ∙ sym (span_next a.kept.now a.r 0 l.k)),
    )

pub returns : goal.returns
returns c =
    let a = c.args in
    let l = c.loop-k in
    l.invariant.2 ∙ ap (λ (k : ℕ). kept_marked (words a.room.now) (span a.kept.now a.r 0 k)) (le_antisymm l.invariant.0 c.loop-k-test.false)
