-- `gone::mark` meets its contract.
-- Assumes nothing.
use mathlib.Core.List.{List, [], ◌∷◌, ◌++◌}
use mathlib.Core.Path.{◌≡◌, refl, sym, ap, ◌∙◌}
use Prim.Native.Nat.{ℕ, ◌+◌, ◌<◌}
use native.Mathlib.Nat.{le_antisymm, zero-add}
use lib.ListN.{length-set}
use Rattle.gone.specs.Marks.{marked}
use Rattle.graph.specs.Lists.{among}
use Rattle.le.specs.Rows.{entry, span}
use Rattle.le.proofs.Rows.{span_next}
use Rattle.write.proofs.Grows.{entry_below}
use Rattle.gone.proofs.Marks.{cleared, marked_more}
use native.Mathlib.Omega.{arith}
use Rattle.gone.proofs.mark.Goals as goal
use Rattle.gone.proofs.mark.Goals.{After-number-id}

-- the id that was read is the list's, and below the count
read : (c : After-number-id) → c.number-id.result ≡ entry c.args.ids.now c.args.r (0 + c.loop-k.k)
read c = c.number-id.ensures.0 ∙ ap (entry c.args.ids.now c.args.r) (sym (zero-add c.loop-k.k))

listed : (c : After-number-id) → c.number-id.result < c.args.count
listed c = entry_below c.args.count c.args.ids.now c.args.r 0 c.args.n c.requires.2 c.loop-k.k c.number-id.result (omega arith) (read c)

pub loop-k-init : goal.loop-k-init
unfolding span
loop-k-init c =
    let a = c.args in
    (omega arith, refl, ap (λ (b : List ℕ). marked b a.count) c.clear.ensures ∙ cleared a.room.now a.count (omega arith))

pub bounds-room-id : goal.bounds-room-id
bounds-room-id c = omega (arith, listed c)

pub loop-k-preserved : goal.loop-k-preserved
loop-k-preserved c =
    let a = c.args in
    let l = c.loop-k in
    let ids = span a.ids.now a.r 0 l.k in (
      omega arith,
      simp length-set l.invariant.1,
      marked_more l.room ids a.count c.number-id.result (listed c) (omega (arith, listed c)) l.invariant.2
          ∙ ap among ((λ i. ids ++ (read c i ∷ [])) ∙ sym (span_next a.ids.now a.r 0 l.k)),
    )

pub returns : goal.returns
returns c =
    let a = c.args in
    let l = c.loop-k in
    l.invariant.2 ∙ ap (λ (k : ℕ). among (span a.ids.now a.r 0 k)) (le_antisymm l.invariant.0 c.loop-k-test.false)
