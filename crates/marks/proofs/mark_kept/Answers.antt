-- `marks::mark_kept` meets its contract.
-- Assumes nothing.
use Rattle.std.proofs.Common.{◌≡◌, ℕ, ◌+◌, List, [], ◌∷◌, ◌++◌, set, sym, refl, ap, ◌∙◌, zero-add, arith, length-set}
use Rattle.le.specs.Rows.{entry, span}
use Rattle.le.proofs.Rows.{span_next}
use Rattle.marks.specs.Tables.{most_nodes, kept_in}
use Rattle.marks.proofs.Loops.{read_low, kept_next}
use Rattle.marks.proofs.mark_kept.Goals as goal
use Rattle.marks.proofs.mark_kept.Goals.{After-number-id}

-- the id that was read is the list's
read : (c : After-number-id) → c.number-id.result ≡ entry c.args.kept.now c.args.r (0 + c.loop-k.k)
read c = c.number-id.ensures.0 ∙ ap (entry c.args.kept.now c.args.r) (sym (zero-add c.loop-k.k))

pub loop-k-init : goal.loop-k-init
unfolding span
loop-k-init c = (omega arith, refl, refl)

pub bounds-room-id : goal.bounds-room-id
bounds-room-id c =
    let a = c.args in
    omega (arith, read_low a.kept.now a.r 0 a.count c.loop-k.k c.number-id.result (read c) most_nodes (omega arith) c.requires.1, c.loop-k.invariant.1)

pub loop-k-preserved : goal.loop-k-preserved
loop-k-preserved c =
    let a = c.args in
    let l = c.loop-k in
    let x = c.number-id.result in
    let ids = span a.kept.now a.r 0 l.k in (
      omega arith,
      length-set l.room x 3 ∙ l.invariant.1,
      ap (λ (q : List ℕ). set q x 3) l.invariant.2 ∙ sym (kept_next a.room.now ids x) ∙ ap (kept_in a.room.now) ((λ i. ids ++ (read c i ∷ [])) ∙ sym (span_next a.kept.now a.r 0 l.k)),
    )
