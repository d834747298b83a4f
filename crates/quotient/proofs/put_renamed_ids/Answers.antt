-- `quotient::put_renamed_ids` meets its contract.
-- Assumes nothing.
use mathlib.Core.List.{◌∷◌, []}
use mathlib.Core.Path.{◌≡◌, refl, ap, ◌∙◌, subst}
use Prim.Native.Nat.{ℕ, ◌+◌, ◌<◌}
use native.Mathlib.Nat.{le_antisymm}
use lib.ListN.{get_or}
use Rattle.form.specs.Form.{body_of}
use Rattle.graph.specs.Merge.{looked}
use Rattle.le.specs.Le.{words}
use Rattle.le.specs.Rows.{entry, span, puts}
use Rattle.le.specs.declared.Row.{Row}
use Rattle.le.proofs.Rows.{holds_less, holds_same, holds_index, at_row}
use Rattle.write.specs.Write.{Put}
use Rattle.write.proofs.Results.{put_none}
use Rattle.write.proofs.Grows.{entry_below, put_length, put_more}
use Rattle.quotient.proofs.Renamed.{looked_grow}
use native.Mathlib.Omega.{arith}
use Rattle.quotient.proofs.put_renamed_ids.Goals as goal
use Rattle.quotient.proofs.put_renamed_ids.Goals.{After-number-id}

-- the id that was read is a node
known : (c : After-number-id) → c.number-id.result < c.args.drawing.sizes.nodes
known c = let a = c.args in
    let l = c.loop-i in
    entry_below a.drawing.sizes.nodes a.drawing.src.now (body_of a.drawing.sizes) a.k a.n c.requires.2 l.i _ (omega arith)
    (c.number-id.ensures.0 ∙ ap (λ (r : Row). entry a.drawing.src.now r (a.k + l.i)) c.body-body.ensures)

pub loop-i-init : goal.loop-i-init
unfolding span
loop-i-init c = (omega arith, record { stored = put_none.stored; next = refl })

pub overflow_add-k : goal.overflow_add-k
overflow_add-k c = omega (arith, holds_index c.requires.1)

pub number-id-requires : goal.number-id-requires
number-id-requires c = at_row c.body-body.ensures (holds_less c.requires.1 _ (omega arith))

pub word-class-requires : goal.word-class-requires
word-class-requires c = omega (arith, known c, c.requires.0)

pub overflow_add-k-in-loop-i : goal.overflow_add-k-in-loop-i
overflow_add-k-in-loop-i c = omega (arith, holds_index c.requires.1)

pub put_number-requires : goal.put_number-requires
put_number-requires c = (holds_same (holds_less c.requires.3 _ (omega arith)) _ (put_length c.loop-i.invariant.1), omega arith)

pub loop-i-preserved : goal.loop-i-preserved
loop-i-preserved c =
    let a = c.args in
    let l = c.loop-i in
    let W = words a.room.now in
    let p = c.put_number in
    let read : c.word-class.result ≡ get_or W (entry a.drawing.src.now c.body-body.result (a.k + l.i)) 0 = c.word-class.ensures ∙ ap (λ (id : ℕ). get_or W id 0) c.number-id.ensures.0 in
    let end : a.k + l.i + 1 ≡ a.k + (l.i + 1) = omega arith in (
      omega arith,
      subst (λ (e : ℕ). Put a.out.now a.to a.k (looked W (span a.drawing.src.now c.body-body.result a.k (l.i + 1))) p.new.d e) end
          (put_more (looked_grow W a.drawing.src.now _ a.k a.n) (omega arith) l.invariant.1
          (record { stored = p.ensures ∙ ap (λ (v : ℕ). puts l.out a.to (a.k + l.i) (v ∷ [])) read; next = refl })),
    )

pub returns : goal.returns
returns c =
    let a = c.args in
    let l = c.loop-i in
    let all = le_antisymm l.invariant.0 c.loop-i-test.false in
    coe 0 1 (i. Put a.out.now a.to a.k (looked (words a.room.now) (span a.drawing.src.now (c.body-body.ensures i) a.k (all i))) l.out (a.k + all i)) l.invariant.1
