-- `copying::put_renamed_lists` meets its contract.
-- Assumes nothing.
use Rattle.form.proofs.Drawn.{stored_in}
use mathlib.Core.List.{List, [], ◌∷◌}
use mathlib.Core.Path.{◌≡◌, sym, ap, ◌∙◌}
use Prim.Native.Nat.{ℕ, ◌+◌, ◌<◌}
use lib.ListN.{length, get_or, length-map}
use Rattle.form.specs.Form.{body_of, lists_from}
use Rattle.graph.specs.Merge.{looked}
use Rattle.le.specs.Le.{words}
use Rattle.le.specs.Rows.{Holds, entry, span, puts}
use Rattle.le.proofs.Rows.{holds_less, holds_same, length_span, length_puts, puts_none, puts_append}
use Rattle.write.proofs.Grows.{entry_below}
use Rattle.copying.proofs.Mapping.{looked_next}
use Rattle.rewriting.proofs.Parts.{lists_are, lists_read}
use native.Mathlib.Omega.{arith}
use Rattle.copying.proofs.put_renamed_lists.Goals as goal
use Rattle.copying.proofs.put_renamed_lists.Goals.{After-number-id, In-loop-i}

-- the rows of the lists, in the form and in the buffer
held : (c : In-loop-i) → Holds c.args.drawing.src.now c.body-from.result (lists_from c.args.drawing.sizes + (c.args.drawing.sizes.sources + c.args.drawing.sizes.targets))
held c = rw c.body-from.ensures (lists_read (stored_in c.args.drawing)).held

known : (c : After-number-id) → c.number-id.result < c.args.drawing.sizes.nodes
known c = let a = c.args in
    let l = c.loop-i in
    let z = a.drawing.sizes in
    let row = c.body-from.result in
    entry_below z.nodes a.drawing.src.now row (lists_from z) (z.sources + z.targets) (rw c.body-from.ensures (lists_read (stored_in a.drawing)).known) l.i _ (omega arith)
    (c.number-id.ensures.0 ∙ ap (λ (j : ℕ). entry a.drawing.src.now row (j + l.i)) c.lists-j.ensures.0)

room : (c : In-loop-i) (new : List ℕ) → length new ≡ length c.args.out.now → Holds new c.body_row-to.result (lists_from c.args.y + (c.loop-i.i + 1))
room c new e = rw c.body_row-to.ensures (holds_same (holds_less c.requires.1.body _ (omega (arith, c.requires.2, c.requires.3))) new e)

long : (c : In-loop-i) → length c.loop-i.out ≡ length c.args.out.now
long c = ap length c.loop-i.invariant.1 ∙ length_puts _ _ _ _

pub loop-i-init : goal.loop-i-init
unfolding span
loop-i-init c = (omega arith, sym (puts_none _ _ _))

pub number-id-requires : goal.number-id-requires
number-id-requires c = holds_less (held (goal.at.number-id-requires c).In-loop-i) _ (omega (arith, c.lists-j.ensures.0))

pub word-class-requires : goal.word-class-requires
word-class-requires c = omega (arith, known c, c.requires.0)

pub loop-i-preserved : goal.loop-i-preserved
loop-i-preserved c =
    let a = c.args in
    let l = c.loop-i in
    let b = a.drawing.src.now in
    let W = words a.room.now in
    let from = c.body-from.result in
    let to = c.body_row-to.result in
    let j = c.lists-j.result in
    let k = lists_from a.y in
    let done = looked W (span b from j l.i) in
    let class : c.word-class.result ≡ get_or W (entry b from (j + l.i)) 0 = c.word-class.ensures ∙ ap (λ (v : ℕ). get_or W v 0) c.number-id.ensures.0 in
    let at : l.i ≡ length done = sym (length-map (span b from j l.i) (λ (id : ℕ). get_or W id 0) ∙ length_span b from j l.i) in
    (omega arith, c.put_number.ensures ∙ (λ x. puts (l.invariant.1 x) to (k + at x) (class x ∷ [])) ∙ puts_append a.out.now to k done _ ∙ ap (puts a.out.now to k) (sym (looked_next W b from j l.i)))

pub returns : goal.returns
returns c =
    let a = c.args in
    let l = c.loop-i in
    let W = words a.room.now in
    let from = c.body-from.ensures in
    let to = c.body_row-to.ensures in
    let all : l.i ≡ a.drawing.sizes.sources + a.drawing.sizes.targets = omega (arith, l.invariant.0, c.loop-i-test.false) in
    l.invariant.1 ∙ (λ x. puts a.out.now (to x) (lists_from a.y) (looked W (span a.drawing.src.now (from x) (c.lists-j.ensures.0 x) (all x)))) ∙ ap (λ (xs : List ℕ). puts a.out.now (body_of a.y) (lists_from a.y) (looked W xs)) (lists_are (stored_in c.args.drawing))
