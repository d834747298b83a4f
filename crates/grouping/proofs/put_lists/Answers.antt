-- `grouping::put_lists` meets its contract.
-- Assumes nothing.
use mathlib.Core.Logic.{inr}
use mathlib.Core.List.{List, ◌++◌, append_assoc}
use mathlib.Core.Path.{◌≡◌, refl, sym, ap, ◌∙◌}
use Prim.Native.Nat.{ℕ, ◌+◌, ◌*◌}
use lib.ListN.{length, length-append}
use Rattle.le.specs.Le.{words}
use Rattle.le.specs.Rows.{puts}
use Rattle.le.proofs.Rows.{at_row, at_span, holds_less, holds_same, puts_append}
use Rattle.form.specs.Form.{body_of}
use Rattle.ledger.specs.Tables.{sources_at, targets_at, pairs_at}
use Rattle.ledger.specs.Ledger.{words_in, drawing}
use Rattle.ledger.proofs.Rooms.{words_span}
use Rattle.ledger.proofs.Words.{length_words_in, flat_pairs}
use native.Mathlib.Omega.{arith}
use Rattle.grouping.proofs.put_lists.Goals as goal

pub body_row-body-requires : goal.body_row-body-requires
body_row-body-requires c = c.requires.0.low

pub copy_numbers-requires : goal.copy_numbers-requires
copy_numbers-requires c =
    let w = c.requires.1.within in
    let q = c.requires.3 in
    (at_row c.body_row-body.ensures (holds_less c.requires.0.body _ (omega (arith, c.requires.2))), at_row c.table.ensures (record { wide = inr refl; inside = omega arith }))

pub overflow_add-targets : goal.overflow_add-targets
overflow_add-targets c = let l = c.requires.0.low in omega (arith, c.requires.2)

pub copy_numbers-requires-2 : goal.copy_numbers-requires-2
copy_numbers-requires-2 c =
    let w = c.requires.1.within in
    let q = c.requires.3 in
    (at_row c.body_row-body.ensures (holds_less (holds_same c.requires.0.body _ c.copy_numbers.auto.d) _ (omega (arith, c.requires.2))), at_row c.table-2.ensures (record { wide = inr refl; inside = omega arith }))

pub overflow_add-targets-2 : goal.overflow_add-targets-2
overflow_add-targets-2 c = let l = c.requires.0.low in omega (arith, c.requires.2)

pub overflow_mul-y : goal.overflow_mul-y
overflow_mul-y c = let l = c.requires.0.low in omega arith

pub copy_numbers-requires-3 : goal.copy_numbers-requires-3
copy_numbers-requires-3 c =
    let w = c.requires.1.within in
    let q = c.requires.3 in
    (at_row c.body_row-body.ensures (holds_less (holds_same c.requires.0.body _ (c.copy_numbers-2.auto.d ∙ c.copy_numbers.auto.d)) _ (omega (arith, c.requires.2))), at_row c.table-3.ensures (record { wide = inr refl; inside = omega arith }))

pub returns : goal.returns
unfolding drawing
returns c =
    let a = c.args in
    let y = a.y in
    let b = a.room.now in
    let W = words b in
    let o = a.out.now in
    let w = c.requires.1.within in
    let q = c.requires.3 in
    let s = words_in W sources_at y.sources in
    let t = words_in W targets_at y.targets in
    let p = words_in W pairs_at (2 * y.pairs) in
    let l₁ = at_span b 0 y.sources c.table.ensures (words_span b sources_at y.sources (omega arith)) in
    let l₂ = at_span b 0 y.targets c.table-2.ensures (words_span b targets_at y.targets (omega arith)) in
    let l₃ = at_span b 0 (2 * y.pairs) c.table-3.ensures (words_span b pairs_at (2 * y.pairs) (omega arith)) in
    let row = c.body_row-body.ensures in
    let n₁ : a.lists + y.sources ≡ a.lists + length s = ap (λ (n : ℕ). a.lists + n) (sym (length_words_in W sources_at y.sources)) in
    let n₂ : a.lists + y.sources + y.targets ≡ a.lists + length s + length t = λ i. n₁ i + sym (length_words_in W targets_at y.targets) i in
    let n₃ : a.lists + length s + length t ≡ a.lists + (length s + length t) = omega arith in
    c.copy_numbers-3.ensures
    ∙ (λ i. puts ((c.copy_numbers-2.ensures ∙ (λ i. puts ((c.copy_numbers.ensures ∙ (λ i. puts o (row i) a.lists (l₁ i))) i) (row i) (n₁ i) (l₂ i))) i) (row i) (n₂ i) (l₃ i))
    ∙ ap (λ (x : List ℕ). puts x (body_of y) (a.lists + length s + length t) p) (puts_append o (body_of y) a.lists s t)
    ∙ ap (λ (k : ℕ). puts (puts o (body_of y) a.lists (s ++ t)) (body_of y) k p) (n₃ ∙ ap (λ (n : ℕ). a.lists + n) (sym (length-append s t)))
    ∙ puts_append o (body_of y) a.lists (s ++ t) p ∙ ap (puts o (body_of y) a.lists) (append_assoc s t p ∙ ap (λ (l : List ℕ). s ++ (t ++ l)) (sym (flat_pairs W pairs_at y.pairs)))
