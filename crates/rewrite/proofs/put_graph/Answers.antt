-- `rewrite::put_graph` meets its contract.
-- Assumes nothing.
use mathlib.Core.List.{List}
use mathlib.Core.Path.{◌≡◌, refl, sym, ap, ◌∙◌, subst}
use Prim.Native.Nat.{ℕ, ◌+◌}
use native.Mathlib.Omega.{arith}
use lib.ListN.{length}
use Rattle.le.specs.Rows.{Holds, span, puts}
use Rattle.le.specs.declared.Row.{Row}
use Rattle.graph.specs.Graph.{Counts}
use Rattle.le.proofs.Rows.{holds_less, holds_same, length_puts}
use Rattle.form.specs.Form.{sized, labels_of, body_of, body_size}
use Rattle.form.specs.declared.Sizes.{Sizes}
use Rattle.form.proofs.Stored.{stored_rows}
use Rattle.form.proofs.Drawn.{stored_in}
use Rattle.write.specs.Write.{headed, drawn}
use Rattle.write.proofs.Results.{length_headed}
use Rattle.rewrite.proofs.put_graph.Goals as goal

-- room for n numbers of a row, in a buffer as long as another
held : {b : List ℕ} {r q : Row} {n m : ℕ} → Holds b r n → q ≡ r → (c : List ℕ) → length c ≡ length b → m ≡ n → Holds c q (0 + m)
held {b} {r} {q} {n} {m} h e c l k = holds_less (subst (λ (x : Row). Holds c x n) (sym e) (holds_same h c l)) (0 + m) (omega arith)

-- the header, the labels and the body, one after the other
drew : (old : List ℕ) (y : Sizes) {L B : Row} {ls ms ns qs d e f : List ℕ} → L ≡ labels_of y → B ≡ body_of y → ls ≡ ms → ns ≡ qs → d ≡ headed old y → e ≡ puts d L 0 ls → f ≡ puts e B 0 ns
    → f ≡ drawn old y ms qs
unfolding drawn
drew old y p q r s h k l = l ∙ (λ i. puts ((k ∙ (λ j. puts (h j) (p j) 0 (r j))) i) (q i) 0 (s i))

pub copy_numbers-requires : goal.copy_numbers-requires
copy_numbers-requires c =
    let p = c.requires in
    let d = c.put_header in (
      held p.0.labels c.label_row-to_labels.ensures d.new.out
          (ap length d.ensures ∙ length_headed _ _) (sym (ap (λ (n : Counts). n.nodes + n.edges) p.1)),
      held (stored_rows (stored_in c.args.drawing)).labels_held c.labels.ensures _ refl refl,
    )

pub copy_numbers-requires-2 : goal.copy_numbers-requires-2
copy_numbers-requires-2 c =
    let p = c.requires in
    let n = c.body_size-numbers.ensures in
    let d = c.copy_numbers in
    let e = c.put_header in (
      held p.0.body c.body_row-to_body.ensures d.new.d
          (ap length d.ensures ∙ length_puts _ _ _ _ ∙ ap length e.ensures ∙ length_headed _ _) (n ∙ sym (λ i. body_size (sized 0 (p.1 i) (p.2 i)))),
      held (stored_rows (stored_in c.args.drawing)).body_held c.body.ensures _ refl n,
    )

pub returns : goal.returns
returns c =
    let a = c.args in
    let rows = stored_rows (stored_in a.drawing) in
    let src = a.drawing.src.now in
    drew a.out.now a.y c.label_row-to_labels.ensures c.body_row-to_body.ensures
    (ap (λ (r : Row). span src r 0 (a.drawing.sizes.nodes + a.drawing.sizes.edges)) c.labels.ensures ∙ rows.all_labels)
    ((λ i. span src (c.body.ensures i) 0 (c.body_size-numbers.ensures i)) ∙ rows.body)
    c.put_header.ensures c.copy_numbers.ensures c.copy_numbers-2.ensures
