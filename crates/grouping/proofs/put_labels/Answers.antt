-- `grouping::put_labels` meets its contract.
-- Assumes nothing.
use mathlib.Core.Logic.{inr}
use mathlib.Core.List.{List, [], ◌++◌}
use mathlib.Core.Path.{refl, sym, ap, ◌∙◌}
use Prim.Native.Nat.{ℕ}
use Rattle.le.specs.Le.{words}
use Rattle.le.specs.Rows.{puts}
use Rattle.le.proofs.Rows.{at_row, at_span, holds_less, holds_same}
use Rattle.write.specs.Write.{drawn}
use Rattle.write.proofs.Results.{drawn_start, drawn_labels}
use Rattle.ledger.specs.Tables.{labels_at, edge_labels_at}
use Rattle.ledger.specs.Ledger.{words_in, log_in, drawing}
use Rattle.ledger.proofs.Logs.{edge_labels_lem}
use Rattle.ledger.proofs.Rooms.{words_span}
use Rattle.ledger.proofs.Words.{length_words_in}
use native.Mathlib.Omega.{arith}
use Rattle.grouping.proofs.put_labels.Goals as goal

pub label_row-labels-requires : goal.label_row-labels-requires
label_row-labels-requires c = c.requires.0.low

pub put_header-requires : goal.put_header-requires
put_header-requires c = (c.requires.0.low, c.requires.0.fits, c.requires.0.header)

pub copy_numbers-requires : goal.copy_numbers-requires
copy_numbers-requires c =
    let w = c.requires.1.within in
    let q = c.requires.2 in
    (at_row c.label_row-labels.ensures (holds_less (holds_same c.requires.0.labels _ c.put_header.auto.out) _ (omega arith)), at_row c.table.ensures (record { wide = inr refl; inside = omega arith }))

pub copy_numbers-requires-2 : goal.copy_numbers-requires-2
copy_numbers-requires-2 c =
    let w = c.requires.1.within in
    let q = c.requires.2 in
    (at_row c.label_row-labels.ensures (holds_less (holds_same c.requires.0.labels _ (c.copy_numbers.auto.d ∙ c.put_header.auto.out)) _ (omega arith)), at_row c.table-2.ensures (record { wide = inr refl; inside = omega arith }))

pub returns : goal.returns
unfolding drawing
returns c =
    let a = c.args in
    let y = a.y in
    let b = a.room.now in
    let W = words b in
    let w = c.requires.1.within in
    let q = c.requires.2 in
    let ls = words_in W labels_at y.nodes in
    let es = words_in W edge_labels_at y.edges in
    let l₁ = at_span b 0 y.nodes c.table.ensures (words_span b labels_at y.nodes (omega arith)) in
    let l₂ = at_span b 0 y.edges c.table-2.ensures (words_span b edge_labels_at y.edges (omega arith)) in
    let row = c.label_row-labels.ensures in
    c.copy_numbers-2.ensures ∙ (λ i. puts ((c.copy_numbers.ensures ∙ (λ i. puts ((c.put_header.ensures ∙ sym (drawn_start a.out.now y)) i) (row i) 0 (l₁ i)) ∙ drawn_labels a.out.now y [] ls 0 refl) i) (row i) y.nodes (l₂ i))
    ∙ drawn_labels a.out.now y ls es y.nodes (sym (length_words_in W labels_at y.nodes))
    ∙ ap (λ (l : List ℕ). drawn a.out.now y (ls ++ l) []) (sym (edge_labels_lem 0 es (log_in W y)))
