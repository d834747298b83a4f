-- `grouping::put_drawing` meets its contract.
-- Assumes nothing.
use mathlib.Core.List.{[]}
use mathlib.Core.Path.{◌≡◌, refl, ◌∙◌}
use Prim.Native.Nat.{ℕ}
use lib.ListN.{length}
use Rattle.le.specs.Le.{words}
use Rattle.le.specs.Rows.{puts}
use Rattle.le.proofs.Rows.{at_row, holds_less, holds_same}
use Rattle.graph.specs.Form.{edge_row, label_row}
use Rattle.graph.specs.Lists.{joined}
use Rattle.form.specs.Form.{body_of}
use Rattle.write.proofs.Grows.{put_length}
use Rattle.write.proofs.Results.{drawn_numbers, room_same}
use Rattle.ledger.specs.Ledger.{drawing}
use Rattle.grouping.specs.Grouped.{lists_in}
use Rattle.grouping.proofs.Walks.{edges_long}
use native.Mathlib.Omega.{arith}
use Rattle.grouping.proofs.put_drawing.Goals as goal

pub put_labels-requires : goal.put_labels-requires
put_labels-requires c = (c.requires.0, c.requires.1.sound, c.requires.2)

pub body_row-requires : goal.body_row-requires
body_row-requires c = c.requires.0.low

pub put_edges-lists-requires : goal.put_edges-lists-requires
put_edges-lists-requires c = (c.requires.1, at_row c.body_row.ensures (holds_less (holds_same c.requires.0.body _ c.put_labels.auto.out) _ (omega arith)), c.requires.2)

pub put_lists-requires : goal.put_lists-requires
put_lists-requires c =
    let a = c.args in
    let W = words a.room.now in
    let p = c.put_edges-lists.ensures in
    (room_same c.requires.0 _ (put_length p ∙ c.put_labels.auto.out), c.requires.1.sound, omega (arith, p.next, edges_long W a.y c.requires.1.sound), c.requires.2)

pub returns : goal.returns
returns c =
    let a = c.args in
    let y = a.y in
    let W = words a.room.now in
    let g = drawing W y in
    let o = a.out.now in
    let p = c.put_edges-lists.ensures in
    let es = joined edge_row g.edges in
    let z : 0 ≡ length {A = ℕ} [] = refl in
    let first = p.stored ∙ (λ i. puts (c.put_labels.ensures i) (c.body_row.ensures i) 0 es) ∙ drawn_numbers o y (label_row g) [] es 0 refl in
    let at : c.put_edges-lists.result ≡ length es = omega (arith, p.next) in
    c.put_lists.ensures ∙ (λ i. puts (first i) (body_of y) c.put_edges-lists.result (lists_in g)) ∙ drawn_numbers o y (label_row g) es (lists_in g) c.put_edges-lists.result at
