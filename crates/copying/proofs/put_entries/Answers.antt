-- `copying::put_entries` meets its contract.
-- Assumes nothing.
use Rattle.form.proofs.Drawn.{stored_in}
use mathlib.Core.Path.{◌≡◌, sym, ap, ◌∙◌}
use Prim.Native.Nat.{◌+◌}
use Rattle.form.specs.Form.{body_of, lists_from}
use Rattle.form.specs.Stored.{graph_of}
use Rattle.form.proofs.Stored.{stored_rows}
use Rattle.graph.specs.Form.{edge_row}
use Rattle.graph.specs.Lists.{joined}
use Rattle.le.specs.Rows.{span, puts}
use Rattle.le.proofs.Rows.{holds_less, holds_same}
use Rattle.rewriting.specs.Rewriting.{ids_at}
use Rattle.rewriting.proofs.Lists.{rows_size, rows_stored}
use Rattle.rewriting.proofs.Parts.{lists_are}
use native.Mathlib.Omega.{arith}
use Rattle.copying.proofs.put_entries.Goals as goal

pub copy_numbers-requires : goal.copy_numbers-requires
copy_numbers-requires c = (
  rw c.body_row-to.ensures (holds_less c.requires.0.body _ (omega (arith, c.requires.1, c.lists-rows.ensures.0))),
  rw c.body-from.ensures (holds_less (stored_rows (stored_in c.args.drawing)).body_held _ (omega (arith, c.lists-rows.ensures.0))),
)

pub copy_numbers-requires-2 : goal.copy_numbers-requires-2
copy_numbers-requires-2 c = (
  holds_same {b = c.args.out.now} (rw c.body_row-to.ensures (holds_less c.requires.0.body _ (omega (arith, c.requires.2, c.requires.3)))) _ c.copy_numbers.auto.d,
  rw c.body-from.ensures (holds_less (stored_rows (stored_in c.args.drawing)).body_held _ (omega (arith, c.lists-rows.ensures.0))),
)

pub returns : goal.returns
returns c =
    let a = c.args in
    let s = stored_in a.drawing in
    let b = a.drawing.src.now in
    let from = c.body-from.ensures in
    let to = c.body_row-to.ensures in
    let rows = c.lists-rows.ensures.0 in
    let edges : span b (body_of a.drawing.sizes) 0 (lists_from a.drawing.sizes) ≡ joined edge_row (graph_of b).edges = ap (ids_at b a.drawing.sizes 0) (sym (rows_size s)) ∙ rows_stored s in
    let first = c.copy_numbers.ensures ∙ (λ i. puts a.out.now (to i) 0 (span b (from i) 0 (rows i))) ∙ ap (puts a.out.now (body_of a.y) 0) edges in
    c.copy_numbers-2.ensures ∙ (λ i. puts (first i) (to i) (lists_from a.y) (span b (from i) (rows i) (a.drawing.sizes.sources + a.drawing.sizes.targets)))
    ∙ ap (puts (puts a.out.now (body_of a.y) 0 (joined edge_row (graph_of b).edges)) (body_of a.y) (lists_from a.y)) (lists_are s)
