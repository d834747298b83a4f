-- `copying::put_front` meets its contract.
-- Assumes nothing.
use Rattle.form.proofs.Drawn.{stored_in}
use mathlib.Core.List.{List}
use mathlib.Core.Path.{◌≡◌, ◌∙◌}
use Prim.Native.Nat.{ℕ, ◌+◌, ◌≤◌}
use lib.ListN.{length}
use Rattle.form.proofs.Stored.{stored_rows}
use Rattle.le.specs.Rows.{Holds}
use Rattle.le.proofs.Rows.{holds_less, holds_same}
use Rattle.rewriting.proofs.Parts.{planned}
use Rattle.copying.proofs.Merging.{merged_edges, merged_front}
use native.Mathlib.Omega.{arith}
use Rattle.copying.proofs.put_front.Goals as goal
use Rattle.copying.proofs.put_front.Goals.{After-label_row-to, After-put_header}

-- the edges of the result, and of the form
many : (c : After-put_header) → c.args.drawing.sizes.edges ≤ c.args.y.edges
many c = let p = c.requires.2.2 in omega (arith, (planned p).edges, merged_edges c.requires.0)

-- room for labels in the buffer
held : (c : After-label_row-to) (n : ℕ) → n ≤ c.args.y.nodes + c.args.y.edges → (new : List ℕ) → length new ≡ length c.args.out.now → Holds new c.label_row-to.result n
held c n l new e = rw c.label_row-to.ensures (holds_same (holds_less c.requires.1.labels n l) new e)

pub put_node_labels-requires : goal.put_node_labels-requires
put_node_labels-requires c =
    let p = c.requires.2.2 in
    (c.requires.0, c.requires.1.low, holds_same {b = c.args.out.now} (holds_less c.requires.1.labels _ (omega (arith, p.count, (planned p).all))) _ c.put_header.auto.out)

pub copy_numbers-requires : goal.copy_numbers-requires
copy_numbers-requires c = (
  held (goal.at.copy_numbers-requires c).After-label_row-to _ (omega (arith, many (goal.at.copy_numbers-requires c).After-put_header)) _ (c.put_node_labels.auto.out ∙ c.put_header.auto.out),
  rw c.labels-from.ensures (holds_less (stored_rows (stored_in c.args.drawing)).labels_held _ (omega arith)),
)

pub overflow_sub-y : goal.overflow_sub-y
overflow_sub-y c = omega (arith, many (goal.at.overflow_sub-y c).After-put_header)

pub put_spider_labels-requires : goal.put_spider_labels-requires
put_spider_labels-requires c = held (goal.at.put_spider_labels-requires c).After-label_row-to _ (omega (arith, many (goal.at.put_spider_labels-requires c).After-put_header)) _ (c.copy_numbers.auto.d ∙ c.put_node_labels.auto.out ∙ c.put_header.auto.out)

pub returns : goal.returns
returns c = λ nodes table p.
    merged_front c.requires.0 p c.args.out.now c.labels-from.ensures c.label_row-to.ensures c.put_header.ensures c.put_node_labels.ensures c.copy_numbers.ensures c.put_spider_labels.ensures
