-- `ports::put_port` meets its contract.
-- Assumes nothing.
use mathlib.Core.Path.{refl, ◌∙◌}
use native.Mathlib.Omega.{arith}
use Rattle.form.specs.Drawn.{graph_in}
use Rattle.form.specs.Form.{body_of, body_size}
use Rattle.form.proofs.Drawn.{stored_in}
use Rattle.form.proofs.Stored.{stored_rows}
use Rattle.graph.specs.Form.{body}
use Rattle.pieces.proofs.Held.{held}
use Rattle.ports.proofs.Bodies.{ported_put}
use Rattle.ports.proofs.put_port.Goals as goal

pub copy_numbers-requires : goal.copy_numbers-requires
copy_numbers-requires c =
    (held c.requires.0.body _ c.body_row-to.ensures _ refl _ (omega arith), held (stored_rows (stored_in c.args.drawing)).body_held _ c.body-from.ensures _ refl _ (omega arith))

pub copy_numbers-requires-2 : goal.copy_numbers-requires-2
copy_numbers-requires-2 c = (
  held c.requires.0.body _ c.body_row-to.ensures _ (c.put_two.auto.out ∙ c.copy_numbers.auto.d) _ (omega arith),
  held (stored_rows (stored_in c.args.drawing)).body_held _ c.body-from.ensures _ refl _ (omega arith),
)

pub returns : goal.returns
returns c =
    let a = c.args in
    let d = a.drawing in
    rw (
      c.put_rest.ensures.stored,
      c.put_number.ensures,
      c.copy_numbers-2.ensures,
      c.put_two.ensures,
      c.copy_numbers.ensures,
      c.body_row-to.ensures,
      c.body-from.ensures,
    )
    (ported_put a.out.now d.src.now (body_of a.y) (body_of d.sizes) (body_size d.sizes) (body (graph_in d)) (stored_rows (stored_in d)).body a.p a.k d.sizes.nodes c.requires.2)
