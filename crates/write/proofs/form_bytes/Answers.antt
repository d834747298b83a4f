-- `write::form_bytes` meets its contract.
-- Assumes nothing.
use native.Mathlib.Nat.{mul-le-mul_left}
use native.Mathlib.Omega.{arith}
use Rattle.form.specs.Form.{body_size}
use Rattle.write.proofs.form_bytes.Goals as goal

pub overflow_mul-result-2 : goal.overflow_mul-result-2
overflow_mul-result-2 c =
    let y = c.args.y in
    let low = c.requires in
    rw c.body_row-body.ensures (omega (arith, mul-le-mul_left (body_size y) low.narrow))

pub overflow_add-result-3 : goal.overflow_add-result-3
overflow_add-result-3 c =
    let y = c.args.y in
    let low = c.requires in
    rw c.body_row-body.ensures (omega (arith, mul-le-mul_left (body_size y) low.narrow))

pub returns : goal.returns
returns c = rw c.body_row-body.ensures
