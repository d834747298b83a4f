-- `edges::read_edge` meets its contract.
-- Assumes nothing.
use mathlib.Core.Path.{ap, ◌∙◌}
use Prim.Native.Nat.{ℕ, ◌+◌}
use native.Mathlib.Nat.{mul-le-mul_left}
use native.Mathlib.Omega.{arith}
use Rattle.form.specs.Form.{meant}
use Rattle.graph.specs.Answer.{answered}
use Rattle.edges.proofs.Edge.{cut, over, short, whole}
use Rattle.edges.proofs.Small.{small}
use Rattle.edges.proofs.read_edge.Goals as goal

pub overflow_mul-width : goal.overflow_mul-width
overflow_mul-width c = let l = small c.requires.2 in omega arith

pub returns-then-left-width : goal.returns-then-left-width
returns-then-left-width c = (tt, λ label. let a = c.args in cut (meant a.f) a.s.now a.at a.sum a.bound (omega arith) label (omega arith))

pub ports_at-n-requires : goal.ports_at-n-requires
ports_at-n-requires c = record { wide = c.requires.2.width; inside = omega arith }

pub overflow_add-ports : goal.overflow_add-ports
overflow_add-ports c = let l = small c.requires.2 in omega arith

pub overflow_mul-bytes : goal.overflow_mul-bytes
overflow_mul-bytes c =
    let l = small c.requires.2 in
    omega (arith, mul-le-mul_left c.ports_at-n.result l.narrow)

pub returns-then-limit-ports : goal.returns-then-limit-ports
returns-then-limit-ports c =
    let a = c.args in (
      omega arith,
      λ label. over (meant a.f) a.s.now a.at a.sum a.bound (omega arith) label c.ports_at-n.result c.ports_at-n.ensures.0 (omega arith) (omega arith),
    )

pub returns-then-rest-bytes : goal.returns-then-rest-bytes
returns-then-rest-bytes c =
    let a = c.args in (
      tt,
      λ label. short (meant a.f) a.s.now a.at a.sum a.bound (omega arith) label c.ports_at-n.result c.ports_at-n.ensures.0 (omega arith) (omega arith) (omega arith),
    )

pub returns : goal.returns
returns c =
    let a = c.args in
    let ids = c.ids_at-ids.result in (
      tt,
      λ label. ap (λ (at : ℕ). answered (record { ports = a.sum + c.ports_at-n.result; at = at; bound = ids.bound })) c.ids_at-ids.ensures.0
          ∙ whole (meant a.f) a.s.now a.at a.sum a.bound (omega arith) label c.ports_at-n.result c.ports_at-n.ensures.0 (omega arith) (omega arith) (omega arith)
          ids.bound c.ids_at-ids.ensures.1,
    )
