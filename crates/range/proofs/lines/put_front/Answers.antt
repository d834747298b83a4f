-- `range::lines::put_front` meets its contract.
-- Assumes nothing.
use native.Mathlib.Omega.{arith}
use Rattle.graph.specs.Lists.{joined}
use Rattle.le.proofs.Numbers.{below_widen}
use Rattle.amounts.specs.Amounts.{kind_line, buffers_line}
use Rattle.catalogue.specs.Price.{kinds}
use Rattle.catalogue.specs.Range.{refusal_numbers}
use Rattle.range.specs.Glance.{head_line, refusal_line}
use Rattle.range.proofs.Texts.{printed_4}
use Rattle.range.proofs.lines.put_front.Goals as goal

pub put_refusals-refused-requires : goal.put_refusals-refused-requires
put_refusals-refused-requires c =
    (c.requires.0.seventeen, below_widen c.args.t.refusals (omega arith) c.requires.0.refusals, omega (arith, c.requires.1, c.put_head-head.ensures.upper_bound))

pub put_kinds-kinds-requires : goal.put_kinds-kinds-requires
put_kinds-kinds-requires c = (
  record { twelve = c.requires.0.twelve; few = below_widen c.args.t.parts (omega arith) c.requires.0.parts },
  omega (arith, c.requires.1, c.put_head-head.ensures.upper_bound, c.put_refusals-refused.ensures.upper_bound),
)

pub returns-clause-printed : goal.returns-clause-printed
returns-clause-printed c =
    let t = c.args.t in
    printed_4 (head_line t.drawings t.priced) (joined (refusal_line t.refusals) refusal_numbers) (joined (kind_line t.parts) kinds) (buffers_line t.buffers)
    c.put_head-head.ensures.printed c.put_refusals-refused.ensures.printed c.put_kinds-kinds.ensures.printed c.put_buffers.ensures.printed
