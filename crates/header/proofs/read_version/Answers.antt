-- `header::read_version` meets its contract.
-- Assumes nothing.
use mathlib.Core.Path.{sym, ap, ◌∙◌}
use native.Mathlib.Omega.{arith}
use borrow.Author.Tests.{not-true, not-false}
use Rattle.graph.specs.Answer.{answered}
use Rattle.graph.proofs.Verdicts.{version_1, version_2, version_0}
use Rattle.header.proofs.read_version.Goals as goal

pub returns-then-s-lt15 : goal.returns-then-s-lt15
returns-then-s-lt15 c = sym (version_1 c.args.s.now (omega arith))

pub returns-then-not-marked : goal.returns-then-not-marked
returns-then-not-marked c = sym (version_2 c.args.s.now (omega arith) (sym c.marked.ensures ∙ not-true _ c.if-not-marked.true-raw))

pub returns : goal.returns
returns c =
    ap answered c.get2.ensures.0 ∙ sym (version_0 c.args.s.now (omega arith) (sym c.marked.ensures ∙ not-false _ c.if-not-marked.false-raw))
