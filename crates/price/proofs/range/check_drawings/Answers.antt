-- `price::range::check_drawings` meets its contract.
-- Assumes nothing.
use Prim.Native.Nat.{◌+◌}
use mathlib.Core.Path.{sym}
use native.Mathlib.Omega.{arith}
use Rattle.catalogue.proofs.Slices.{Passed, all_passed, too_many, length_refused, one_passed}
use Rattle.parts.proofs.Billed.{told_passed}
use Rattle.price.proofs.range.check_drawings.Goals as goal
use Rattle.price.proofs.range.check_drawings.Goals.{In_ok-n}

-- one drawing more is in order
more : (c : In_ok-n) → let l = c.loop-next in
    Passed c.args.src.now (l.next + 4 + c.in_ok-n.n) (l.count + 1)
more c = one_passed c.loop-next.invariant c.loop-next-test.true c.if-count-eq-MOST_DRAWINGS.false _ (sym c.in_ok-n.ensures)

pub returns-then-count-eq-MOST_DRAWINGS : goal.returns-then-count-eq-MOST_DRAWINGS
returns-then-count-eq-MOST_DRAWINGS c = too_many c.loop-next.invariant c.loop-next-test.true c.if-count-eq-MOST_DRAWINGS.true

pub returns-in_err-n : goal.returns-in_err-n
returns-in_err-n c =
    told_passed _ _ c.from_residual.ensures.1
    (length_refused c.loop-next.invariant c.loop-next-test.true c.if-count-eq-MOST_DRAWINGS.false _ (sym c.in_err-n.ensures))

pub overflow_add-next-in-loop-next : goal.overflow_add-next-in-loop-next
overflow_add-next-in-loop-next c = omega (arith, (more (goal.at.overflow_add-next-in-loop-next c).In_ok-n).within)

pub loop-next-preserved : goal.loop-next-preserved
loop-next-preserved c = more (goal.at.loop-next-preserved c).In_ok-n

pub returns : goal.returns
returns c = all_passed c.loop-next.invariant c.loop-next-test.false
