-- `price::range::drawing_length` meets its contract.
-- Assumes nothing.
use mathlib.Core.Path.{sym, ap, ◌∙◌}
use Prim.Native.Nat.{◌≤◌}
use native.Mathlib.Omega.{arith}
use lib.ListN.{length, drop, length-drop}
use Rattle.graph.specs.Answer.{answered}
use Rattle.catalogue.proofs.Slices.{first_short, first_past, first_whole}
use Rattle.price.proofs.range.drawing_length.Goals as goal
use Rattle.price.proofs.range.drawing_length.Goals.{After-get4-n}

-- what is left of the slice
four : (c : After-get4-n) → 4 ≤ length (drop c.args.at c.args.src.now)
four c = omega (arith, length-drop c.args.at c.args.src.now)

pub returns-then-left-lt4 : goal.returns-then-left-lt4
returns-then-left-lt4 c =
    let a = c.args in
    sym (first_short (drop a.at a.src.now) (omega (arith, length-drop a.at a.src.now)))

pub returns-then-left-n : goal.returns-then-left-n
returns-then-left-n c =
    let a = c.args in
    let d = drop a.at a.src.now in
    sym (first_past d (four (goal.at.returns-then-left-n c).After-get4-n) (omega (arith, length-drop 4 d, length-drop a.at a.src.now, c.get4-n.ensures)))

pub returns : goal.returns
returns c =
    let a = c.args in
    let d = drop a.at a.src.now in
    ap answered c.get4-n.ensures
    ∙ sym (first_whole d (four (goal.at.returns c).After-get4-n) (omega (arith, length-drop 4 d, length-drop a.at a.src.now, c.get4-n.ensures)))
