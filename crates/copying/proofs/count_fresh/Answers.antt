-- `copying::count_fresh` meets its contract.
-- Assumes nothing.
use mathlib.Core.Path.{◌≡◌, sym, ◌∙◌}
use native.Mathlib.Omega.{arith}
use lib.ListN.{get_or}
use Rattle.le.specs.Le.{words}
use Rattle.std.proofs.Common.{rules}
use Rattle.copying.proofs.Ready.{class_low, class_plain, fresh_looked, heads}
use Rattle.copying.proofs.count_fresh.Goals as goal

pub count_entries-requires-clause-low : goal.count_entries-requires-clause-low
count_entries-requires-clause-low c = λ id v l p.
    let h = c.requires.1 in
    let is : v ≡ id = search rules in
    omega (arith, is, heads h, class_plain h c.if-drawing-eq0.true id l, class_low h id l)

pub returns-then-drawing-eq0 : goal.returns-then-drawing-eq0
returns-then-drawing-eq0 c = (
  c.count_entries.ensures.0,
  λ nodes h.
      c.count_entries.ensures.1 nodes (words c.args.room.now)
      (λ id v l p.
      let plain = class_plain h c.if-drawing-eq0.true id l in
      let is : v ≡ id = search rules in
      (is ∙ sym plain, omega (arith, is, plain, class_low h id l)))
      ∙ fresh_looked h,
)

pub count_entries-requires-2-clause-low : goal.count_entries-requires-2-clause-low
count_entries-requires-2-clause-low c = λ id v l p.
    let h = c.requires.1 in
    let is : v ≡ get_or (words c.args.room.now) id 0 = search rules in
    omega (arith, is, heads h, class_low h id l)

pub returns : goal.returns
returns c = (
  c.count_entries-2.ensures.0,
  λ nodes h.
      c.count_entries-2.ensures.1 nodes (words c.args.room.now)
      (λ id v l p. let is : v ≡ get_or (words c.args.room.now) id 0 = search rules in (is, omega (arith, is, class_low h id l)))
      ∙ fresh_looked h,
)
