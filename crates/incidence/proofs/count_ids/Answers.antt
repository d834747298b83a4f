-- `incidence::count_ids` meets its contract.
-- Assumes nothing.
use mathlib.Core.List.{List}
use mathlib.Core.Path.{sym, ap, ◌∙◌}
use Prim.Native.Nat.{ℕ, ◌+◌, ◌-◌, ◌<◌}
use native.Mathlib.Omega.{arith}
use lib.ListN.{get_or}
use Rattle.le.specs.Le.{words}
use Rattle.le.proofs.Places.{length_words}
use Rattle.removal.specs.Room.{source, form_list}
use Rattle.incidence.specs.Incidence.{bump_all}
use Rattle.incidence.proofs.Parts.{no_bump, in_first, in_rest, bump_first, bump_parts}
use Rattle.incidence.proofs.count_ids.Goals as goal

pub returns-then-count-eq0 : goal.returns-then-count-eq0
returns-then-count-eq0 c =
    let a = c.args in
    no_bump (source a.src.now a.r) a.first a.side (words a.room.now) ∙ ap (λ (n : ℕ). bump_all (form_list (source a.src.now a.r) a.first n a.side) (words a.room.now)) (sym c.if-count-eq0.true)

pub count_some-requires-clause-all_low : goal.count_some-requires-clause-all_low
count_some-requires-clause-all_low c y m = let a = c.args in
    c.requires.all_low y (in_first (source a.src.now a.r) a.first a.count a.side (omega (arith, c.if-count-eq0.false)) y m)

pub count_some-requires-clause-by_index : goal.count_some-requires-clause-by_index
count_some-requires-clause-by_index c y m = let a = c.args in
    omega (arith, c.requires.by_index y (in_first (source a.src.now a.r) a.first a.count a.side (omega (arith, c.if-count-eq0.false)) y m), c.if-count-eq0.false)

pub count_some-requires-2-clause-all_low : goal.count_some-requires-2-clause-all_low
count_some-requires-2-clause-all_low c y m = let a = c.args in
    c.requires.all_low y (in_rest (source a.src.now a.r) a.first a.count a.side (omega (arith, c.if-count-eq0.false)) y m)

pub count_some-requires-2-clause-by_index : goal.count_some-requires-2-clause-by_index
count_some-requires-2-clause-by_index c y m =
    let a = c.args in
    let some : 0 < a.count = omega (arith, c.if-count-eq0.false) in
    let q = source a.src.now a.r in
    let inside = in_rest q a.first a.count a.side some y m in
    omega (
      arith,
      ap (λ (X : List ℕ). get_or X y 0) c.count_some.ensures,
      bump_first q a.first a.count a.side some (words a.room.now) y (omega (arith, c.requires.all_low y inside, length_words a.room.now)),
      c.requires.by_index y inside,
    )

pub returns : goal.returns
returns c =
    let a = c.args in
    let some : 0 < a.count = omega (arith, c.if-count-eq0.false) in
    let q = source a.src.now a.r in
    c.count_some-2.ensures ∙ ap (bump_all (form_list q (a.first + 1) (a.count - 1) a.side)) c.count_some.ensures ∙ bump_parts q a.first a.count a.side some (words a.room.now)
