-- `incidence::append_ids` meets its contract.
-- Assumes nothing.
use mathlib.Core.List.{List}
use mathlib.Core.Path.{sym, ap, ◌∙◌, subst}
use Prim.Native.Nat.{ℕ, ◌+◌, ◌-◌, ◌<◌}
use native.Mathlib.Omega.{arith}
use Rattle.le.specs.Le.{words}
use Rattle.removal.specs.Room.{source, form_list}
use Rattle.incidence.specs.Incidence.{appended_all}
use Rattle.incidence.proofs.Parts.{Fits, no_appended, in_first, in_rest, appended_parts, fits_first, fits_rest}
use Rattle.incidence.proofs.append_ids.Goals as goal

pub returns-then-count-eq0 : goal.returns-then-count-eq0
returns-then-count-eq0 c =
    let a = c.args in
    no_appended (source a.src.now a.r) a.first a.side a.t (words a.room.now) ∙ ap (λ (n : ℕ). appended_all (form_list (source a.src.now a.r) a.first n a.side) a.t (words a.room.now)) (sym c.if-count-eq0.true)

pub append_some-requires-clause-all_low : goal.append_some-requires-clause-all_low
append_some-requires-clause-all_low c y m = let a = c.args in
    c.requires.all_low y (in_first (source a.src.now a.r) a.first a.count a.side (omega (arith, c.if-count-eq0.false)) y m)

pub append_some-requires-clause-by_index : goal.append_some-requires-clause-by_index
append_some-requires-clause-by_index c = let a = c.args in
    fits_first (source a.src.now a.r) a.first a.count a.side (omega (arith, c.if-count-eq0.false)) a.t (words a.room.now) c.requires.by_index

pub append_some-requires-2-clause-all_low : goal.append_some-requires-2-clause-all_low
append_some-requires-2-clause-all_low c y m = let a = c.args in
    c.requires.all_low y (in_rest (source a.src.now a.r) a.first a.count a.side (omega (arith, c.if-count-eq0.false)) y m)

pub append_some-requires-2-clause-by_index : goal.append_some-requires-2-clause-by_index
append_some-requires-2-clause-by_index c =
    let a = c.args in
    let q = source a.src.now a.r in
    subst (λ (X : List ℕ). Fits (form_list q (a.first + 1) (a.count - 1) a.side) (a.count - 1) a.t X) (sym c.append_some.ensures)
    (fits_rest q a.first a.count a.side (omega (arith, c.if-count-eq0.false)) a.t (words a.room.now) c.requires.by_index)

pub returns : goal.returns
returns c =
    let a = c.args in
    let some : 0 < a.count = omega (arith, c.if-count-eq0.false) in
    let q = source a.src.now a.r in
    c.append_some-2.ensures ∙ ap (λ (X : List ℕ). appended_all (form_list q (a.first + 1) (a.count - 1) a.side) a.t X) c.append_some.ensures
    ∙ appended_parts q a.first a.count a.side some a.t (words a.room.now)
