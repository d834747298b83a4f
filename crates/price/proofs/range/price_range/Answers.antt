-- `price::range::price_range` meets its contract.
-- Assumes nothing.
use mathlib.Core.List.{List, map}
use mathlib.Core.Path.{◌≡◌, sym, subst}
use Prim.Native.Nat.{ℕ}
use native.Mathlib.Omega.{arith}
use lib.ListN.{length}
use Rattle.graph.specs.Answer.{answered}
use Rattle.graph.specs.Calls.{in_work_room}
use Rattle.graph.proofs.Answers.{worked}
use Rattle.le.proofs.Numbers.{below_each}
use Rattle.form.specs.declared.Refusal.TheVariants as why
use Rattle.form.proofs.Answers.{refused_so, answered_so, gives_refused, gives_passed}
use Rattle.catalogue.specs.Price as spec
use Rattle.catalogue.specs.Price.{room_price}
use Rattle.catalogue.specs.Range.{drawings_in, most_drawings}
use Rattle.price.specs.Totals.{totals_of, Upto}
use Rattle.price.proofs.Called.{range_refused, range_short, range_upto, range_done}
use Rattle.price.proofs.range.price_range.Goals as goal
use Rattle.price.proofs.range.price_range.Goals.{In_ok-totals}

-- what the walk answered
found : (c : In_ok-totals) → let a = c.args in
    (forms : List (List ℕ)) × (in_work_room room_price (length a.room.now) (drawings_in most_drawings a.src.now) ≡ answered forms) × (c.in_ok-totals.totals ≡ totals_of (map spec.price forms))
found c = answered_so _ (in_work_room room_price (length c.args.room.now) (drawings_in most_drawings c.args.src.now)) _ c.in_ok-totals.ensures

pub returns-in_err-totals : goal.returns-in_err-totals
returns-in_err-totals c =
    let a = c.args in
    gives_passed _ a.out.now c.from_residual.ensures.1 (range_refused a.src.now (length a.out.now) (length a.room.now) _
    (refused_so _ (in_work_room room_price (length a.room.now) (drawings_in most_drawings a.src.now)) _ c.in_err-totals.ensures))

pub returns-then-out-lt-RANGE_BYTES : goal.returns-then-out-lt-RANGE_BYTES
returns-then-out-lt-RANGE_BYTES c =
    let a = c.args in
    let f = found (goal.at.returns-then-out-lt-RANGE_BYTES c).In_ok-totals in
    gives_refused why.NoRoom a.out.now (range_short a.src.now (length a.out.now) (length a.room.now) f.0 f.1 (omega arith))

pub put_report-requires : goal.put_report-requires
put_report-requires c =
    let f = found (goal.at.put_report-requires c).In_ok-totals in
    let clean = below_each 256 c.args.src.now (λ i l. omega (arith, c.type_inv.src i)) in
    (omega arith, subst (Upto 1000) (sym f.2) (range_upto c.args.src.now clean f.0 (worked room_price (length c.args.room.now) (drawings_in most_drawings c.args.src.now) f.1)))

pub returns : goal.returns
returns c =
    let a = c.args in
    let f = found (goal.at.returns c).In_ok-totals in
    range_done a.src.now a.out.now c.put_report.new.out (length a.room.now) f.0 f.1 (omega arith) _ f.2 c.put_report.ensures
