-- `parts::price` meets its contract.
-- Assumes nothing.
use mathlib.Core.Path.{◌≡◌, sym, subst}
use native.Mathlib.Omega.{arith}
use lib.ListN.{length}
use Rattle.graph.specs.Answer.{answered}
use Rattle.graph.specs.Calls.{in_work_room}
use Rattle.le.proofs.Numbers.{below_each}
use Rattle.form.specs.declared.Refusal.TheVariants as why
use Rattle.form.proofs.Answers.{refused_so, answered_so, gives_refused, gives_passed}
use Rattle.parts.specs.declared.Bill.{Bill}
use Rattle.parts.specs.Parts.{bill_of, Countable}
use Rattle.catalogue.specs.Price as spec
use Rattle.catalogue.specs.Price.{Priced, room_price}
use Rattle.catalogue.proofs.Calls.{call_refused, call_short}
use Rattle.parts.proofs.Billed.{countable, call_done}
use Rattle.parts.proofs.price.Goals as goal
use Rattle.parts.proofs.price.Goals.{In_ok-bill}

-- what pricing answered
found : (c : In_ok-bill) → let a = c.args in
    (p : Priced) × (in_work_room room_price (length a.room.now) (spec.price a.src.now) ≡ answered p) × (c.in_ok-bill.bill ≡ bill_of p)
found c = let a = c.args in
    answered_so _ (in_work_room room_price (length a.room.now) (spec.price a.src.now)) _ c.in_ok-bill.ensures

pub returns-in_err-bill : goal.returns-in_err-bill
returns-in_err-bill c =
    let a = c.args in
    gives_passed _ a.out.now c.from_residual.ensures.1 (call_refused a.src.now (length a.out.now) (length a.room.now) _
    (refused_so _ (in_work_room room_price (length a.room.now) (spec.price a.src.now)) _ c.in_err-bill.ensures))

pub returns-then-out-lt-PRICE_BYTES : goal.returns-then-out-lt-PRICE_BYTES
returns-then-out-lt-PRICE_BYTES c =
    let a = c.args in
    let p = found (goal.at.returns-then-out-lt-PRICE_BYTES c).In_ok-bill in
    gives_refused why.NoRoom a.out.now (call_short a.src.now (length a.out.now) (length a.room.now) p.0 p.1 (omega arith))

pub put_bill-requires : goal.put_bill-requires
put_bill-requires c =
    let p = found (goal.at.put_bill-requires c).In_ok-bill in
    let clean = below_each 256 c.args.src.now (λ i l. omega (arith, c.type_inv.src i)) in
    (omega arith, subst (λ (b : Bill). Countable b.counts) (sym p.2) (countable c.args.src.now (length c.args.room.now) p.0 p.1 clean))

pub returns : goal.returns
returns c =
    let a = c.args in
    let p = found (goal.at.returns c).In_ok-bill in
    call_done a.src.now a.out.now c.put_bill.new.out (length a.room.now) p.0 p.1 (omega arith) _ p.2 c.put_bill.ensures
