-- `price::range::add_drawing` meets its contract.
-- Assumes nothing.
use mathlib.Core.Path.{◌≡◌, sym, ap, ◌∙◌, subst}
use native.Mathlib.Omega.{arith}
use lib.ListN.{length}
use Rattle.graph.specs.Answer.{answered}
use Rattle.graph.specs.Calls.{in_work_room}
use Rattle.graph.proofs.Verdicts.{in_room}
use Rattle.le.specs.Le.{Below}
use Rattle.le.proofs.Numbers.{below_each}
use Rattle.form.proofs.Answers.{refused_so, answered_so}
use Rattle.parts.specs.Parts.{bill_of}
use Rattle.catalogue.specs.Price as spec
use Rattle.catalogue.specs.Price.{Priced, room_price}
use Rattle.price.specs.Totals.{added, priced_once, refused_once, Listed}
use Rattle.price.proofs.Adding.{price_good, listed}
use Rattle.price.proofs.range.add_drawing.Goals as goal
use Rattle.price.proofs.range.add_drawing.Goals.{After-price_drawing, In-Ok}

-- the room is lent
lent : (c : After-price_drawing) → in_work_room room_price (length c.args.room.now) (spec.price c.args.src.now) ≡ spec.price c.args.src.now
lent c = in_room room_price (length c.args.room.now) (spec.price c.args.src.now) c.requires.1

-- the list
found : (c : In-Ok) → (p : Priced) × (spec.price c.args.src.now ≡ answered p) × (c.in-Ok.bill ≡ bill_of p)
found c =
    let f = answered_so _ (in_work_room room_price (length c.args.room.now) (spec.price c.args.src.now)) _ c.in-Ok.ensures in
    (f.0, sym (in_room room_price (length c.args.room.now) (spec.price c.args.src.now) c.requires.1) ∙ f.1, f.2)

pub add_bill-requires : goal.add_bill-requires
add_bill-requires c =
    let f = found (goal.at.add_bill-requires c).In-Ok in
    let clean : Below 256 c.args.src.now = below_each 256 c.args.src.now (λ i l. omega (arith, c.type_inv.src i)) in
    let g = price_good c.args.src.now clean in
    (c.requires.0, subst Listed (sym f.2) (listed f.0 (g.twelve f.0 f.1) (g.small f.0 f.1)))

pub returns-in-Ok : goal.returns-in-Ok
returns-in-Ok c =
    let t = c.args.t in
    let f = found (goal.at.returns-in-Ok c).In-Ok in
    c.add_bill.ensures ∙ ap (priced_once t) f.2 ∙ sym (ap (added t) f.1)

pub returns-in-Err : goal.returns-in-Err
returns-in-Err c =
    let t = c.args.t in
    let room = in_work_room room_price (length c.args.room.now) (spec.price c.args.src.now) in
    c.add_refusal.ensures ∙ ap (refused_once t) c.number.ensures.0
    ∙ sym (ap (added t) (sym (lent (goal.at.returns-in-Err c).After-price_drawing) ∙ refused_so _ room _ c.in-Err.ensures))
