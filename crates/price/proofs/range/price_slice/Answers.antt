-- `price::range::price_slice` meets its contract.
-- Assumes nothing.
use mathlib.Core.Path.{◌≡◌, sym, ap, ◌∙◌}
use lib.ListN.{length}
use Rattle.graph.specs.Answer.{answered}
use Rattle.form.proofs.Answers.{refused_so, answered_so, work_short, work_enough, room_enough}
use Rattle.catalogue.specs.Price.{room_price}
use Rattle.catalogue.specs.Range.{drawings_in, most_drawings}
use Rattle.parts.proofs.Billed.{told_passed}
use Rattle.price.specs.Totals.{forms_of, ranging}
use Rattle.price.proofs.Called.{sliced}
use Rattle.price.proofs.range.price_slice.Goals as goal
use Rattle.price.proofs.range.price_slice.Goals.{In_ok-check_drawings}

-- the slice is in order
in_order : (c : In_ok-check_drawings) → drawings_in most_drawings c.args.src.now ≡ answered (forms_of c.args.src.now)
in_order c =
    let f = answered_so _ (drawings_in most_drawings c.args.src.now) tt c.in_ok-check_drawings.ensures in
    sliced c.args.src.now f.0 f.1

pub returns-in_err-work_room : goal.returns-in_err-work_room
returns-in_err-work_room c =
    let a = c.args in
    told_passed _ _ c.from_residual.ensures.1 (sym (ap ranging (work_short room_price (length a.room.now) (drawings_in most_drawings a.src.now) _ c.in_err-work_room.ensures)))

pub returns-in_err-check_drawings : goal.returns-in_err-check_drawings
returns-in_err-check_drawings c =
    let a = c.args in
    let forms = drawings_in most_drawings a.src.now in
    told_passed _ _ c.from_residual-in_err-check_drawings.ensures.1
    (sym (ap ranging (work_enough room_price (length a.room.now) forms c.in_ok-work_room.ensures ∙ refused_so _ forms _ c.in_err-check_drawings.ensures)))

pub price_drawings-requires : goal.price_drawings-requires
price_drawings-requires c = (in_order (goal.at.price_drawings-requires c).In_ok-check_drawings, room_enough room_price (length c.args.room.now) c.in_ok-work_room.ensures)

pub returns : goal.returns
returns c =
    let a = c.args in
    ap answered c.price_drawings.ensures
    ∙ sym (ap ranging (work_enough room_price (length a.room.now) (drawings_in most_drawings a.src.now) c.in_ok-work_room.ensures ∙ in_order (goal.at.returns c).In_ok-check_drawings))
