-- `range::glance` meets its contract.
-- Assumes nothing.
use mathlib.Core.List.{List, ◌++◌, map}
use mathlib.Core.Path.{◌≡◌, sym, ap, subst, ◌∙◌}
use Prim.Native.Nat.{ℕ}
use native.Mathlib.Omega.{arith}
use lib.ListN.{length}
use Rattle.form.proofs.Answers.{refused_so, answered_so}
use Rattle.graph.specs.Answer.{answered}
use Rattle.graph.specs.Calls.{in_work_room}
use Rattle.graph.proofs.Verdicts.{in_room}
use Rattle.le.specs.Le.{Below}
use Rattle.le.proofs.Numbers.{below_each}
use Rattle.catalogue.specs.Price.{price, room_price}
use Rattle.catalogue.specs.Range.{drawings_in, most_drawings}
use Rattle.price.specs.Totals.{totals_of, Upto}
use Rattle.price.specs.declared.range.Totals.{Totals}
use Rattle.price.proofs.Called.{range_upto}
use Rattle.text.specs.Text.{Printed}
use Rattle.range.specs.Glance.{told, range_text}
use Rattle.range.specs.Lines.{front_text, back_text}
use Rattle.range.proofs.Texts.{text_of_totals}
use Rattle.range.proofs.glance.Goals as goal
use Rattle.range.proofs.glance.Goals.{After-price_slice, In-Ok}

-- the room is lent
enough : (c : After-price_slice) → in_work_room room_price (length c.args.room.now) (drawings_in most_drawings c.args.src.now) ≡ drawings_in most_drawings c.args.src.now
enough c = in_room room_price (length c.args.room.now) (drawings_in most_drawings c.args.src.now) c.requires.0

-- what the walk answered
found : (c : In-Ok) → (forms : List (List ℕ)) × (drawings_in most_drawings c.args.src.now ≡ answered forms) × (c.in-Ok.totals ≡ totals_of (map price forms))
found c =
    let slice = drawings_in most_drawings c.args.src.now in
    let f = answered_so _ (in_work_room room_price (length c.args.room.now) slice) _ c.in-Ok.ensures in
    (f.0, sym (in_room room_price (length c.args.room.now) slice c.requires.0) ∙ f.1, f.2)

pub put_report-requires : goal.put_report-requires
put_report-requires c =
    let clean : Below 256 c.args.src.now = below_each 256 c.args.src.now (λ i l. omega (arith, c.type_inv.src i)) in
    let f = found (goal.at.put_report-requires c).In-Ok in
    (subst (Upto 1000) (sym f.2) (range_upto c.args.src.now clean f.0 f.1), c.requires.1)

pub returns-in-Ok-clause-printed : goal.returns-in-Ok-clause-printed
unfolding range_text
returns-in-Ok-clause-printed c =
    let f = found (goal.at.returns-in-Ok-clause-printed c).In-Ok in
    let p = c.put_report in
    subst (λ (t : List ℕ). Printed c.args.out.now 0 t p.new.out p.result)
    (ap (λ (t : Totals). front_text t ++ back_text t) f.2 ∙ text_of_totals f.0 ∙ sym (ap told f.1)) p.ensures.printed

pub returns-in-Err-clause-printed : goal.returns-in-Err-clause-printed
unfolding range_text
returns-in-Err-clause-printed c =
    let a = c.args in
    let r = c.put_refusal in
    let e = refused_so _ (in_work_room room_price (length a.room.now) (drawings_in most_drawings a.src.now)) _ c.in-Err.ensures in
    subst (λ (t : List ℕ). Printed a.out.now 0 t r.new.out r.result) (sym (ap told (sym (enough (goal.at.returns-in-Err-clause-printed c).After-price_slice) ∙ e))) r.ensures.printed
