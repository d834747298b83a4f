-- `bill::bill` meets its contract: of the two ways out, each puts what the definition tells.
-- Assumes nothing.
use mathlib.Core.Path.{◌≡◌, sym, ap, subst, ◌∙◌}
use mathlib.Core.List.{List}
use Prim.Native.Nat.{ℕ}
use native.Mathlib.Omega.{arith}
use lib.ListN.{length}
use Rattle.form.proofs.Answers.{refused_so, answered_so}
use Rattle.graph.specs.Answer.{answered}
use Rattle.graph.specs.Calls.{in_work_room}
use Rattle.graph.proofs.Verdicts.{in_room}
use Rattle.le.specs.Le.{Below}
use Rattle.le.proofs.Numbers.{below_each, below_widen}
use Rattle.parts.specs.declared.Bill.{Bill}
use Rattle.parts.specs.Parts.{bill_of}
use Rattle.amounts.specs.Amounts.{Counters}
use Rattle.catalogue.specs.Price.{room_price, price, Priced}
use Rattle.parts.proofs.Billed.{countable}
use Rattle.text.specs.Text.{Printed}
use Rattle.bill.specs.Bill.{list_text, told, bill_text}
use Rattle.bill.proofs.bill.Goals as goal
use Rattle.bill.proofs.bill.Goals.{After-price_drawing, In-Ok}

-- the room is lent
enough : (c : After-price_drawing) → in_work_room room_price (length c.args.room.now) (price c.args.src.now) ≡ price c.args.src.now
enough c = in_room room_price (length c.args.room.now) (price c.args.src.now) c.requires.0

-- what pricing answered
found : (c : In-Ok) → (p : Priced) × (in_work_room room_price (length c.args.room.now) (price c.args.src.now) ≡ answered p) × (c.in-Ok.list ≡ bill_of p)
found c = answered_so _ (in_work_room room_price (length c.args.room.now) (price c.args.src.now)) _ c.in-Ok.ensures

pub put_list-requires : goal.put_list-requires
put_list-requires c =
    let a = c.args in
    let clean : Below 256 a.src.now = below_each 256 a.src.now (λ i l. omega (arith, c.type_inv.src i)) in
    let p = found (goal.at.put_list-requires c).In-Ok in
    let counts = countable a.src.now (length a.room.now) p.0 p.1 clean in
    (subst (λ (y : Bill). Counters y.counts) (sym p.2) (record { twelve = counts.twelve; few = below_widen p.0.counts (omega arith) counts.few }), c.requires.1)

pub returns-in-Ok-clause-printed : goal.returns-in-Ok-clause-printed
unfolding bill_text
returns-in-Ok-clause-printed c =
    let p = found (goal.at.returns-in-Ok-clause-printed c).In-Ok in
    let lent = enough (goal.at.returns-in-Ok-clause-printed c).After-price_drawing in
    let l = c.put_list in
    subst (λ (t : List ℕ). Printed c.args.out.now 0 t l.new.out l.result) (ap (λ (y : Bill). list_text y.counts y.buffers y.total) p.2 ∙ sym (ap told (sym lent ∙ p.1))) l.ensures.printed

pub returns-in-Err-clause-printed : goal.returns-in-Err-clause-printed
unfolding bill_text
returns-in-Err-clause-printed c =
    let a = c.args in
    let r = c.put_refusal in
    let e = refused_so _ (in_work_room room_price (length a.room.now) (price a.src.now)) _ c.in-Err.ensures in
    subst (λ (t : List ℕ). Printed a.out.now 0 t r.new.out r.result) (sym (ap told (sym (enough (goal.at.returns-in-Err-clause-printed c).After-price_drawing) ∙ e))) r.ensures.printed
