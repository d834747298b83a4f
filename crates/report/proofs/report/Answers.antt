-- `report::report` meets its contract: of the three ways out, each puts what the definition tells.
-- Assumes nothing.
use mathlib.Core.List.{List}
use mathlib.Core.Path.{subst}
use Prim.Native.Nat.{ℕ}
use lib.ListN.{length}
use Rattle.text.specs.Text.{Printed}
use Rattle.report.proofs.Reports.{unread_alone, read_alone, text_unread, text_refused, text_done}
use Rattle.report.proofs.report.Goals as goal

pub returns-in-Err-clause-printed : goal.returns-in-Err-clause-printed
returns-in-Err-clause-printed c =
    let a = c.args in
    let p = c.put_refusal in
    subst (λ (t : List ℕ). Printed a.out.now 0 t p.new.out p.result) (text_unread a.src.now _ (unread_alone a.src.now c.form1.ensures _ c.in-Err.ensures)) p.ensures.printed

pub put_drawing-requires : goal.put_drawing-requires
put_drawing-requires c =
    let a = c.args in
    let h = read_alone a.src.now c.form1.ensures c.type_inv.src _ c.in-Ok.ensures in
    let d = text_done a.src.now _ h a.list.now (length a.room.now) c.requires.0 c.requires.1 _ _ c.in-Ok-cycle_breaking_nodes.ensures in
    (d.few, d.held, c.requires.2)

pub returns-in-Ok-cycle_breaking_nodes-clause-printed : goal.returns-in-Ok-cycle_breaking_nodes-clause-printed
returns-in-Ok-cycle_breaking_nodes-clause-printed c =
    let a = c.args in
    let p = c.put_drawing in
    let h = read_alone a.src.now c.form1.ensures c.type_inv.src _ c.in-Ok.ensures in
    let d = text_done a.src.now _ h a.list.now (length a.room.now) c.requires.0 c.requires.1 _ _ c.in-Ok-cycle_breaking_nodes.ensures in
    subst (λ (t : List ℕ). Printed a.out.now 0 t p.new.out p.result) d.text p.ensures.printed

pub returns-in-Err-cycle_breaking_nodes-clause-printed : goal.returns-in-Err-cycle_breaking_nodes-clause-printed
returns-in-Err-cycle_breaking_nodes-clause-printed c =
    let a = c.args in
    let p = c.put_refusal-in-Err-cycle_breaking_nodes in
    let h = read_alone a.src.now c.form1.ensures c.type_inv.src _ c.in-Ok.ensures in
    let e = text_refused a.src.now _ h a.list.now (length a.room.now) c.requires.0 c.requires.1 _ _ c.in-Err-cycle_breaking_nodes.ensures in
    subst (λ (t : List ℕ). Printed a.out.now 0 t p.new.out p.result) e p.ensures.printed
