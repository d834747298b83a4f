-- `once_fed::once_fed` meets its contract.
-- Assumes nothing.
use mathlib.Core.Bool.{Bool, true, false, cond}
use mathlib.Core.Path.{◌≡◌, refl, sym, ap, ◌∙◌}
use Prim.Native.Nat.{ℕ}
use native.Mathlib.Omega.{arith}
use mir.Val.{bool_byte}
use lib.ListN.{length}
use Rattle.form.specs.Form.{told, outcome}
use Rattle.form.specs.declared.Done.{Done}
use Rattle.form.specs.declared.Sizes.{Sizes}
use Rattle.graph.specs.Answer.{Answer, Result, answered, saying}
use Rattle.graph.specs.Calls.{room_once_fed, fed_once, once_fed_call}
use Rattle.graph.specs.Checks.{monogamous}
use Rattle.graph.specs.Graph.{Graph}
use Rattle.graph.specs.Versions as versions
use Rattle.form.proofs.Drawn.{stored_in, at_source}
use Rattle.form.proofs.Answers.{room_enough, passed_on}
use Rattle.form.proofs.Pairless.{room_short, graph_unread, graph_paired, graph_pairless}
use Rattle.once_fed.proofs.once_fed.Goals as goal

-- the answer
abbrev next : versions.StoredGraph → Graph → Answer Result
next s g = answered (saying (monogamous g))

-- yes is 1, and no is 0
bit : (yes : Bool) → bool_byte yes ≡ cond yes 1 0
bit true = refl
bit false = refl

pub returns-in_err-work_room : goal.returns-in_err-work_room
unfolding fed_once
returns-in_err-work_room c =
    ap told (passed_on _ c.from_residual.ensures.1) ∙ sym (ap outcome (room_short c.args.src.now room_once_fed _ next _ c.in_err-work_room.ensures))

pub returns-in_err-drawing : goal.returns-in_err-drawing
unfolding fed_once
returns-in_err-drawing c =
    ap told (passed_on _ c.from_residual-in_err-drawing.ensures.1)
    ∙ sym (ap outcome (graph_unread c.args.src.now room_once_fed _ next c.in_ok-work_room.ensures _ c.in_err-drawing.ensures.sizes))

pub returns-in_err-unpaired : goal.returns-in_err-unpaired
unfolding fed_once
returns-in_err-unpaired c =
    let d = c.in_ok-drawing.drawing in
    at_source (λ b. told c.from_residual-in_err-unpaired.result ≡ outcome (once_fed_call b (length c.args.room.now))) c.in_ok-drawing.ensures.source
    (ap told (passed_on _ c.from_residual-in_err-unpaired.ensures.1)
    ∙ sym (ap outcome (graph_paired d.src.now room_once_fed _ next c.in_ok-work_room.ensures (stored_in d) _ c.in_err-unpaired.ensures)))

pub each_once-yes-requires : goal.each_once-yes-requires
each_once-yes-requires c =
    let s = stored_in c.in_ok-drawing.drawing in
    omega (arith, ap (λ (y : Sizes). y.nodes) s.sizes, s.within.counts.nodes, room_enough room_once_fed (length c.args.room.now) c.in_ok-work_room.ensures)

pub returns : goal.returns
unfolding fed_once
returns c =
    let d = c.in_ok-drawing.drawing in
    let yes : Bool → Done = λ b. record { a = cond b 1 0; b = 0 } in
    at_source (λ b. answered (record { a = c.from.result; b = 0 }) ≡ outcome (once_fed_call b (length c.args.room.now))) c.in_ok-drawing.ensures.source
    (ap (λ (a : ℕ). answered (record { a = a; b = 0 })) (c.from.ensures ∙ bit c.each_once-yes.result) ∙ ap (λ (k : Bool). answered (yes k)) c.each_once-yes.ensures
    ∙ sym (ap outcome (graph_pairless d.src.now room_once_fed _ next c.in_ok-work_room.ensures (stored_in d) c.in_ok-unpaired.ensures)))
