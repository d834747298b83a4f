-- `cycle::no_loop` meets its contract.
-- Assumes nothing.
use mathlib.Core.Bool.{Bool, true, false, cond}
use mathlib.Core.List.{[]}
use mathlib.Core.Path.{◌≡◌, refl, sym, ap, ◌∙◌}
use Prim.Native.Nat.{ℕ}
use mir.Val.{bool_byte}
use Rattle.choice.specs.Calls.{room_no_loop, loop_free}
use Rattle.choice.specs.Drawing.{no_loop}
use Rattle.form.specs.Form.{outcome}
use Rattle.form.specs.Stored.{graph_of}
use Rattle.form.specs.declared.Done.{Done}
use Rattle.graph.specs.Answer.{Answer, Result, answered, saying}
use Rattle.graph.specs.Graph.{Graph}
use Rattle.graph.specs.Versions as versions
use Rattle.form.proofs.Answers.{room_enough, gives_passed}
use Rattle.form.proofs.Pairless.{room_short, graph_unread, graph_paired, graph_pairless}
use Rattle.form.proofs.Stored.{stored_bytes}
use Rattle.form.proofs.Drawn.{at_source}
use Rattle.cycle.proofs.no_loop.Goals as goal

-- the answer
abbrev next : versions.StoredGraph → Graph → Answer Result
next s g = answered (saying (no_loop g))

as_cond : (b : Bool) → bool_byte b ≡ cond b 1 0
as_cond true = refl
as_cond false = refl

pub returns-in_err-work_room : goal.returns-in_err-work_room
unfolding loop_free
returns-in_err-work_room c = (gives_passed _ [] c.from_residual.ensures.1 (room_short c.args.src.now room_no_loop _ next _ c.in_err-work_room.ensures)).result

pub returns-in_err-drawing : goal.returns-in_err-drawing
unfolding loop_free
returns-in_err-drawing c =
    (gives_passed _ [] c.from_residual-in_err-drawing.ensures.1 (graph_unread c.args.src.now room_no_loop _ next c.in_ok-work_room.ensures _ c.in_err-drawing.ensures.sizes)).result

pub returns-in_err-unpaired : goal.returns-in_err-unpaired
unfolding loop_free
returns-in_err-unpaired c =
    let s = stored_bytes c.in_ok-drawing.ensures.sizes c.type_inv.src in
    (gives_passed _ [] c.from_residual-in_err-unpaired.ensures.1 (graph_paired c.args.src.now room_no_loop _ next c.in_ok-work_room.ensures s _ c.in_err-unpaired.ensures)).result

pub is_acyclic-acyclic-requires : goal.is_acyclic-acyclic-requires
is_acyclic-acyclic-requires c = record { room_removal_in_bounds = room_enough room_no_loop _ c.in_ok-work_room.ensures }

pub returns : goal.returns
unfolding loop_free
returns c =
    let s = stored_bytes c.in_ok-drawing.ensures.sizes c.type_inv.src in
    let is = graph_pairless c.args.src.now room_no_loop _ next c.in_ok-work_room.ensures s c.in_ok-unpaired.ensures in
    let yes = at_source (λ b. c.is_acyclic-acyclic.result ≡ no_loop (graph_of b)) c.in_ok-drawing.ensures.source c.is_acyclic-acyclic.ensures in
    let number : Bool → Answer Done = λ yes. answered (record { a = cond yes 1 0; b = 0 }) in
    sym (ap outcome is ∙ ap number (sym yes) ∙ ap (λ (n : ℕ). answered (record { a = n; b = 0 })) (sym (c.from.ensures ∙ as_cond c.is_acyclic-acyclic.result)))
