-- `build::build` meets its contract.
-- Assumes nothing.
use mathlib.Core.Path.{◌≡◌, refl, sym, ap, ◌∙◌, subst}
use native.Mathlib.Omega.{arith}
use lib.ListN.{length}
use Rattle.le.specs.Le.{words}
use Rattle.graph.specs.Answer.{answered}
use Rattle.graph.specs.Calls.{on_nothing}
use Rattle.graph.specs.Form.{label_row, body}
use Rattle.graph.specs.Graph.{Graph}
use Rattle.form.specs.Stored.{graph_of}
use Rattle.form.specs.declared.Sizes.{Sizes}
use Rattle.std.specs.Prelude.{Err}
use Rattle.form.proofs.Answers.{room_enough, refused_so}
use Rattle.form.specs.Form.{meant_by}
use Rattle.form.proofs.Drawn.{stored_in, at_source}
use Rattle.form.proofs.Stored.{unread}
use Rattle.write.specs.Write.{drawn}
use Rattle.write.proofs.Calls.{Ends, nothing_ends, next}
use Rattle.steps.specs.Steps.{steps_in}
use Rattle.steps.specs.Calls as calls
use Rattle.steps.specs.Calls.{room_build, built, stopped, ◌at_step◌}
use Rattle.steps.proofs.Singly.{build_unread}
use Rattle.ledger.specs.Ledger.{Draws}
use Rattle.build.proofs.Whole.{built_short, built_enough, steps_stopped, steps_made, stopped_gives, at_step_refused, done_gives, gives_as, fitted_sizes, redrawn}
use Rattle.build.proofs.build.Goals as goal
use Rattle.build.proofs.build.Goals.{After-result_size}

pub returns-in_err-work_room : goal.returns-in_err-work_room
returns-in_err-work_room c =
    let a = c.args in
    stopped_gives _ a.out.now c.from_residual.ensures.1 (built_short room_build (length a.room.now) _ c.in_err-work_room.ensures)

pub returns-in_err-drawing : goal.returns-in_err-drawing
returns-in_err-drawing c =
    let a = c.args in
    stopped_gives _ a.out.now c.from_residual-in_err-drawing.ensures.1
    (built_enough room_build (length a.room.now) _ c.in_ok-work_room.ensures ∙ build_unread a.src.now a.steps.now (length a.out.now) _ (unread a.src.now _ c.in_err-drawing.ensures.sizes))

pub load-requires : goal.load-requires
load-requires c = room_enough room_build (length c.args.room.now) c.in_ok-work_room.ensures

pub turns-requires : goal.turns-requires
turns-requires c = (c.load.ensures.sound, omega (arith, room_enough room_build (length c.args.room.now) c.in_ok-work_room.ensures, c.load.auto.room))

pub returns-in_err-last : goal.returns-in_err-last
returns-in_err-last c =
    let a = c.args in
    stopped_gives _ a.out.now c.from_residual-in_err-last.ensures.1
    (at_source (λ b. calls.build_call b a.steps.now (length a.out.now) (length a.room.now) ≡ stopped c.in_err-last.field-0.0.index (meant_by c.in_err-last.field-0.0.refusal)) c.in_ok-drawing.ensures.source
    (built_enough room_build (length a.room.now) _ c.in_ok-work_room.ensures
    ∙ steps_stopped _ a.steps.now (length a.out.now) (stored_in c.in_ok-drawing.drawing) _ _
    (ap (λ (h : Graph). calls.turns 0 (steps_in a.steps.now) h) (sym c.load.ensures.is) ∙ c.in_err-last.ensures)))

-- the last graph, which the room draws
last : (c : After-result_size) → (g : Graph) × (calls.turns 0 (steps_in c.args.steps.now) (graph_of c.in_ok-drawing.drawing.src.now) ≡ built g) × Draws (words c.turns.new.room) c.in_ok-last.last g
last c = let t = c.in_ok-last.ensures in (t.0, ap (λ (h : Graph). calls.turns 0 (steps_in c.args.steps.now) h) (sym c.load.ensures.is) ∙ t.1, t.2)

ends : (c : After-result_size) → Ends (on_nothing (length c.args.out.now) (answered (next (last c).0 0))) c.args.out.now c.sized-y.result (last c).0 0
ends c =
    let t = last c in
    nothing_ends c.args.out.now t.0 0 (c.sized-y.ensures ∙ fitted_sizes (words c.turns.new.room) c.in_ok-last.last t.0 t.2) (answered (next t.0 0)) refl

-- the call, once it is there
whole : (c : After-result_size) → calls.build_call c.args.src.now c.args.steps.now (length c.args.out.now) (length c.args.room.now) ≡ ((on_nothing (length c.args.out.now) (answered (next (last c).0 0))) at_step 0)
whole c =
    let a = c.args in
    let t = last c in
    at_source (λ b. calls.build_call b a.steps.now (length a.out.now) (length a.room.now) ≡ ((on_nothing (length a.out.now) (answered (next t.0 0))) at_step 0)) c.in_ok-drawing.ensures.source
    (built_enough room_build (length a.room.now) _ c.in_ok-work_room.ensures ∙ steps_made _ a.steps.now (length a.out.now) (stored_in c.in_ok-drawing.drawing) t.0 t.1)

pub returns-in_err-bytes : goal.returns-in_err-bytes
returns-in_err-bytes c =
    let a = c.args in
    let d = (goal.at.returns-in_err-bytes c).After-result_size in
    let is = refused_so _ _ _ ((ends d).refuses c.in_err-bytes.field-0.0 {r = Err c.in_err-bytes.field-0.0} c.in_err-bytes.ensures refl).result in
    stopped_gives _ a.out.now c.from_residual-in_err-bytes.ensures.1 (whole d ∙ at_step_refused is)

-- the room draws it in the sizes of its version
drawn_there : (c : After-result_size) → Draws (words c.turns.new.room) c.sized-y.result (last c).0
drawn_there c =
    let t = last c in
    subst (λ (y : Sizes). Draws (words c.turns.new.room) y t.0) (sym c.sized-y.ensures) (redrawn (words c.turns.new.room) c.in_ok-last.last _ t.0 t.2)

pub link-requires : goal.link-requires
link-requires c =
    let d = (goal.at.link-requires c).After-result_size in
    ((drawn_there d).sound, omega (arith, room_enough room_build (length c.args.room.now) c.in_ok-work_room.ensures, c.load.auto.room, c.turns.auto.room))

pub put_drawing-requires : goal.put_drawing-requires
put_drawing-requires c =
    let d = (goal.at.put_drawing-requires c).After-result_size in
    ((ends d).room c.in_ok-bytes.ensures, c.link.ensures.0, omega (arith, room_enough room_build (length c.args.room.now) c.in_ok-work_room.ensures, c.load.auto.room, c.turns.auto.room, c.link.auto.room))

pub returns : goal.returns
returns c =
    let a = c.args in
    let y = c.sized-y.result in
    let d = (goal.at.returns c).After-result_size in
    let same = c.link.ensures.1 ∙ (drawn_there d).is in
    gives_as (whole d) (done_gives ((ends d).done c.in_ok-bytes.ensures (c.put_drawing.ensures ∙ ap (λ (g : Graph). drawn a.out.now y (label_row g) (body g)) same)))
