-- `reasons::explain` meets its contract.
-- Assumes nothing.
use mathlib.Core.Logic.{⊎_elim}
use mathlib.Core.Path.{◌≡◌, refl, sym, ◌∙◌, subst}
use Prim.Native.Nat.{ℕ, ◌+◌, ◌*◌, ◌≤◌, ◌<◌}
use native.Mathlib.Nat.{eq-or-lt_of_le}
use native.Mathlib.Omega.{arith}
use lib.ListN.{length}
use Rattle.le.specs.Le.{words}
use Rattle.le.specs.declared.Row.{Row}
use Rattle.le.proofs.Frames.{outside_none}
use Rattle.le.proofs.Places.{length_words}
use Rattle.tables.specs.Tables.{queue_at}
use Rattle.removal.specs.Room.{source, Lists}
use Rattle.cycle.proofs.Begin.{drawn}
use Rattle.reasons.specs.Told.{Chose}
use Rattle.reasons.proofs.Running.{Running, running_few, running_next, running_best, best_low, running_later, running_fits, running_turn, running_done}
use Rattle.incidence.specs.Incidence.{source_in}
use Rattle.form.specs.Drawn.{graph_in}
use Rattle.reasons.proofs.explain.Goals as goal
use Rattle.reasons.proofs.explain.Goals.{After-choose-last, At-loop-last}

below : {a b : ℕ} → a ≤ b → (a ≡ b → ⊥) → a < b
below l f = ⊎_elim (λ e. absurd (f e)) (λ k. k) (eq-or-lt_of_le l)

-- at each test: the room has place for the queue
long : (c : At-loop-last) → queue_at + 2 * c.args.m ≤ length (words c.loop-last.room)
long c = omega (arith, length_words c.loop-last.room, c.loop-last.invariant.1)

-- and no more has gone than there is
within : (c : At-loop-last) → c.loop-last.last + c.loop-last.ids ≤ c.args.drawing.sizes.nodes + c.args.drawing.sizes.edges
within c = running_few (drawn c.args.drawing) (long c) c.loop-last.invariant.0

-- the stage is done
turned : (c : After-choose-last) → let a = c.args in
    let z = a.drawing.sizes in
    (c.loop-last.last ≤ c.choose-last.result) × (c.choose-last.result ≤ z.nodes + z.edges)
    × Running (source_in a.drawing) (graph_in a.drawing) a.out.now (words c.choose-last.new.room) c.choose-last.new.out z.nodes (z.nodes + z.edges) a.m c.choose-last.result (c.loop-last.ids + 1)
turned c =
    let a = c.args in
    let z = a.drawing.sizes in
    let d = drawn a.drawing in
    let n = z.nodes + z.edges in
    let l = c.loop-last in
    let x = c.next_candidate-best in
    let M = words x.new.room in
    let e = c.choose-last in
    let some = c.loop-last-test.true in
    let place : queue_at + 2 * a.m ≤ length (words l.room) = omega (arith, length_words l.room, l.invariant.1) in
    let best = running_best d place l.invariant.0 (omega arith) x.ensures some in
    let low = best_low d place l.invariant.0 (omega arith) x.ensures some in
    let r = running_next d place l.invariant.0 (omega arith) x.ensures in
    let after : queue_at + 2 * a.m ≤ length M = omega (arith, x.ensures.frame.long, place) in
    let room : 16 * z.nodes ≤ length l.out = omega (arith, l.invariant.0.frame.long) in
    let h = subst (λ (w : Row). Chose (source a.drawing.src.now w) M (words e.new.room) l.out e.new.out z.nodes n x.result l.last (l.ids + 1) e.result) c.body-r.ensures e.ensures in
    (running_later d after r best low room h, running_fits d after r best low room h, running_turn d after r best low room h)

pub loop-last-init : goal.loop-last-init
loop-last-init c =
    let a = c.args in
    (record { explaining = c.requires.explaining; queued = c.requires.queued.0; unkept = c.requires.queued.1; frame = outside_none 0 (16 * a.drawing.sizes.nodes) a.out.now }, refl)

pub overflow_add-last : goal.overflow_add-last
overflow_add-last c = omega (arith, within (goal.at.overflow_add-last c).At-loop-last, (drawn c.args.drawing).few)

pub next_candidate-best-requires : goal.next_candidate-best-requires
next_candidate-best-requires c =
    let l = c.loop-last in
    record { nodes_le_n = (omega arith, (drawn c.args.drawing).few, omega arith, omega (arith, l.invariant.1)); queued = l.invariant.0.queued }

pub overflow_add-ids : goal.overflow_add-ids
overflow_add-ids c = omega (arith, within (goal.at.overflow_add-ids c).At-loop-last, (drawn c.args.drawing).few)

pub overflow_cast-ids : goal.overflow_cast-ids
overflow_cast-ids c = omega (arith, within (goal.at.overflow_cast-ids c).At-loop-last, (drawn c.args.drawing).few)

pub choose-last-requires : goal.choose-last-requires
choose-last-requires c =
    let a = c.args in
    let z = a.drawing.sizes in
    let d = drawn a.drawing in
    let l = c.loop-last in
    let x = c.next_candidate-best in
    let at = (goal.at.choose-last-requires c).At-loop-last in
    let low = best_low d (long at) l.invariant.0 (omega arith) x.ensures c.loop-last-test.true in
    let t = (running_next d (long at) l.invariant.0 (omega arith) x.ensures).explaining in
    record {
      nodes_in_bounds = (omega (arith, l.invariant.0.frame.long), omega (arith, within at, d.few), low, d.few, omega arith, t.few, omega (arith, x.auto.room, l.invariant.1));
      roomy = (t.roomy, subst (λ (r : Row). Lists (source a.drawing.src.now r) (words x.new.room) z.nodes (z.nodes + z.edges)) (sym c.body-r.ensures) t.tabled.lists);
    }

pub loop-last-smaller : goal.loop-last-smaller
loop-last-smaller c =
    let at = goal.at.loop-last-smaller c in
    let t = turned at.After-choose-last in
    let w = within at.At-loop-last in
    omega (arith, t.0, t.1, w, below w c.loop-last-test.true)

pub loop-last-preserved : goal.loop-last-preserved
loop-last-preserved c = ((turned (goal.at.loop-last-preserved c).After-choose-last).2, c.choose-last.auto.room ∙ c.next_candidate-best.auto.room ∙ c.loop-last.invariant.1)

pub returns : goal.returns
returns c =
    let l = c.loop-last in
    let z = c.args.drawing.sizes in
    let e : l.last + l.ids ≡ z.nodes + z.edges = omega arith in
    running_done (drawn c.args.drawing) (long (goal.at.returns c).At-loop-last) l.invariant.0 e
