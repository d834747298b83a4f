-- `cycle::greedy_feedback_nodes` meets its contract.
-- Assumes nothing.
use mathlib.Core.Logic.{⊎_elim}
use mathlib.Core.Path.{◌≡◌, refl, sym, ap, ◌∙◌, subst}
use Prim.Native.Nat.{ℕ, ◌+◌, ◌*◌, ◌≤◌, ◌<◌}
use native.Mathlib.Nat.{eq-or-lt_of_le, eq-zero-or-pos}
use native.Mathlib.Omega.{arith}
use lib.ListN.{get_or}
use lib.Seq.{get_or-take}
use Rattle.removal.specs.Room.{source}
use Rattle.le.specs.Le.{words}
use Rattle.le.proofs.Places.{length_words}
use Rattle.choice.specs.Choice.{Chosen}
use Rattle.form.specs.Form.{telling}
use Rattle.choice.specs.Keeping.{keeping_choice}
use Rattle.graph.specs.Answer.{answered, refused, refusal}
use Rattle.graph.proofs.Steps.{never, same_answer}
use Rattle.cycle.specs.Next.{may, degrees_in}
use Rattle.cycle.specs.Stage.{Underway, Flagged}
use Rattle.cycle.proofs.May.{may_low}
use Rattle.cycle.proofs.Staging.{next_allowed, next_standing}
use Rattle.cycle.proofs.Running.{run_start, run_few, run_stuck, run_turn, run_done}
use Rattle.cycle.proofs.greedy_feedback_nodes.Goals as goal
use Rattle.cycle.proofs.greedy_feedback_nodes.Goals.{After-loop-last, After-next_candidate-best, After-word, At-loop-last}

-- a number that is not 0 is above it
positive : {k : ℕ} → (k ≡ 0 → ⊥) → 0 < k
positive {k} f = ⊎_elim (λ e. absurd (f e)) (λ l. l) (eq-zero-or-pos k)

below : {a b : ℕ} → a ≤ b → (a ≡ b → ⊥) → a < b
below l f = ⊎_elim (λ e. absurd (f e)) (λ k. k) (eq-or-lt_of_le l)

-- at each test: no more has gone than there is
within : (c : At-loop-last) → c.loop-last.last + c.loop-last.ids ≤ c.args.n
within c =
    let a = c.args in
    let l = c.loop-last in
    let u = c.requires.standing.1 in
    run_few (source a.s.now a.r) (words a.room.now) a.nodes a.n a.m (omega arith) (omega arith) (omega arith) (omega arith) (words l.room) l.last l.ids l.invariant.0 (omega (arith, length_words l.room, l.invariant.3)) u.arcs (l.invariant.2 u)

-- the best node is one, and its degree is what was read
low : (c : After-next_candidate-best) → c.next_candidate-best.result < c.args.nodes
low c =
    let a = c.args in
    let l = c.loop-last in
    let x = c.next_candidate-best in
    may_low (words x.new.room) a.nodes x.result
    (next_allowed (source a.s.now a.r) (words l.room) a.nodes a.n a.m l.last (omega arith) (omega arith) (omega arith) (omega arith) l.invariant.0 (omega (arith, length_words l.room, l.invariant.3)) l.invariant.1 (words x.new.room) x.result x.ensures)

degree : (c : After-word) → c.next_candidate-best.result < c.args.nodes → c.word.result ≡ get_or (degrees_in (words c.next_candidate-best.new.room) c.args.n) (2 * c.next_candidate-best.result) 0
degree c low =
    let a = c.args in
    let x = c.next_candidate-best in
    c.word.ensures ∙ sym (get_or-take (2 * a.n) (words x.new.room) (2 * x.result) 0 (omega (arith, low)))

done : (c : After-loop-last) → (u : Underway (source c.args.s.now c.args.r) (words c.args.room.now) c.args.nodes c.args.n c.args.end)
    → (d : Chosen) × (keeping_choice u.arcs (may (words c.args.room.now) c.args.nodes) c.args.n ≡ answered d) × Flagged c.args.nodes (words c.loop-last.room) d.ids × (d.free ≡ c.loop-last.last)
done c u =
    let a = c.args in
    let l = c.loop-last in
    let n = c.requires.nodes_le_n in
    let e : l.last + l.ids ≡ a.n = omega arith in
    run_done (source a.s.now a.r) (words a.room.now) a.nodes a.n a.m n.0 n.1 n.2 n.4 (words l.room) l.last l.ids l.invariant.0 (omega (arith, length_words l.room, l.invariant.3)) u.arcs (l.invariant.2 u) u.bounded e

pub loop-last-init : goal.loop-last-init
loop-last-init c =
    let a = c.args in
    (omega arith, c.requires.standing.0, run_start (source a.s.now a.r) (words a.room.now) a.nodes a.n a.m (omega arith) (omega arith) (omega arith) (omega arith) a.end, refl)

pub overflow_add-last : goal.overflow_add-last
overflow_add-last c = omega (arith, within (goal.at.overflow_add-last c).At-loop-last)

pub next_candidate-best-requires : goal.next_candidate-best-requires
next_candidate-best-requires c =
    let l = c.loop-last in
    record { nodes_le_n = (omega arith, omega arith, omega arith, omega (arith, l.invariant.3)); queued = l.invariant.1.queued }

pub overflow_mul-best : goal.overflow_mul-best
overflow_mul-best c = omega (arith, low (goal.at.overflow_mul-best c).After-next_candidate-best)

pub word-requires : goal.word-requires
word-requires c = omega (arith, low (goal.at.word-requires c).After-next_candidate-best, c.next_candidate-best.auto.room, c.loop-last.invariant.3)

pub returns-then-word-eq0 : goal.returns-then-word-eq0
returns-then-word-eq0 c =
    let a = c.args in
    let l = c.loop-last in
    let x = c.next_candidate-best in
    let at = goal.at.returns-then-word-eq0 c in
    let n = c.requires.nodes_le_n in
    let stuck : (u : Underway (source a.s.now a.r) (words a.room.now) a.nodes a.n a.end) → keeping_choice u.arcs (may (words a.room.now) a.nodes) a.n ≡ refused (refusal 16) = λ u.
    run_stuck (source a.s.now a.r) (words a.room.now) a.nodes a.n a.m n.0 n.1 n.2 n.4 (words l.room) l.last l.ids l.invariant.0 (omega (arith, length_words l.room, l.invariant.3)) l.invariant.1 (words x.new.room) x.result x.ensures u.arcs (l.invariant.2 u) u.bounded c.loop-last-test.true (sym (degree at.After-word (low at.After-next_candidate-best)) ∙ c.if-word-eq0.true) in
    record { is = λ u. sym (ap (telling (λ (c : Chosen). c.free)) (stuck u)); flags = λ u d e. absurd (never (sym (stuck u) ∙ e)) }

pub stage-last-requires : goal.stage-last-requires
stage-last-requires c =
    let a = c.args in
    let l = c.loop-last in
    let x = c.next_candidate-best in record {
      nodes_le_n = (omega arith, omega arith, omega arith, l.invariant.0, omega (arith, x.auto.room, l.invariant.3));
      standing = (
        next_standing (source a.s.now a.r) (words l.room) a.nodes a.n a.m l.last (omega arith) (omega arith) (omega arith) (omega arith) l.invariant.0 (omega (arith, length_words l.room, l.invariant.3)) l.invariant.1 (words x.new.room) x.result x.ensures,
        next_allowed (source a.s.now a.r) (words l.room) a.nodes a.n a.m l.last (omega arith) (omega arith) (omega arith) (omega arith) l.invariant.0 (omega (arith, length_words l.room, l.invariant.3)) l.invariant.1 (words x.new.room) x.result x.ensures,
      );
    }

pub overflow_add-ids : goal.overflow_add-ids
overflow_add-ids c = omega (arith, within (goal.at.overflow_add-ids c).At-loop-last)

pub loop-last-smaller : goal.loop-last-smaller
loop-last-smaller c =
    let w = within (goal.at.loop-last-smaller c).At-loop-last in
    omega (arith, w, c.stage-last.ensures.later, below w c.loop-last-test.true)

pub loop-last-preserved : goal.loop-last-preserved
loop-last-preserved c =
    let a = c.args in
    let l = c.loop-last in
    let x = c.next_candidate-best in
    let o = c.stage-last in
    let at = goal.at.loop-last-preserved c in
    let live : c.word.result ≡ 0 → ⊥ = c.if-word-eq0.false in
    let alive : 0 < get_or (degrees_in (words x.new.room) a.n) (2 * x.result) 0 = subst (λ (k : ℕ). 0 < k) (degree at.After-word (low at.After-next_candidate-best)) (positive live) in (
      o.ensures.few,
      o.ensures.standing,
      λ u. run_turn (source a.s.now a.r) (words a.room.now) a.nodes a.n a.m c.requires.nodes_le_n.0 c.requires.nodes_le_n.1 c.requires.nodes_le_n.2 c.requires.nodes_le_n.4 (words l.room) l.last l.ids l.invariant.0 (omega (arith, length_words l.room, l.invariant.3)) l.invariant.1 (words x.new.room) x.result x.ensures u.arcs (l.invariant.2 u) alive (words o.new.room) o.result o.ensures,
      o.auto.room ∙ x.auto.room ∙ l.invariant.3,
    )

pub returns : goal.returns
returns c = record {
  is = λ u. let w = done c u in sym (ap (telling (λ (c : Chosen). c.free)) w.1 ∙ ap answered w.3);
  flags = λ u d e. let w = done c u in subst (λ (k : Chosen). Flagged c.args.nodes (words c.loop-last.room) k.ids) (same_answer (sym w.1 ∙ e)) w.2;
}
