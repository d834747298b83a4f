-- `cycle::flag_nodes` meets its contract.
-- Assumes nothing.
use mathlib.Core.Path.{◌≡◌, sym, ap, subst}
use mathlib.Core.List.{List}
use mathlib.Core.Logic.{⊎_elim}
use Prim.Native.Nat.{ℕ, ◌+◌, ◌*◌, ◌≤◌, ◌<◌}
use native.Mathlib.Nat.{eq-zero-or-pos}
use native.Mathlib.Omega.{arith}
use lib.ListN.{length}
use Rattle.tables.specs.Tables.{queue_at}
use Rattle.le.specs.Le.{words}
use Rattle.le.specs.Rows.{row_at, span}
use Rattle.le.specs.declared.Row.{Row}
use Rattle.le.proofs.Numbers.{below_widen}
use Rattle.le.proofs.Places.{length_words}
use Rattle.removal.specs.Room.{source}
use Rattle.cycle.specs.Stage.{Standing, Underway, Answered}
use Rattle.cycle.proofs.Begin.{drawn}
use Rattle.cycle.proofs.Ending.{all_gone, still_small, none_marked, none_queued, standing, underway, all_flagged}
use Rattle.cycle.proofs.flag_nodes.Goals as goal
use Rattle.cycle.proofs.flag_nodes.Goals.{After-clear_words}

positive : {k : ℕ} → (k ≡ 0 → ⊥) → 0 < k
positive {k} f = ⊎_elim (λ e. absurd (f e)) (λ l. l) (eq-zero-or-pos k)

-- the room has place for the flags and the queue
long : (c : After-clear_words) → queue_at + 2 * c.args.drawing.sizes.nodes ≤ length (words c.first_removal-end.new.room)
long c =
    let f = c.first_removal-end in
    omega (arith, (drawn c.args.drawing).few_nodes, length_words f.new.room, f.auto.room, c.requires.room_choice_in_bounds)

pub clear_words-requires : goal.clear_words-requires
clear_words-requires c = omega (arith, (drawn c.args.drawing).few_nodes, c.requires.room_choice_in_bounds, c.first_removal-end.auto.room)

pub returns-then-end-n : goal.returns-then-end-n
returns-then-end-n c = all_gone (drawn c.args.drawing) (long (goal.at.returns-then-end-n c).After-clear_words) c.first_removal-end.ensures c.clear_words.ensures _ c.if-end-n.true

pub mark_kept-requires : goal.mark_kept-requires
mark_kept-requires c =
    (omega (arith, c.requires.room_choice_in_bounds, c.first_removal-end.auto.room, c.clear_words.auto.room), c.requires.kept_ids.0, below_widen _ (drawn c.args.drawing).few_nodes c.requires.kept_ids.1)

pub make_queue-m-requires : goal.make_queue-m-requires
unfolding span
make_queue-m-requires c =
    let a = c.args in
    let d = drawn a.drawing in
    let ids : ℕ → List ℕ = span a.kept.now (row_at 0 a.drawing.sizes.width) 0 in
    let l = long (goal.at.make_queue-m-requires c).After-clear_words in
    let f = c.first_removal-end in
    let x = c.clear_words in
    let k = c.mark_kept in
    record {
      nodes_le_n = (omega arith, d.few_nodes, d.few, omega (arith, d.few_nodes, c.requires.room_choice_in_bounds, f.auto.room, x.auto.room, k.auto.room));
      all_small = (still_small d l f.ensures x.ensures (ids a.count) k.ensures, λ e. none_marked d l f.ensures x.ensures (ids a.count) k.ensures (ap ids e));
    }

pub returns-then-m-eq0 : goal.returns-then-m-eq0
returns-then-m-eq0 c =
    none_queued (drawn c.args.drawing) (long (goal.at.returns-then-m-eq0 c).After-clear_words) c.first_removal-end.ensures c.clear_words.ensures _ c.mark_kept.ensures c.make_queue-m.ensures c.if-end-n.false
    c.if-m-eq0.true

pub greedy_feedback_nodes-requires : goal.greedy_feedback_nodes-requires
greedy_feedback_nodes-requires c =
    let a = c.args in
    let z = a.drawing.sizes in
    let d = drawn a.drawing in
    let n = z.nodes + z.edges in
    let ids = span a.kept.now (row_at 0 z.width) 0 a.count in
    let l = long (goal.at.greedy_feedback_nodes-requires c).After-clear_words in
    let f = c.first_removal-end in
    let x = c.clear_words in
    let k = c.mark_kept in
    let o = c.make_queue-m in
    let Y = words o.new.room in
    let w = sym c.body.ensures in
    record {
      nodes_le_n = (omega arith, d.few_nodes, d.few, f.ensures.few, positive c.if-m-eq0.false, omega (arith, d.few_nodes, c.requires.room_choice_in_bounds, f.auto.room, x.auto.room, k.auto.room, o.auto.room, o.ensures.few));
      standing = (
        subst (λ (r : Row). Standing (source a.drawing.src.now r) Y z.nodes n o.result f.result) w (standing d l f.ensures x.ensures ids k.ensures o.ensures),
        subst (λ (r : Row). Underway (source a.drawing.src.now r) Y z.nodes n f.result) w (underway d l f.ensures x.ensures ids k.ensures o.ensures),
      );
    }

pub returns : goal.returns
returns c =
    let a = c.args in
    let z = a.drawing.sizes in
    let f = c.first_removal-end in
    let o = c.make_queue-m in
    let t = c.greedy_feedback_nodes in
    all_flagged (drawn a.drawing) (long (goal.at.returns c).After-clear_words) f.ensures c.clear_words.ensures _ c.mark_kept.ensures o.ensures
    (subst (λ (r : Row). Answered (source a.drawing.src.now r) (words o.new.room) (words t.new.room) z.nodes (z.nodes + z.edges) f.result t.result) c.body.ensures t.ensures)
