-- `cycle::make_queue` meets its contract.
-- Assumes nothing.
use mathlib.Core.Path.{◌≡◌, refl, ◌∙◌, subst}
use Prim.Native.Nat.{ℕ, ◌+◌, ◌*◌}
use native.Mathlib.Omega.{arith}
use Rattle.tables.specs.Tables.{queue_at}
use Rattle.le.specs.Le.{words}
use Rattle.le.proofs.Places.{length_words}
use Rattle.cycle.specs.Stage.{Offered}
use Rattle.cycle.proofs.May.{none_outside}
use Rattle.cycle.proofs.Making.{making_start, making_heap, making_small, making_turn, making_done}
use Rattle.cycle.proofs.make_queue.Goals as goal

pub loop-v-init : goal.loop-v-init
loop-v-init c =
    let a = c.args in
    (omega arith, making_start (words a.room.now) a.nodes a.n (omega arith) (omega arith) (omega arith) (omega (arith, length_words a.room.now)) c.requires.all_small.0, refl)

pub push_candidate-m-requires : goal.push_candidate-m-requires
push_candidate-m-requires c =
    let a = c.args in
    let l = c.loop-v in
    record { v_lt_n = (omega arith, omega arith, omega arith, l.invariant.1.few, omega (arith, l.invariant.1.few)); heap = (making_heap (words a.room.now) a.nodes a.n (omega arith) (omega arith) (omega arith) (omega (arith, length_words a.room.now)) c.requires.all_small.0 (words l.room) l.v l.m (omega arith) l.invariant.1, making_small (words a.room.now) a.nodes a.n (omega arith) (omega arith) (omega arith) (omega (arith, length_words a.room.now)) c.requires.all_small.0 (words l.room) l.v l.m (omega arith) l.invariant.1, λ e. none_outside (words a.room.now) (words l.room) a.nodes (queue_at + 2 * a.nodes) (omega arith) l.invariant.1.frame (c.requires.all_small.1 e)) }

pub loop-v-preserved : goal.loop-v-preserved
loop-v-preserved c =
    let a = c.args in
    let l = c.loop-v in
    let o = c.push_candidate-m in
    (omega arith, making_turn (words a.room.now) a.nodes a.n (omega arith) (omega arith) (omega arith) (omega (arith, length_words a.room.now)) c.requires.all_small.0 (words l.room) l.v l.m (omega arith) l.invariant.1 (words o.new.room) o.result o.ensures, o.auto.room ∙ l.invariant.2)

pub returns : goal.returns
returns c =
    let a = c.args in
    let l = c.loop-v in
    let e : l.v ≡ a.nodes = omega arith in
    making_done (words a.room.now) a.nodes a.n (omega arith) (omega arith) (omega arith) (omega (arith, length_words a.room.now)) c.requires.all_small.0 (words l.room) l.m (subst (λ (k : ℕ). Offered (words a.room.now) (words l.room) a.nodes a.n k l.m) e l.invariant.1)
