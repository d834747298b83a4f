-- `cycle::next_candidate` meets its contract.
-- Assumes nothing.
use mathlib.Core.Path.{◌≡◌, refl, ◌∙◌}
use Prim.Native.Nat.{◌+◌, ◌*◌, ◌<◌}
use native.Mathlib.Omega.{arith}
use lib.ListN.{get_or}
use Rattle.le.proofs.Frames.{outside_none, outside_trans}
use Rattle.tables.specs.Tables.{queue_at}
use Rattle.le.specs.Le.{words}
use Rattle.le.proofs.Places.{length_words}
use Rattle.queue.specs.Places.{keys_in}
use Rattle.cycle.proofs.Turning.{Turning, top_read, top_node, degree_small, key_read, heap_here, turn_queued, turn_less, turned}
use Rattle.cycle.proofs.next_candidate.Goals as goal
use Rattle.cycle.proofs.next_candidate.Goals.{After-key_now-present, After-unpack-c}

-- what was read is the top
top : (c : After-unpack-c) → c.key_at-top.result ≡ get_or (keys_in (words c.loop-c.room) queue_at c.args.m) 0 0
top c =
    let a = c.args in
    let l = c.loop-c in
    c.key_at-top.ensures ∙ top_read (words a.room.now) a.nodes a.n a.m (omega arith) (omega arith) (omega arith) (omega (arith, length_words a.room.now)) (words l.room) l.invariant.1.long l.invariant.0

low : (c : After-unpack-c) → c.unpack-c.result.id < c.args.nodes
low c =
    let a = c.args in
    let l = c.loop-c in
    top_node (words a.room.now) a.nodes a.n a.m (omega arith) (omega arith) (omega arith) (omega (arith, length_words a.room.now)) (words l.room) l.invariant.1.long l.invariant.0 c.key_at-top.result c.unpack-c.result.id (top c) c.unpack-c.ensures.1

-- the state of the loop once all three are read
turning : (c : After-key_now-present) → c.key_at-top.result ≡ get_or (keys_in (words c.loop-c.room) queue_at c.args.m) 0 0 → c.unpack-c.result.id < c.args.nodes
    → Turning (words c.args.room.now) (words c.loop-c.room) c.args.nodes c.args.n c.args.m c.key_at-top.result c.unpack-c.result.id c.key_now-present.result
turning c is_top low =
    let a = c.args in
    let l = c.loop-c in
    record {
      queued = l.invariant.0;
      frame = l.invariant.1;
      is_top = is_top;
      is_id = c.unpack-c.ensures.1;
      is_present = c.key_now-present.ensures ∙ key_read (words a.room.now) a.nodes a.n a.m (omega arith) (omega arith) (omega arith) (omega (arith, length_words a.room.now)) (words l.room) l.invariant.1.long l.invariant.0 c.unpack-c.result.id low;
    }

pub loop-c-init : goal.loop-c-init
loop-c-init c = (c.requires.queued, outside_none queue_at (queue_at + 2 * c.args.m) (words c.args.room.now), refl)

pub key_at-top-requires : goal.key_at-top-requires
key_at-top-requires c = omega (arith, c.loop-c.invariant.2)

pub key_now-present-requires : goal.key_now-present-requires
key_now-present-requires c =
    let a = c.args in
    let l = c.loop-c in
    let X = words l.room in
    let v = low (goal.at.key_now-present-requires c).After-unpack-c in record {
      v_lt_radix = (omega (arith, v), omega (arith, v, l.invariant.2));
      v_bound = (
        degree_small (words a.room.now) a.nodes a.n a.m (omega arith) (omega arith) (omega arith) (omega (arith, length_words a.room.now)) X l.invariant.1.long l.invariant.0 (2 * c.unpack-c.result.id) (omega (arith, v)),
        degree_small (words a.room.now) a.nodes a.n a.m (omega arith) (omega arith) (omega arith) (omega (arith, length_words a.room.now)) X l.invariant.1.long l.invariant.0 (2 * c.unpack-c.result.id + 1) (omega (arith, v)),
      );
    }

pub sink-requires : goal.sink-requires
sink-requires c =
    let a = c.args in
    let at = goal.at.sink-requires c in
    let l = c.loop-c in
    record { n_nonzero = (omega arith, omega (arith, l.invariant.2)); heap = heap_here (words a.room.now) a.nodes a.n a.m (omega arith) (omega arith) (omega arith) (omega (arith, length_words a.room.now)) (words l.room) _ _ _ (turning at.After-key_now-present (top at.After-unpack-c) (low at.After-unpack-c)) }

pub loop-c-smaller : goal.loop-c-smaller
loop-c-smaller c =
    let a = c.args in
    let at = goal.at.loop-c-smaller c in
    let l = c.loop-c in
    let w = c.sink in
    turn_less (words a.room.now) a.nodes a.n a.m (omega arith) (omega arith) (omega arith) (omega (arith, length_words a.room.now)) (words l.room) _ _ _ (turning at.After-key_now-present (top at.After-unpack-c) (low at.After-unpack-c)) (words w.new.room) w.ensures c.if-present-top.false

pub loop-c-preserved : goal.loop-c-preserved
loop-c-preserved c =
    let a = c.args in
    let at = goal.at.loop-c-preserved c in
    let l = c.loop-c in
    let w = c.sink in
    (turn_queued (words a.room.now) a.nodes a.n a.m (omega arith) (omega arith) (omega arith) (omega (arith, length_words a.room.now)) (words l.room) _ _ _ (turning at.After-key_now-present (top at.After-unpack-c) (low at.After-unpack-c)) (words w.new.room) w.ensures, outside_trans l.invariant.1 w.ensures.frame, w.auto.room ∙ l.invariant.2)

pub returns-then-present-top : goal.returns-then-present-top
returns-then-present-top c =
    let a = c.args in
    let at = goal.at.returns-then-present-top c in
    turned (words a.room.now) a.nodes a.n a.m (omega arith) (omega arith) (omega arith) (omega (arith, length_words a.room.now)) (words c.loop-c.room) _ _ _ (turning at.After-key_now-present (top at.After-unpack-c) (low at.After-unpack-c)) c.if-present-top.true
