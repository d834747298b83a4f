-- `reasons::put_reasons` meets its contract.
-- Assumes nothing.
use mathlib.Core.Logic.{⊎_elim}
use mathlib.Core.Path.{◌≡◌, subst}
use Prim.Native.Nat.{ℕ, ◌+◌, ◌*◌, ◌≤◌, ◌<◌}
use lib.ListN.{length}
use native.Mathlib.Nat.{eq-zero-or-pos}
use native.Mathlib.Omega.{arith}
use Rattle.le.specs.Le.{words}
use Rattle.le.proofs.Frames.{outside_trans}
use Rattle.le.proofs.Places.{length_words}
use Rattle.queue.specs.Keys.{Queued}
use Rattle.queue.specs.Places.{keys_in}
use Rattle.tables.specs.Tables.{queue_at}
use Rattle.cycle.specs.Next.{may, degrees_in}
use Rattle.cycle.proofs.Begin.{drawn}
use Rattle.reasons.proofs.Ending.{cleared_small, cleared_none, queue_explaining, queue_queued, queue_none}
use Rattle.reasons.proofs.Running.{none_queued}
use Rattle.reasons.proofs.put_reasons.Goals as goal
use Rattle.reasons.proofs.put_reasons.Goals.{After-first_removal-end}

positive : {k : ℕ} → (k ≡ 0 → ⊥) → 0 < k
positive {k} f = ⊎_elim (λ e. absurd (f e)) (λ l. l) (eq-zero-or-pos k)

-- the room has place for the flags and the queue
long : (c : After-first_removal-end) → queue_at + 2 * c.args.drawing.sizes.nodes ≤ length (words c.first_removal-end.new.room)
long c = let f = c.first_removal-end in omega (arith, (drawn c.args.drawing).few_nodes, length_words f.new.room, f.auto.room)

pub clear_words-requires : goal.clear_words-requires
clear_words-requires c = omega (arith, (drawn c.args.drawing).few_nodes, c.first_removal-end.auto.room)

pub make_queue-m-requires : goal.make_queue-m-requires
make_queue-m-requires c =
    let d = drawn c.args.drawing in
    let l = long (goal.at.make_queue-m-requires c).After-first_removal-end in
    let f = c.first_removal-end in
    let x = c.clear_words in
    record { nodes_le_n = (omega arith, d.few_nodes, d.few, omega (arith, d.few_nodes, f.auto.room, x.auto.room)); all_small = (cleared_small d l f.ensures.0 x.ensures, λ e. cleared_none d l f.ensures.0 x.ensures) }

pub returns-then-m-eq0 : goal.returns-then-m-eq0
returns-then-m-eq0 c =
    let z = c.args.drawing.sizes in
    let d = drawn c.args.drawing in
    let l = long (goal.at.returns-then-m-eq0 c).After-first_removal-end in
    let f = c.first_removal-end in
    let x = c.clear_words in
    let k = c.make_queue-m in
    let Y = words k.new.room in
    none_queued d (omega (arith, d.few_nodes, length_words k.new.room, length_words f.new.room, f.auto.room, k.auto.room, x.auto.room)) (queue_explaining d l f.ensures.0 x.ensures k.ensures)
    (subst (λ (m : ℕ). Queued (may Y z.nodes) (degrees_in Y (z.nodes + z.edges)) (keys_in Y queue_at m)) c.if-m-eq0.true (queue_queued d l f.ensures.0 x.ensures k.ensures)) (queue_none d l f.ensures.0 x.ensures k.ensures) f.ensures.1

pub explain-requires : goal.explain-requires
explain-requires c =
    let d = drawn c.args.drawing in
    let l = long (goal.at.explain-requires c).After-first_removal-end in
    let f = c.first_removal-end in
    let x = c.clear_words in
    let k = c.make_queue-m in
    record {
      nodes_in_bounds = (omega (arith, f.auto.out), positive c.if-m-eq0.false, omega (arith, d.few_nodes, k.ensures.few, f.auto.room, x.auto.room, k.auto.room));
      explaining = queue_explaining d l f.ensures.0 x.ensures k.ensures;
      queued = (queue_queued d l f.ensures.0 x.ensures k.ensures, queue_none d l f.ensures.0 x.ensures k.ensures);
    }

pub returns : goal.returns
returns c =
    let e = c.explain in
    record { cuts = e.ensures.cuts; told = e.ensures.told; frame = outside_trans c.first_removal-end.ensures.1 e.ensures.frame }
