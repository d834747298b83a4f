-- `cycle::stage` meets its contract.
-- Assumes nothing.
use native.Mathlib.Omega.{arith}
use Rattle.removal.specs.Room.{source}
use Rattle.le.specs.Le.{words}
use Rattle.le.proofs.Places.{length_words}
use Rattle.cycle.proofs.May.{may_low}
use Rattle.cycle.proofs.Staging.{flag_roomy, flag_lists, pick_later, pick_roomy, pick_lists, staged}
use Rattle.cycle.proofs.stage.Goals as goal

pub overflow_add-best : goal.overflow_add-best
overflow_add-best c = omega (arith, may_low (words c.args.room.now) c.args.nodes c.args.best c.requires.standing.1)

pub set_word-requires : goal.set_word-requires
set_word-requires c = omega (arith, may_low (words c.args.room.now) c.args.nodes c.args.best c.requires.standing.1)

pub remove_vertex-gone-requires : goal.remove_vertex-gone-requires
remove_vertex-gone-requires c =
    let a = c.args in
    let f = c.set_word in record { x_lt_n = (omega (arith, may_low (words a.room.now) a.nodes a.best c.requires.standing.1), omega arith, omega arith, omega arith, omega arith); roomy = (flag_roomy (source a.s.now a.r) (words a.room.now) a.nodes a.n a.m a.best a.end (omega arith) (omega arith) (omega arith) (omega arith) (omega (arith, length_words a.room.now)) c.requires.standing.0 c.requires.standing.1 (words f.new.room) f.ensures, flag_lists (source a.s.now a.r) (words a.room.now) a.nodes a.n a.m a.best a.end (omega arith) (omega arith) (omega arith) (omega arith) (omega (arith, length_words a.room.now)) c.requires.standing.0 c.requires.standing.1 (words f.new.room) f.ensures) }

pub peel-requires : goal.peel-requires
peel-requires c =
    let a = c.args in
    let f = c.set_word in
    let p = c.remove_vertex-gone in record { from_le_end = (pick_later (source a.s.now a.r) (words a.room.now) a.nodes a.n a.m a.best a.end (omega arith) (omega arith) (omega arith) (omega arith) (omega (arith, length_words a.room.now)) c.requires.standing.0 c.requires.standing.1 (words f.new.room) f.ensures (words p.new.room) p.result p.ensures, omega arith, omega arith, p.ensures.few, omega arith); roomy = (pick_roomy (source a.s.now a.r) (words a.room.now) a.nodes a.n a.m a.best a.end (omega arith) (omega arith) (omega arith) (omega arith) (omega (arith, length_words a.room.now)) c.requires.standing.0 c.requires.standing.1 (words f.new.room) f.ensures (words p.new.room) p.result p.ensures, pick_lists (source a.s.now a.r) (words a.room.now) a.nodes a.n a.m a.best a.end (omega arith) (omega arith) (omega arith) (omega arith) (omega (arith, length_words a.room.now)) c.requires.standing.0 c.requires.standing.1 (words f.new.room) f.ensures (words p.new.room) p.result p.ensures) }

pub returns : goal.returns
returns c =
    let a = c.args in
    let f = c.set_word in
    let p = c.remove_vertex-gone in
    let o = c.peel in
    staged (source a.s.now a.r) (words a.room.now) a.nodes a.n a.m a.best a.end (omega arith) (omega arith) (omega arith) (omega arith) (omega (arith, length_words a.room.now)) c.requires.standing.0 c.requires.standing.1 (words f.new.room) f.ensures (words p.new.room) p.result p.ensures (words o.new.room) o.result o.ensures
