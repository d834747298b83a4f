-- `reasons::walk` meets its contract.
-- Assumes nothing.
use native.Mathlib.Omega.{arith}
use Rattle.le.specs.Le.{words}
use Rattle.le.proofs.Places.{length_words}
use Rattle.halves.specs.Halves.{lower_all}
use Rattle.removal.specs.Room.{source, halves_in, list_in}
use Rattle.removal.proofs.Rooms.{roomy_all}
use Rattle.reasons.proofs.Rooms.{walked_later, after_roomy, after_lists, after_settled}
use Rattle.reasons.proofs.walk.Goals as goal

pub settle-requires : goal.settle-requires
settle-requires c =
    let a = c.args in
    let q = source a.s.now a.r in
    let W = words a.room.now in
    let o = c.lower_all-gone in
    let M = words o.new.room in
    let h = lower_all (list_in q W a.nodes a.y) (halves_in W a.n a.end) in
    let y = c.requires.nodes_in_bounds.1 in
    let roomy = roomy_all a.n (list_in q W a.nodes a.y) (halves_in W a.n a.end) (c.requires.roomy.1.low a.y y) c.requires.roomy.0 in record {
      nodes_in_bounds = (omega arith, walked_later q W M a.nodes a.n (omega arith) (omega (arith, length_words a.room.now)) a.y a.end o.result (omega arith) o.ensures, omega arith, omega arith, o.ensures.few, omega (arith, o.auto.room));
      roomy = (
        after_roomy q W M M a.nodes a.n (omega arith) (omega arith) (omega (arith, length_words a.room.now)) c.requires.roomy.1 h roomy o.result o.ensures,
        after_lists q W M M a.nodes a.n (omega arith) (omega arith) (omega (arith, length_words a.room.now)) c.requires.roomy.1 h roomy o.result o.ensures,
      );
    }

pub returns : goal.returns
returns c =
    let a = c.args in
    let q = source a.s.now a.r in
    let W = words a.room.now in
    let o = c.lower_all-gone in
    let t = c.settle in
    let M = words o.new.room in
    let h = lower_all (list_in q W a.nodes a.y) (halves_in W a.n a.end) in
    let y = c.requires.nodes_in_bounds.1 in
    let roomy = roomy_all a.n (list_in q W a.nodes a.y) (halves_in W a.n a.end) (c.requires.roomy.1.low a.y y) c.requires.roomy.0 in (
      after_settled q W M (words t.new.room) a.nodes a.n (omega arith) (omega arith) (omega (arith, length_words a.room.now)) c.requires.roomy.1 h roomy o.result o.ensures a.end t.result t.ensures.0,
      t.ensures.1,
    )
