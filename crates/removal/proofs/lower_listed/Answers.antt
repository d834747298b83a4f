-- `removal::lower_listed` meets its contract.
-- Assumes nothing.
use mathlib.Core.Path.{◌≡◌, refl, ◌∙◌}
use Prim.Native.Nat.{◌<◌}
use native.Mathlib.Omega.{arith}
use lib.ListN.{length, get_or}
use Rattle.le.specs.Le.{words}
use Rattle.le.proofs.Places.{in_words}
use Rattle.tables.specs.Tables.{picked_at}
use Rattle.removal.specs.Room.{room_list}
use Rattle.removal.proofs.Walks.{in_get_d, walk_start, walk_roomy, walk_turn, walk_done, listed_length, listed_at}
use Rattle.removal.proofs.lower_listed.Goals as goal
use Rattle.removal.proofs.lower_listed.Goals.{After-word-y}

-- what was read is the list's entry
next : (c : After-word-y) → let a = c.args in c.word-y.result ≡ get_or (room_list (words a.room.now) a.start a.count) c.loop-j.j 0
next c = let a = c.args in
    let l = c.loop-j in
    c.word-y.ensures ∙ listed_at (words a.room.now) a.start a.count (omega arith) (in_words a.room.now picked_at (omega arith)) (words l.room) l.invariant.1.frame l.j (omega arith)

pub loop-j-init : goal.loop-j-init
loop-j-init c =
    let a = c.args in
    (omega arith, walk_start (words a.room.now) a.n a.end (room_list (words a.room.now) a.start a.count) (omega arith), refl)

pub lower-last-requires : goal.lower-last-requires
lower-last-requires c =
    let a = c.args in
    let l = c.loop-j in
    let W = words a.room.now in
    let ts = room_list W a.start a.count in
    let j : l.j < length ts = omega (arith, listed_length W a.start a.count (omega arith) (in_words a.room.now picked_at (omega arith))) in
    let w = l.invariant.1 in
    let low = c.requires.roomy.1 in record { y_bound = (omega (arith, next (goal.at.lower-last-requires c).After-word-y, low (get_or ts l.j 0) (in_get_d ts l.j j)), omega arith, w.few, omega arith); roomy = walk_roomy W a.n a.end ts (words l.room) l.j l.last w low c.requires.roomy.0 }

pub loop-j-preserved : goal.loop-j-preserved
loop-j-preserved c =
    let a = c.args in
    let l = c.loop-j in
    let W = words a.room.now in
    let ts = room_list W a.start a.count in
    let o = c.lower-last in
    let j : l.j < length ts = omega (arith, listed_length W a.start a.count (omega arith) (in_words a.room.now picked_at (omega arith))) in (
      omega arith,
      walk_turn W a.n a.end ts (words l.room) l.j l.last l.invariant.1 c.word-y.result j (next (goal.at.loop-j-preserved c).After-word-y) (words o.new.room) o.result o.ensures,
      o.auto.room ∙ l.invariant.2,
    )

pub returns : goal.returns
returns c =
    let a = c.args in
    let l = c.loop-j in
    let W = words a.room.now in
    walk_done W a.n a.end (room_list W a.start a.count) (words l.room) l.j l.last l.invariant.1
    (omega (arith, listed_length W a.start a.count (omega arith) (in_words a.room.now picked_at (omega arith))))
