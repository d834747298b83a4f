-- `loops::show_loop` meets its contract.
-- Assumes nothing.
use mathlib.Core.List.{◌∷◌}
use mathlib.Core.Path.{sym, ◌∙◌, subst}
use Prim.Native.Nat.{◌-◌, ◌≤◌}
use native.Mathlib.Omega.{arith}
use lib.Dec.{ltb}
use lib.ListN.{length}
use Rattle.choice.specs.Calls.{showing}
use Rattle.choice.specs.Loop.{Loop, walk_from}
use Rattle.form.specs.Form.{Gives}
use Rattle.form.proofs.Stored.{stored_rows}
use Rattle.le.specs.Le.{words}
use Rattle.le.specs.declared.Row.{Row}
use Rattle.le.proofs.Places.{length_words}
use Rattle.tables.specs.Tables.{picked_at}
use Rattle.removal.specs.Room.{source}
use Rattle.cycle.proofs.Begin.{drawn}
use Rattle.loops.specs.Walk.{Closes, Starting, Looping, LaidIn}
use Rattle.loops.proofs.Show.{starting, loop_walked, ring, ring_short, looping, laid_shown}
use Rattle.form.proofs.Drawn.{stored_in}
use Rattle.incidence.specs.Incidence.{source_in}
use Rattle.loops.proofs.show_loop.Goals as goal
use Rattle.loops.proofs.show_loop.Goals.{After-lay_loop-count, After-walk-c, Start}

-- the tables stand as they were built
long : (c : Start) → picked_at ≤ length (words c.args.room.now)
long c = omega (arith, length_words c.args.room.now, c.requires.room_removal_in_bounds)

-- the walk may start
abbrev first : (c : Start) → Starting (source_in c.args.drawing) (words c.args.room.now) c.args.drawing.sizes.nodes c.args.left
first c = starting (drawn c.args.drawing) (long c) c.requires.first c.args.left (omega arith) (omega arith)

-- what it came to
closed : (c : After-walk-c) → let a = c.args in
    (u : Starting (source_in a.drawing) (words a.room.now) a.drawing.sizes.nodes a.left)
    → Closes 1 (walk_from (a.left - 1) u.arcs (λ v. ltb v a.drawing.sizes.nodes) u.core) c.walk-c.result.steps c.walk-c.result.again
closed c u =
    let a = c.args in
    let o = c.walk-c in
    subst (λ (r : Row). (u : Starting (source a.drawing.src.now r) (words a.room.now) a.drawing.sizes.nodes a.left) → Closes 1 (walk_from (a.left - 1) u.arcs (λ v. ltb v a.drawing.sizes.nodes) u.core) o.result.steps o.result.again)
    c.body-r.ensures o.ensures u

-- the loop, laid
laid : (c : After-lay_loop-count) → let a = c.args in
    (u : Starting (source_in a.drawing) (words a.room.now) a.drawing.sizes.nodes a.left)
    → Closes 1 (walk_from (a.left - 1) u.arcs (λ v. ltb v a.drawing.sizes.nodes) u.core) c.walk-c.result.steps c.walk-c.result.again
    → LaidIn (words c.lay_loop-count.new.room) (c.walk-c.result.again ∷ (ring u).0) c.lay_loop-count.result
laid c u k =
    let a = c.args in
    let o = c.lay_loop-count in
    subst (λ (r : Row). (u : Looping (source a.drawing.src.now r) (words a.room.now) a.drawing.sizes.nodes c.walk-c.result.again) → LaidIn (words o.new.room) (c.walk-c.result.again ∷ u.others) o.result)
    c.body-r.ensures o.ensures (looping u k.again)

pub walk-c-requires : goal.walk-c-requires
walk-c-requires c =
    let a = c.args in
    record { room_removal_in_bounds = c.requires.room_removal_in_bounds.0; starting = subst (λ (r : Row). Starting (source a.drawing.src.now r) (words a.room.now) a.drawing.sizes.nodes a.left) (sym c.body-r.ensures) (first (goal.at.walk-c-requires c).Start) }

pub lay_loop-count-requires : goal.lay_loop-count-requires
lay_loop-count-requires c =
    let a = c.args in
    let at = goal.at.lay_loop-count-requires c in
    let f = first at.Start in
    record {
      room_removal_in_bounds = c.requires.room_removal_in_bounds.0;
      looping = subst (λ (r : Row). Looping (source a.drawing.src.now r) (words a.room.now) a.drawing.sizes.nodes c.walk-c.result.again) (sym c.body-r.ensures) (looping f (closed at.After-walk-c f).again);
    }

pub put_loop-requires : goal.put_loop-requires
put_loop-requires c =
    let at = goal.at.put_loop-requires c in
    let f = first at.Start in
    ((stored_rows (stored_in c.args.drawing)).low.width, omega (arith, (laid at.After-lay_loop-count f (closed at.After-walk-c f)).count, ring_short f), omega (arith, c.lay_loop-count.auto.room))

pub returns : goal.returns
returns c =
    let a = c.args in
    let p = c.put_loop in
    let at = goal.at.returns c in
    let f = first at.Start in
    let k = closed at.After-walk-c f in
    let shown = laid_shown f k.again (laid at.After-lay_loop-count f k) k in
    let is = loop_walked (drawn a.drawing) (long at.Start) c.requires.first a.left (omega arith) (omega arith) in
    λ f e. subst (λ (x : Loop). Gives (showing f (length a.list.now) x) p.result a.list.now p.new.list) (shown ∙ sym is) (p.ensures f e)
