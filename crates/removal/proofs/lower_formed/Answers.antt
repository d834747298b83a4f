-- `removal::lower_formed` meets its contract.
-- Assumes nothing.
use mathlib.Core.Path.{◌≡◌, refl, ap, ◌∙◌}
use Prim.Native.Nat.{ℕ, ◌+◌, ◌*◌, ◌<◌}
use native.Mathlib.Omega.{arith}
use lib.ListN.{length, get_or}
use Rattle.le.specs.Le.{words}
use Rattle.removal.specs.Room.{source, form_list}
use Rattle.removal.proofs.Walks.{in_get_d, walk_start, walk_roomy, walk_turn, walk_done, formed_length, formed_at}
use Rattle.removal.proofs.lower_formed.Goals as goal
use Rattle.removal.proofs.lower_formed.Goals.{After-number-id}

-- what was read is the list's entry
next : (c : After-number-id) → let a = c.args in
    2 * c.number-id.result + a.side ≡ get_or (form_list (source a.s.now a.r) a.start a.count a.side) c.loop-j.j 0
next c = let a = c.args in
    let l = c.loop-j in
    ap (λ (k : ℕ). 2 * k + a.side) c.number-id.ensures.0 ∙ formed_at (source a.s.now a.r) a.start a.count a.side l.j (omega arith)

pub loop-j-init : goal.loop-j-init
loop-j-init c =
    let a = c.args in
    (omega arith, walk_start (words a.room.now) a.n a.end (form_list (source a.s.now a.r) a.start a.count a.side) (omega arith), refl)

pub lower-last-requires : goal.lower-last-requires
lower-last-requires c =
    let a = c.args in
    let l = c.loop-j in
    let W = words a.room.now in
    let ts = form_list (source a.s.now a.r) a.start a.count a.side in
    let j : l.j < length ts = omega (arith, formed_length (source a.s.now a.r) a.start a.count a.side) in
    let w = l.invariant.1 in
    let low = c.requires.roomy.1 in record { y_bound = (omega (arith, next (goal.at.lower-last-requires c).After-number-id, low (get_or ts l.j 0) (in_get_d ts l.j j)), omega arith, w.few, omega arith); roomy = walk_roomy W a.n a.end ts (words l.room) l.j l.last w low c.requires.roomy.0 }

pub loop-j-preserved : goal.loop-j-preserved
loop-j-preserved c =
    let a = c.args in
    let l = c.loop-j in
    let W = words a.room.now in
    let ts = form_list (source a.s.now a.r) a.start a.count a.side in
    let o = c.lower-last in
    let j : l.j < length ts = omega (arith, formed_length (source a.s.now a.r) a.start a.count a.side) in (
      omega arith,
      walk_turn W a.n a.end ts (words l.room) l.j l.last l.invariant.1 (2 * c.number-id.result + a.side) j (next (goal.at.loop-j-preserved c).After-number-id) (words o.new.room) o.result o.ensures,
      o.auto.room ∙ l.invariant.2,
    )

pub returns : goal.returns
returns c =
    let a = c.args in
    let l = c.loop-j in
    let W = words a.room.now in
    walk_done W a.n a.end (form_list (source a.s.now a.r) a.start a.count a.side) (words l.room) l.j l.last l.invariant.1
    (omega (arith, formed_length (source a.s.now a.r) a.start a.count a.side))
