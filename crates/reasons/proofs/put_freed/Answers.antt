-- `reasons::put_freed` meets its contract.
-- Assumes nothing.
use mathlib.Core.Path.{◌≡◌, refl, sym, ◌∙◌}
use Prim.Native.Nat.{◌+◌, ◌<◌}
use native.Mathlib.Omega.{arith}
use lib.ListN.{length}
use Rattle.le.specs.Le.{words}
use Rattle.le.proofs.Places.{length_words}
use Rattle.tables.specs.Tables.{waiting_at}
use Rattle.removal.specs.Room.{part}
use Rattle.removal.proofs.Tables.{part_length, part_at}
use Rattle.reasons.specs.Told.{meant}
use Rattle.reasons.proofs.Entries.{freed_none, freed_more, freed_done}
use Rattle.reasons.proofs.put_freed.Goals as goal
use Rattle.reasons.proofs.put_freed.Goals.{Start}

-- as many as were asked for
many : (c : Start) → length (part (words c.args.room.now) (waiting_at + c.args.from) c.args.count) ≡ c.args.count
many c = part_length (words c.args.room.now) (waiting_at + c.args.from) c.args.count (omega (arith, length_words c.args.room.now))

pub loop-j-init : goal.loop-j-init
loop-j-init c = let a = c.args in (omega arith, freed_none a.nodes (meant a.why) (part (words a.room.now) (waiting_at + a.from) a.count) a.out.now, refl)

pub put_half-requires : goal.put_half-requires
put_half-requires c = omega (arith, c.loop-j.invariant.2)

pub loop-j-preserved : goal.loop-j-preserved
loop-j-preserved c =
    let a = c.args in
    let l = c.loop-j in
    let w = c.word-y in
    let o = c.put_half in
    let ys = part (words a.room.now) (waiting_at + a.from) a.count in
    let j : l.j < a.count = omega arith in (
      omega arith,
      freed_more a.nodes (meant a.why) ys a.out.now l.out o.new.out l.j w.result (omega (arith, many (goal.at.loop-j-preserved c).Start)) l.invariant.1 (w.ensures ∙ sym (part_at (words a.room.now) (waiting_at + a.from) a.count l.j j)) o.ensures,
      o.auto.out ∙ l.invariant.2,
    )

pub returns : goal.returns
returns c =
    let a = c.args in
    let l = c.loop-j in
    freed_done a.nodes (meant a.why) (part (words a.room.now) (waiting_at + a.from) a.count) a.out.now l.out l.j (omega (arith, many (goal.at.returns c).Start)) l.invariant.1
