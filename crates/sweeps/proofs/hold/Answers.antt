-- `sweeps::hold` meets its contract.
-- Assumes nothing.
use Prim.Native.Nat.{◌+◌, ◌*◌}
use Rattle.marks.proofs.Tables.{alike_set}
use Rattle.sweeps.proofs.hold.Goals as goal

pub returns : goal.returns
returns c =
    let a = c.args in
    alike_set a.room.now a.i (c.seek-s.result + 16 * c.seek-t.result)
