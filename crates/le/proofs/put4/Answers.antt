-- `le::put4` meets its contract.
-- Assumes nothing.
use mathlib.Core.Path.{ap, ◌∙◌}
use Prim.Native.Nat.{◌+◌, ◌-◌}
use native.Mathlib.Omega.{arith}
use borrow.Rule.Slice.PartMut.{put_mid}
use Rattle.le.specs.Le.{bytes}
use Rattle.le.proofs.Numbers.{four_bytes, length_bytes}
use Rattle.le.proofs.Stores.{put_part}
use Rattle.le.proofs.put4.Goals as goal

pub returns : goal.returns
returns c = let a = c.args in
    let k = a.at + 4 - a.at in
    ap (put_mid a.at k a.d.now) (c.copy_from_slice.ensures.after ∙ c.to_le_bytes.ensures ∙ four_bytes a.v)
    ∙ put_part a.d.now a.at k (bytes 4 a.v) (omega arith) (omega (arith, length_bytes 4 a.v))
