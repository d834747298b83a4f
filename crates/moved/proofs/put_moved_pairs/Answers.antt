-- `moved::put_moved_pairs` meets its contract.
-- Assumes nothing.
use Prim.Native.Nat.{ℕ, ◌*◌}
use native.Mathlib.Nat.{le_antisymm}
use native.Mathlib.Omega.{arith}
use mathlib.Core.Path.{subst}
use Rattle.moved.specs.Places.{gone_in}
use Rattle.form.specs.Form.{body_of}
use Rattle.graph.specs.Delete.{renamed_pairs}
use Rattle.graph.specs.Lists.{paired, flat}
use Rattle.le.specs.Rows.{span}
use Rattle.write.specs.Write.{Put}
use Rattle.le.proofs.Rows.{holds_less}
use Rattle.write.proofs.Results.{put_none}
use Rattle.write.proofs.Grows.{part_below, put_fits, put_more}
use Rattle.gone.proofs.Grows.{flat_grow}
use Rattle.moved.proofs.put_moved_pairs.Goals as goal

pub loop-i-init : goal.loop-i-init
unfolding span
loop-i-init c = put_none

pub put_moved_pair-j-requires : goal.put_moved_pair-j-requires
put_moved_pair-j-requires c =
    let a = c.args in
    let l = c.loop-i in
    let d = a.by.drawing in (
      holds_less c.requires.0 _ (omega arith),
      part_below d.sizes.nodes d.src.now (body_of d.sizes) a.k (2 * a.n) c.requires.1 (2 * l.i) 2 (omega arith),
      put_fits (flat_grow (gone_in d.sizes a.by.map.now) d.src.now (body_of d.sizes) a.k a.n) (omega arith) l.invariant c.requires.2,
    )

pub loop-i-preserved : goal.loop-i-preserved
loop-i-preserved c =
    let a = c.args in
    let d = a.by.drawing in
    put_more (flat_grow (gone_in d.sizes a.by.map.now) d.src.now (body_of d.sizes) a.k a.n) (omega arith) c.loop-i.invariant c.put_moved_pair-j.ensures

pub returns : goal.returns
returns c =
    let a = c.args in
    let l = c.loop-i in
    let d = a.by.drawing in
    subst (λ (i : ℕ). Put a.out.now a.to a.first (flat (renamed_pairs (gone_in d.sizes a.by.map.now) (paired (span d.src.now (body_of d.sizes) a.k (2 * i))))) l.out l.j)
    (le_antisymm l.auto.i-end c.loop-i-test.false) l.invariant
