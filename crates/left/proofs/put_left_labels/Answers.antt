-- `left::put_left_labels` meets its contract.
-- Assumes nothing.
use Prim.Native.Nat.{◌+◌, ◌<◌}
use native.Mathlib.Nat.{le_antisymm}
use lib.ListN.{length}
use Rattle.gone.specs.Marks.{marked}
use Rattle.graph.specs.Delete.{remaining}
use Rattle.le.specs.Rows.{Holds, span}
use Rattle.write.specs.Write.{Put}
use Rattle.le.proofs.Rows.{holds_less, holds_index}
use Rattle.write.proofs.Results.{put_none}
use Rattle.write.proofs.Grows.{labels_grow, put_fits, put_more}
use native.Mathlib.Omega.{arith}
use Rattle.left.proofs.put_left_labels.Goals as goal

pub loop-i-init : goal.loop-i-init
unfolding span
loop-i-init c = (omega arith, put_none)

pub overflow_add-k : goal.overflow_add-k
overflow_add-k c = omega (arith, holds_index c.requires.3)

pub put_left_label-j-requires : goal.put_left_label-j-requires
put_left_label-j-requires c =
    let a = c.args in
    let l = c.loop-i in
    let from = c.label_row-from.ensures in
    let to = c.label_row-to.ensures in
    let goes = marked a.room.now a.n in
    let less : l.i < a.n = omega arith in (
      a.n,
      less,
      omega arith,
      coe 1 0 (t. Holds a.src.now (from t) (a.k + l.i + 1)) (holds_less c.requires.3 _ (omega arith)),
      put_fits (labels_grow goes a.src.now _ a.k a.n) less l.invariant.1
          (coe 1 0 (t. Holds a.out.now (to t) (a.first + length (remaining goes 0 (span a.src.now (from t) a.k a.n)))) c.requires.4),
    )

pub loop-i-preserved : goal.loop-i-preserved
loop-i-preserved c =
    let a = c.args in
    let l = c.loop-i in
    let less : l.i < a.n = omega arith in
    (omega arith, put_more (labels_grow (marked a.room.now a.n) a.src.now _ a.k a.n) less l.invariant.1 (c.put_left_label-j.ensures a.n less))

pub returns : goal.returns
returns c =
    let a = c.args in
    let l = c.loop-i in
    let all = le_antisymm l.invariant.0 c.loop-i-test.false in
    coe 0 1 (t. Put a.out.now (c.label_row-to.ensures t) a.first (remaining (marked a.room.now a.n) 0 (span a.src.now (c.label_row-from.ensures t) a.k (all t))) l.out l.j)
    l.invariant.1
