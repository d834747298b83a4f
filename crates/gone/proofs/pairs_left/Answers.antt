-- `gone::pairs_left` meets its contract.
-- Assumes nothing.
use mathlib.Core.Path.{refl, ap, ◌∙◌}
use Prim.Native.Nat.{ℕ, ◌*◌}
use native.Mathlib.Nat.{le_antisymm}
use lib.ListN.{length}
use Rattle.gone.specs.Marks.{marked}
use Rattle.graph.specs.Delete.{renamed_pairs}
use Rattle.graph.specs.Lists.{paired}
use Rattle.le.specs.Rows.{span}
use Rattle.le.proofs.Rows.{holds_less}
use Rattle.write.proofs.Grows.{part_below, count_more}
use Rattle.gone.proofs.Grows.{pairs_grow}
use native.Mathlib.Omega.{arith}
use Rattle.gone.proofs.pairs_left.Goals as goal

pub loop-i-init : goal.loop-i-init
unfolding span
loop-i-init c = (omega arith, omega arith, λ m h. refl)

pub pair_left-stay-requires : goal.pair_left-stay-requires
pair_left-stay-requires c =
    let a = c.args in
    (holds_less c.requires.0 _ (omega arith), part_below _ a.src.now a.r a.k (2 * a.n) c.requires.1 (2 * c.loop-i.i) 2 (omega arith))

pub loop-i-preserved : goal.loop-i-preserved
loop-i-preserved c =
    let a = c.args in
    let l = c.loop-i in
    let b = a.src.now in (
      omega arith,
      omega arith,
      λ m h.
          let one = c.pair_left-stay.ensures.1 m (part_below m b a.r a.k (2 * a.n) h (2 * l.i) 2 (omega arith)) in
          omega (arith, l.invariant.2 m h, one, count_more (pairs_grow (marked a.room.now m) b a.r a.k a.n) l.i (omega arith)),
    )

pub returns : goal.returns
returns c =
    let a = c.args in
    let l = c.loop-i in
    let e = le_antisymm l.invariant.0 c.loop-i-test.false in
    λ m h. l.invariant.2 m h ∙ ap (λ (i : ℕ). length (renamed_pairs (marked a.room.now m) (paired (span a.src.now a.r a.k (2 * i))))) e
