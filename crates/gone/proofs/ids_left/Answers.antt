-- `gone::ids_left` meets its contract.
-- Assumes nothing.
use mathlib.Core.Bool.{cond}
use mathlib.Core.Path.{refl, sym, ap, ◌∙◌}
use Prim.Native.Nat.{ℕ}
use native.Mathlib.Nat.{le_antisymm}
use lib.ListN.{length}
use Rattle.gone.specs.Marks.{marked}
use Rattle.graph.specs.Delete.{renamed}
use Rattle.le.specs.Rows.{span}
use Rattle.write.proofs.Grows.{entry_below, count_more}
use Rattle.gone.proofs.Grows.{one_stays, ids_grow}
use native.Mathlib.Omega.{arith}
use Rattle.gone.proofs.ids_left.Goals as goal

pub loop-i-init : goal.loop-i-init
unfolding span
loop-i-init c = (omega arith, omega arith, λ m h. refl)

pub if_stays-stay-requires : goal.if_stays-stay-requires
if_stays-stay-requires c =
    entry_below _ c.args.src.now c.args.r c.args.k c.args.n c.requires.1 c.loop-i.i c.number-id.result (omega arith) c.number-id.ensures.0

pub loop-i-preserved : goal.loop-i-preserved
loop-i-preserved c =
    let a = c.args in
    let l = c.loop-i in
    let b = a.src.now in
    let v = c.number-id in (
      omega arith,
      omega arith,
      λ m h.
          let goes = marked a.room.now m in
          let less = entry_below m b a.r a.k a.n h l.i v.result (omega arith) v.ensures.0 in
          let one = c.if_stays-stay.ensures.1 m less ∙ ap (λ (id : ℕ). cond (goes id) 0 1) v.ensures.0 ∙ sym (one_stays goes _) in
          omega (arith, l.invariant.2 m h, one, count_more (ids_grow goes b a.r a.k a.n) l.i (omega arith)),
    )

pub returns : goal.returns
returns c =
    let a = c.args in
    let l = c.loop-i in
    let e = le_antisymm l.invariant.0 c.loop-i-test.false in
    (omega arith, λ m h. l.invariant.2 m h ∙ ap (λ (i : ℕ). length (renamed (marked a.room.now m) (span a.src.now a.r a.k i))) e)
