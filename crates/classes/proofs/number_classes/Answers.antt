-- `classes::number_classes` meets its contract.
-- Assumes nothing.
use mathlib.Core.Path.{refl, ◌∙◌, subst}
use Prim.Native.Nat.{ℕ, ◌<◌}
use native.Mathlib.Nat.{le_antisymm}
use native.Mathlib.Omega.{arith}
use Rattle.le.specs.Le.{words}
use Rattle.classes.specs.Forest.{Counted}
use Rattle.classes.proofs.Numbering.{count_start, count_low, count_turn, count_done}
use Rattle.classes.proofs.Trees.{words_fit}
use Rattle.classes.proofs.number_classes.Goals as goal

pub loop-k-init : goal.loop-k-init
loop-k-init c = let a = c.args in (omega arith, count_start a.n (words a.room.now), refl)

pub number_one-count-requires : goal.number_one-count-requires
number_one-count-requires c =
    let a = c.args in
    let l = c.loop-k in
    let h : l.k < a.n = omega arith in (
      omega arith,
      c.requires.n_in_bounds.1,
      h,
      l.invariant.1.few,
      count_low a.n (words a.room.now) (words l.room) l.k l.count l.invariant.1 (words_fit l.room _ a.n l.invariant.2 c.requires.n_in_bounds.0) h c.requires.falls,
    )

pub loop-k-preserved : goal.loop-k-preserved
loop-k-preserved c =
    let a = c.args in
    let l = c.loop-k in
    let o = c.number_one-count in
    let h : l.k < a.n = omega arith in (
      omega arith,
      count_turn a.n (words a.room.now) (words l.room) l.k l.count l.invariant.1 (words_fit l.room _ a.n l.invariant.2 c.requires.n_in_bounds.0) h
          (words o.new.room) o.result o.ensures.0 o.ensures.1,
      o.auto.room ∙ l.invariant.2,
    )

pub returns : goal.returns
returns c =
    let a = c.args in
    let l = c.loop-k in
    let e = le_antisymm l.invariant.0 c.loop-k-test.false in
    count_done a.n (words a.room.now) (words l.room) l.count (subst (λ (k : ℕ). Counted a.n (words a.room.now) (words l.room) k l.count) e l.invariant.1)
