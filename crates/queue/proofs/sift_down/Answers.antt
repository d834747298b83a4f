-- `queue::sift_down` meets its contract.
-- Assumes nothing.
use mathlib.Core.List.{List}
use mathlib.Core.Path.{◌≡◌, refl, sym, ap, ◌∙◌, subst}
use Prim.Native.Nat.{ℕ}
use native.Mathlib.Omega.{arith}
use Rattle.le.specs.Le.{words}
use Rattle.le.proofs.Places.{in_words}
use Rattle.queue.specs.Places.{key_at, placed}
use Rattle.queue.proofs.Stored.{SinkingIn, sinking_start, sinking_gap, sinking_turn, sinking_stop}
use Rattle.queue.proofs.sift_down.Goals as goal

pub loop-gap-init : goal.loop-gap-init
loop-gap-init c =
    let a = c.args in
    (sinking_start (words a.room.now) a.base a.n a.k (in_words c.args.room.now _ c.requires.n_nonzero.1) (omega arith) c.requires.heap, refl)

pub overflow_mul-gap : goal.overflow_mul-gap
overflow_mul-gap c =
    omega (arith, sinking_gap (words c.args.room.now) c.args.base c.args.n c.args.k (in_words c.args.room.now _ c.requires.n_nonzero.1) (words c.loop-gap.room) c.loop-gap.gap c.loop-gap.invariant.0)

pub overflow_add-gap : goal.overflow_add-gap
overflow_add-gap c =
    omega (arith, sinking_gap (words c.args.room.now) c.args.base c.args.n c.args.k (in_words c.args.room.now _ c.requires.n_nonzero.1) (words c.loop-gap.room) c.loop-gap.gap c.loop-gap.invariant.0)

pub returns-then-child-k : goal.returns-then-child-k
returns-then-child-k c =
    let a = c.args in
    let l = c.loop-gap in
    let o = c.larger_below-child in
    sinking_stop (words a.room.now) a.base a.n a.k (in_words c.args.room.now _ c.requires.n_nonzero.1) (words l.room) l.gap l.invariant.0 o.result.index o.ensures.0 (omega (arith, o.ensures.1))

pub loop-gap-preserved : goal.loop-gap-preserved
loop-gap-preserved c =
    let a = c.args in
    let l = c.loop-gap in
    let o = c.larger_below-child in
    let w = c.put_key in
    let W = words a.room.now in
    let X = words l.room in
    let is : words w.new.room ≡ placed X a.base l.gap (key_at X a.base o.result.index) = w.ensures ∙ ap (placed X a.base l.gap) o.ensures.1 in (
      subst (λ (Y : List ℕ). SinkingIn W Y a.base a.n a.k o.result.index) (sym is)
          (sinking_turn W a.base a.n a.k (in_words c.args.room.now _ c.requires.n_nonzero.1) X l.gap l.invariant.0 o.result.index o.ensures.0 (omega (arith, o.ensures.1))),
      w.auto.room ∙ l.invariant.1,
    )
