-- `queue::sift_up` meets its contract.
-- Assumes nothing.
use mathlib.Core.List.{List}
use mathlib.Core.Path.{◌≡◌, refl, sym, ap, ◌∙◌, subst}
use Prim.Native.Nat.{ℕ, ◌-◌, ◌/◌}
use native.Mathlib.Omega.{arith}
use Rattle.le.specs.Le.{words}
use Rattle.le.proofs.Places.{in_words}
use Rattle.queue.specs.Places.{key_at, placed}
use Rattle.queue.proofs.Stored.{RisingIn, rising_start, rising_turn, rising_stop}
use Rattle.queue.proofs.sift_up.Goals as goal

pub loop-gap-init : goal.loop-gap-init
loop-gap-init c =
    let a = c.args in
    (rising_start (words a.room.now) a.base a.n a.k (in_words c.args.room.now _ c.requires.n_in_bounds) c.requires.heap, refl)

pub returns-then-k-p : goal.returns-then-k-p
returns-then-k-p c =
    let a = c.args in
    let l = c.loop-gap in
    rising_stop (words a.room.now) a.base a.n a.k (in_words c.args.room.now _ c.requires.n_in_bounds) (words l.room) l.gap l.invariant.0 (λ p. omega (arith, c.key_at-p.ensures))

pub loop-gap-preserved : goal.loop-gap-preserved
loop-gap-preserved c =
    let a = c.args in
    let l = c.loop-gap in
    let k = c.key_at-p in
    let w = c.put_key in
    let W = words a.room.now in
    let X = words l.room in
    let is : words w.new.room ≡ placed X a.base l.gap (key_at X a.base ((l.gap - 1) / 2)) = w.ensures ∙ ap (placed X a.base l.gap) k.ensures in (
      subst (λ (Y : List ℕ). RisingIn W Y a.base a.n a.k ((l.gap - 1) / 2)) (sym is)
          (rising_turn W a.base a.n a.k (in_words c.args.room.now _ c.requires.n_in_bounds) X l.gap l.invariant.0 (omega arith) (omega (arith, k.ensures))),
      w.auto.room ∙ l.invariant.1,
    )
