-- `reasons::lower_ends` meets its contract.
-- Assumes nothing.
use mathlib.Core.Path.{◌≡◌, refl, ◌∙◌, subst}
use Prim.Native.Nat.{ℕ}
use native.Mathlib.Omega.{arith}
use Rattle.le.specs.Le.{words}
use Rattle.halves.specs.Halves.{lower_all}
use Rattle.removal.specs.Room.{halves_in, Went}
use Rattle.reasons.specs.Told.{ends_in}
use Rattle.reasons.proofs.Ends.{ends_start, ends_roomy, ends_turn}
use Rattle.reasons.proofs.lower_ends.Goals as goal

pub loop-x-init : goal.loop-x-init
loop-x-init c = let a = c.args in (omega arith, ends_start (words a.room.now) (words a.room.now) a.n a.end (omega arith) (omega arith), refl)

pub lower_end-last-requires : goal.lower_end-last-requires
lower_end-last-requires c =
    let a = c.args in
    let l = c.loop-x in
    record { x_lt_n = (omega arith, omega arith, l.invariant.1.few, omega (arith, l.invariant.2)); roomy = ends_roomy (words a.room.now) (words l.room) a.n a.end (omega arith) l.x l.last (omega arith) c.requires.roomy l.invariant.1 }

pub loop-x-preserved : goal.loop-x-preserved
loop-x-preserved c =
    let a = c.args in
    let l = c.loop-x in
    let o = c.lower_end-last in
    (omega arith, ends_turn (words a.room.now) (words l.room) a.n a.end (omega arith) (words o.new.room) l.x l.last o.result (omega arith) l.invariant.1 o.ensures, o.auto.room ∙ l.invariant.2)

pub returns : goal.returns
returns c =
    let a = c.args in
    let l = c.loop-x in
    let e : l.x ≡ a.n = omega arith in
    subst (λ (k : ℕ). Went (words a.room.now) (words l.room) a.n l.last (lower_all (ends_in (words a.room.now) k) (halves_in (words a.room.now) a.n a.end))) e l.invariant.1
