-- `reasons::raise_ends` meets its contract.
-- Assumes nothing.
use mathlib.Core.Path.{◌≡◌, refl, ◌∙◌, subst}
use Prim.Native.Nat.{ℕ}
use native.Mathlib.Omega.{arith}
use Rattle.le.specs.Le.{words}
use Rattle.removal.specs.Room.{Went}
use Rattle.reasons.proofs.Ends.{raised_by, raises_start, raises_turn}
use Rattle.reasons.proofs.raise_ends.Goals as goal

pub loop-x-init : goal.loop-x-init
loop-x-init c = let a = c.args in (omega arith, raises_start (words a.room.now) a.n, refl)

pub raise-requires : goal.raise-requires
raise-requires c = omega (arith, c.loop-x.invariant.2)

pub loop-x-preserved : goal.loop-x-preserved
loop-x-preserved c =
    let a = c.args in
    let l = c.loop-x in
    let o = c.raise in
    (omega arith, raises_turn (words a.room.now) (words l.room) (words o.new.room) a.n l.x (omega arith) (omega arith) l.invariant.1 o.ensures, o.auto.room ∙ l.invariant.2)

pub returns : goal.returns
returns c =
    let a = c.args in
    let l = c.loop-x in
    let e : l.x ≡ a.n = omega arith in
    subst (λ (k : ℕ). Went (words a.room.now) (words l.room) a.n 0 (raised_by (words a.room.now) a.n k)) e l.invariant.1
