-- `once_fed::mark` meets its contract.
-- Assumes nothing.
use mathlib.Core.Logic.{⊎_elim}
use mathlib.Core.Path.{◌≡◌, refl, ap, subst}
use Prim.Native.Nat.{ℕ, ◌+◌, ◌/◌, ◌%◌, ◌<◌}
use native.Mathlib.Omega.{arith}
use lib.ListN.{get_or, set}
use borrow.Author.Tests.{eq-eqb, ne_eqb}
use Rattle.once_fed.proofs.Marked.{IsWay, is_way}
use Rattle.once_fed.proofs.mark.Goals as goal
use Rattle.once_fed.proofs.mark.Goals.{After-byte-way}

-- what is added
is : (c : After-byte-way) → IsWay c.byte-way.result
is c = rw c.byte-way.ensures (is_way c.args.way)

pub returns : goal.returns
returns c =
    let a = c.args in record {
      value = rw (← c.byte-way.ensures, ne_eqb _ _ c.if-marks-way-eq1.false);
      room_after = ap (λ (k : ℕ). set a.room.now a.id (get_or a.room.now a.id 0 + k)) c.byte-way.ensures;
    }

pub nonzero_div-marks : goal.nonzero_div-marks
nonzero_div-marks c =
    let w = c.byte-way.result in
    ⊎_elim (λ (e : w ≡ 1). omega arith) (λ (e : w ≡ 2). omega arith) (is (goal.at.nonzero_div-marks c).After-byte-way)

pub returns-then-marks-way-eq1 : goal.returns-then-marks-way-eq1
returns-then-marks-way-eq1 c = record { value = rw (← c.byte-way.ensures, eq-eqb _ _ c.if-marks-way-eq1.true); room_after = refl }

pub overflow_add-room : goal.overflow_add-room
overflow_add-room c =
    let m = get_or c.args.room.now c.args.id 0 in
    let w = c.byte-way.result in
    let b : m < 256 = omega arith in
    let f : m / w % 2 ≡ 1 → ⊥ = c.if-marks-way-eq1.false in
    ⊎_elim
    (λ (e : w ≡ 1). let h : m / 1 % 2 ≡ 1 → ⊥ = subst (λ (k : ℕ). m / k % 2 ≡ 1 → ⊥) e f in omega arith)
    (λ (e : w ≡ 2). let h : m / 2 % 2 ≡ 1 → ⊥ = subst (λ (k : ℕ). m / k % 2 ≡ 1 → ⊥) e f in omega arith)
    (is (goal.at.overflow_add-room c).After-byte-way)
