-- `gone::left` meets its contract.
-- Assumes nothing.
use mathlib.Core.Bool.{Bool, true, false, cond}
use mathlib.Core.List.{List}
use mathlib.Core.Path.{◌≡◌, refl, ap, ◌∙◌}
use mir.Val.{bool_byte}
use Prim.Native.Nat.{ℕ, ◌<◌, ◌≤◌}
use native.Mathlib.Omega.{arith}
use borrow.Author.Tests.{eqb-true, eqb-false}
use lib.Dec.{eqb}
use lib.ListN.{get_or}
use lib.Seq.{get_or-take, length-take-le}
use Rattle.gone.specs.Marks.{marked}
use Rattle.gone.proofs.Grows.{new_id_more}
use Rattle.gone.proofs.Marks.{stays, goes}
use Rattle.gone.proofs.left.Goals as goal

-- what is counted of one id
counted : (room : List ℕ) (n i : ℕ) → i < n → (b : Bool) → eqb (get_or room i 0) 0 ≡ b → bool_byte b ≡ cond (marked room n i) 0 1
counted room n i less true e = rw (stays room n i less (eqb-true (get_or room i 0) 0 e)) refl
counted room n i less false e = rw (goes room n i less (eqb-false (get_or room i 0) 0 e)) refl

at_most_one : (b : Bool) → cond b 0 1 ≤ 1
at_most_one true = omega arith
at_most_one false = omega arith

pub loop-mark-preserved : goal.loop-mark-preserved
loop-mark-preserved c =
    let a = c.args in
    let l = c.loop-mark in
    let i = l.mark-index in
    let less : i < a.n = omega (arith, c.loop-mark-test.true, length-take-le a.n a.room.now c.requires) in
    let one : c.from-stay.result ≡ cond (marked a.room.now a.n i) 0 1 =
    c.from-stay.ensures ∙ ap (λ (m : ℕ). bool_byte (eqb m 0)) (get_or-take a.n a.room.now i 0 less) ∙ counted a.room.now a.n i less (eqb (get_or a.room.now i 0) 0) refl in
    let few = at_most_one (marked a.room.now a.n i) in
    (omega (arith, l.invariant.0, one, few), omega (arith, l.invariant.1, one, new_id_more (marked a.room.now a.n) i))
