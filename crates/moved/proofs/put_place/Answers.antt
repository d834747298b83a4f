-- `moved::put_place` meets its contract.
-- Assumes nothing.
use mathlib.Core.Bool.{Bool, cond}
use mathlib.Core.List.{◌∷◌, []}
use mathlib.Core.Path.{sym, ap, ◌∙◌}
use Prim.Native.Nat.{ℕ, ◌-◌, ◌^◌}
use Rattle.le.specs.Rows.{puts}
use Rattle.le.proofs.Rows.{wide_low}
use Rattle.gone.proofs.Marks.{stays, goes}
use native.Mathlib.Omega.{arith}
use Rattle.moved.proofs.put_place.Goals as goal

pub put_number-requires : goal.put_number-requires
put_number-requires c = (c.requires.1, omega (arith, c.highest.ensures, wide_low c.requires.1.wide))

pub returns-then-room-id-ne0 : goal.returns-then-room-id-ne0
returns-then-room-id-ne0 c =
    let a = c.args in
    λ n l.
    let m = goes a.room.now n a.id l c.if-room-id-ne0.true in (
      c.put_number.ensures ∙ (λ i. puts a.map.now a.r a.id (c.highest.ensures i ∷ []))
          ∙ ap (λ (t : Bool). puts a.map.now a.r a.id (cond t (256 ^ a.r.width - 1) a.next ∷ [])) (sym m),
      omega (arith, ap (λ (t : Bool). cond {A = ℕ} t 0 1) m),
    )

pub returns : goal.returns
returns c =
    let a = c.args in
    λ n l.
    let m = stays a.room.now n a.id l c.if-room-id-ne0.false in (
      c.put_number-2.ensures ∙ ap (λ (t : Bool). puts a.map.now a.r a.id (cond t (256 ^ a.r.width - 1) a.next ∷ [])) (sym m),
      omega (arith, ap (λ (t : Bool). cond {A = ℕ} t 0 1) m),
    )
