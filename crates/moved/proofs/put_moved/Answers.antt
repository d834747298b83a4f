-- `moved::put_moved` meets its contract.
-- Assumes nothing.
use mathlib.Core.List.{◌∷◌, []}
use mathlib.Core.Path.{refl, ap, ◌∙◌}
use Prim.Native.Nat.{ℕ, ◌+◌}
use native.Mathlib.Omega.{arith}
use Rattle.le.specs.Rows.{Holds, puts}
use Rattle.le.proofs.Rows.{holds_index}
use Rattle.write.proofs.Results.{put_none}
use Rattle.gone.proofs.Grows.{gone, kept}
use Rattle.moved.proofs.put_moved.Goals as goal
use Rattle.moved.proofs.put_moved.Goals.{In-Some}

-- there is room for the id of a node that stays
fits : (c : In-Some) → Holds c.args.out.now c.args.to (c.args.j + 1)
fits c = rw (kept _ _ c.in-Some.ensures.0) at c.requires.1

pub returns-in-None : goal.returns-in-None
returns-in-None c = rw (gone _ c.args.id c.in-None.ensures) put_none

pub put_number-requires : goal.put_number-requires
put_number-requires c = (fits (goal.at.put_number-requires c).In-Some, c.in-Some.ensures.2)

pub overflow_add-result : goal.overflow_add-result
overflow_add-result c = omega (arith, holds_index (fits (goal.at.overflow_add-result c).In-Some))

pub returns-in-Some : goal.returns-in-Some
returns-in-Some c =
    let a = c.args in
    rw (kept _ _ c.in-Some.ensures.0) (record { stored = c.put_number.ensures ∙ ap (λ (v : ℕ). puts a.out.now a.to a.j (v ∷ [])) c.in-Some.ensures.1; next = refl })
