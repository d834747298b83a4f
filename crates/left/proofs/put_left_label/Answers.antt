-- `left::put_left_label` meets its contract.
-- Assumes nothing.
use mathlib.Core.List.{◌∷◌, []}
use mathlib.Core.Path.{refl, ap, ◌∙◌}
use Prim.Native.Nat.{ℕ, ◌+◌}
use Rattle.le.specs.Rows.{Holds, puts}
use Rattle.write.proofs.Results.{put_none}
use Rattle.gone.proofs.Marks.{stays, goes}
use Rattle.left.proofs.put_left_label.Goals as goal
use Rattle.left.proofs.put_left_label.Goals.{After-number}

-- the id stays, and there is room for its label
fits : (c : After-number) → Holds c.args.out.now c.args.to (c.args.j + 1)
fits c = rw (stays c.args.room.now c.requires.0 c.args.id c.requires.1 c.if-room-id-ne0.false) at c.requires.4

pub returns-then-room-id-ne0 : goal.returns-then-room-id-ne0
returns-then-room-id-ne0 c =
    let a = c.args in
    λ n l. rw (goes a.room.now n a.id l c.if-room-id-ne0.true) put_none

pub returns : goal.returns
returns c =
    let a = c.args in
    λ n l. rw (stays a.room.now n a.id l c.if-room-id-ne0.false)
    (record { stored = c.put_number.ensures ∙ ap (λ (v : ℕ). puts a.out.now a.to a.j (v ∷ [])) c.number.ensures.0; next = refl })

pub put_number-requires : goal.put_number-requires
put_number-requires c = (fits (goal.at.put_number-requires c).After-number, c.number.ensures.1)
