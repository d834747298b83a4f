-- `quotient::put_class_label` meets its contract.
-- Assumes nothing.
use mathlib.Core.List.{◌∷◌, []}
use mathlib.Core.Path.{refl, sym, ap, ◌∙◌}
use Prim.Native.Nat.{ℕ, ◌+◌}
use borrow.Author.Tests.{eq-eqb, ne_eqb}
use Rattle.le.specs.Rows.{Holds, puts}
use Rattle.le.proofs.Rows.{holds_index}
use Rattle.write.proofs.Results.{put_none}
use native.Mathlib.Omega.{arith}
use Rattle.quotient.proofs.put_class_label.Goals as goal
use Rattle.quotient.proofs.put_class_label.Goals.{Else-class-j}

-- the class is the next one, and there is room for its label
fits : (c : Else-class-j) → Holds c.args.out.now c.args.to (c.args.j + 1)
fits c = rw (eq-eqb _ _ (sym c.word-class.ensures ∙ c.if-class-j.false)) at c.requires.2

pub returns-then-class-j : goal.returns-then-class-j
returns-then-class-j c = rw (ne_eqb _ _ (λ q. c.if-class-j.true (c.word-class.ensures ∙ q))) put_none

pub overflow_add-result : goal.overflow_add-result
overflow_add-result c = omega (arith, holds_index (fits (goal.at.overflow_add-result c).Else-class-j))

pub returns : goal.returns
returns c =
    let a = c.args in
    rw (eq-eqb _ _ (sym c.word-class.ensures ∙ c.if-class-j.false))
    (record { stored = c.put_number.ensures ∙ ap (λ (v : ℕ). puts a.out.now a.to a.j (v ∷ [])) c.number.ensures.0; next = refl })

pub put_number-requires : goal.put_number-requires
put_number-requires c = (fits (goal.at.put_number-requires c).Else-class-j, c.number.ensures.1)
