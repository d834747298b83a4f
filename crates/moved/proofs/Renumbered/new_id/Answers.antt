-- `moved::Renumbered::new_id` meets its contract.
-- Assumes nothing.
use mathlib.Core.Bool.{false}
use mathlib.Core.Path.{◌≡◌, sym, ◌∙◌}
use native.Mathlib.Omega.{arith}
use native.Mathlib.Nat.{mul-le-mul_right}
use Rattle.moved.specs.Places.{gone_in}
use Rattle.form.proofs.Drawn.{stored_in}
use Rattle.form.proofs.Stored.{stored_rows}
use Rattle.moved.proofs.Places.{placed, unplaced}
use Rattle.moved.proofs.Renumbered.new_id.Goals as goal

pub number-place-requires : goal.number-place-requires
number-place-requires c = record { wide = (stored_rows (stored_in c.args.self.drawing)).low.width; inside = omega (arith, c.args.self.inside, mul-le-mul_right c.args.self.drawing.sizes.width c.requires) }

pub highest-requires : goal.highest-requires
highest-requires c = (stored_rows (stored_in c.args.self.drawing)).low.width

pub returns-then-place-highest : goal.returns-then-place-highest
returns-then-place-highest c =
    let a = c.args in
    unplaced a.self.drawing.sizes a.self.map.now a.id c.requires (sym c.number-place.ensures.0 ∙ c.if-place-highest.true ∙ c.highest.ensures)

pub returns-else-place-highest : goal.returns-else-place-highest
returns-else-place-highest c =
    let a = c.args in
    let stays : gone_in a.self.drawing.sizes a.self.map.now a.id ≡ false =
    placed a.self.drawing.sizes a.self.map.now a.id c.requires (λ e. c.if-place-highest.false (c.number-place.ensures.0 ∙ e ∙ sym c.highest.ensures)) in
    (stays, c.number-place.ensures.0 ∙ a.self.places a.id c.requires stays, c.number-place.ensures.1)
