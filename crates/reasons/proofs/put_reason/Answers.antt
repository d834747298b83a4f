-- `reasons::put_reason` meets its contract.
-- Assumes nothing.
use mathlib.Core.Path.{◌≡◌, refl, ap, ◌∙◌}
use mathlib.Core.List.{List, [], ◌∷◌}
use Prim.Native.Nat.{ℕ, ◌+◌, ◌*◌}
use lib.ListN.{get_or}
use lib.Seq.{sets}
use Rattle.le.specs.Le.{bytes}
use Rattle.choice.specs.Reasons.{Reason, picked, not_led_to, leads_to_none, numbers_of}
use Rattle.reasons.specs.Told.{meant, entered}
use Rattle.reasons.proofs.Entries.{entered_four}
use Rattle.reasons.proofs.put_reason.Goals as goal

abbrev first_four : List ℕ → List ℕ
first_four ns = get_or ns 0 0 ∷ get_or ns 1 0 ∷ get_or ns 2 0 ∷ get_or ns 3 0 ∷ []

all_four : (why : Reason) → first_four (numbers_of why) ≡ numbers_of why
all_four (picked stage ins outs) = refl
all_four (not_led_to stage) = refl
all_four (leads_to_none stage) = refl

pub returns : goal.returns
returns c =
    let a = c.args in
    let ns = c.numbers-numbers.result in
    c.put4-4.ensures
    ∙ ap (λ (o : List ℕ). sets o (16 * a.v + 12) (bytes 4 (get_or ns 3 0)))
    (c.put4-3.ensures
    ∙ ap (λ (o : List ℕ). sets o (16 * a.v + 8) (bytes 4 (get_or ns 2 0)))
    (c.put4-2.ensures
    ∙ ap (λ (o : List ℕ). sets o (16 * a.v + 4) (bytes 4 (get_or ns 1 0))) c.put4.ensures))
    ∙ entered_four a.out.now a.v (get_or ns 0 0) (get_or ns 1 0) (get_or ns 2 0) (get_or ns 3 0)
    ∙ ap (λ (l : List ℕ). entered a.out.now a.v (first_four l)) c.numbers-numbers.ensures ∙ ap (entered a.out.now a.v) (all_four (meant a.why))
