-- The flagged nodes as an ascending list, and its row.
-- Assumes nothing.
use mathlib.Core.List.{List}
use mathlib.Core.Path.{◌≡◌, sym, ap, ◌∙◌}
use Prim.Native.Nat.{ℕ, ◌+◌, ◌<◌}
use native.Mathlib.Omega.{arith}
use lib.ListN.{length, get_or}
use borrow.Author.Tests.{eqb-true, eq-eqb}
use Rattle.choice.specs.Arcs.{In}
use Rattle.choice.specs.Choice.{Ascends}
use Rattle.choice.specs.Passing.{shown, shown_below}
use Rattle.choice.proofs.Passing.{shown_are, shown_next}
use Rattle.cycle.specs.Begin.{is_flagged}
use Rattle.cycle.specs.Stage.{Flagged}
use Rattle.le.specs.Rows.{puts}
use Rattle.le.specs.declared.Row.{Row}
use Rattle.tables.specs.Tables.{picked_at}
use Rattle.le.proofs.Rows.{puts_append}

-- flags that are those of an ascending list of nodes give that list
pub flagged_are : (W : List ℕ) (nodes : ℕ) (ids : List ℕ) → Ascends ids → ((x : ℕ) → In x ids → x < nodes) → Flagged nodes W ids → shown_below (is_flagged W) nodes ≡ ids
flagged_are W nodes ids up low flags =
    shown_are (is_flagged W) nodes ids up low
    (λ x l. let f = flags x l in ((λ t. f.1 (eqb-true (get_or W (picked_at + x) 0) 1 t)), (λ i. eq-eqb (get_or W (picked_at + x) 0) 1 (f.0 i))))

-- one id more in the row
pub flagged_turn : (W list₀ list next : List ℕ) (r : Row) (v k : ℕ) → k ≡ length (shown_below (is_flagged W) v) → list ≡ puts list₀ r 0 (shown_below (is_flagged W) v)
    → next ≡ puts list r k (shown (is_flagged W) v) → next ≡ puts list₀ r 0 (shown_below (is_flagged W) (v + 1))
flagged_turn W list₀ list next r v k e l n =
    let p = is_flagged W in
    let place : k ≡ 0 + length (shown_below p v) = omega arith in
    n ∙ (λ i. puts (l i) r (place i) (shown p v)) ∙ puts_append list₀ r 0 (shown_below p v) (shown p v) ∙ ap (puts list₀ r 0) (sym (shown_next p v))
