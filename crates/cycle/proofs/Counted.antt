-- Where no node is kept the choice answers, and its nodes are the vertices that don't go freely.
-- Assumes nothing.
use mathlib.Core.List.{List, []}
use mathlib.Core.Path.{◌≡◌, ap, ◌∙◌}
use Prim.Native.Nat.{ℕ, ◌+◌}
use native.Mathlib.Omega.{arith}
use lib.ListN.{length}
use Rattle.choice.specs.Choice.{Chosen}
use Rattle.choice.specs.Drawing.{chosen}
use Rattle.choice.proofs.Graphs.{chosen_and_free_are_all}
use Rattle.choice.proofs.Kept.{keeping_none}
use Rattle.cycle.specs.Begin.{ChosenIn}
use Rattle.form.specs.Form.{telling}
use Rattle.form.specs.declared.Refusal.{Refusal}
use Rattle.std.specs.Prelude.{Ok, Err}
use Rattle.graph.proofs.Steps.{never, same_answer}
use Rattle.graph.specs.Graph.{Graph}
use Rattle.cycle.proofs.Begin.{Drawn}

module _ {g : Graph} {nodes n : ℕ} (d : Drawn g nodes n) {X : List ℕ} where
  pub none_kept_answers : {x : Refusal} → ChosenIn [] g X nodes (Err x) → ⊥
  none_kept_answers is = never (is.is ∙ ap (telling (λ (c : Chosen). c.free)) (keeping_none g d.proper))

  pub chosen_counted : {free : ℕ} → ChosenIn [] g X nodes (Ok free) → length (chosen g).ids + free ≡ n
  chosen_counted {free} is =
      let same : free ≡ (chosen g).free = same_answer (is.is ∙ ap (telling (λ (c : Chosen). c.free)) (keeping_none g d.proper)) in
      omega (arith, chosen_and_free_are_all g d.proper, d.n_is, same)
