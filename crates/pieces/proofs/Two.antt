-- A step that looks at two things, one after the other: what it answers.
-- Assumes nothing.
use mathlib.Core.Path.{◌≡◌, ◌∙◌}
use Rattle.graph.specs.Answer as answer
use Rattle.graph.specs.Answer.{Answer, refused, answered, ◌>>=◌}
use Rattle.graph.proofs.Steps.{stops, goes}

module _ {A B C : Type 0} (m : Answer C) (first : Answer A) (second : Answer B) (make : A → B → C) (is : m ≡ (first >>= λ x. second >>= λ y. answered (make x y))) where
  pub first_stops : {r : answer.Refusal} → first ≡ refused r → m ≡ refused r
  first_stops e = is ∙ stops _ e

  module _ {x : A} (p : first ≡ answered x) where
    pub second_stops : {r : answer.Refusal} → second ≡ refused r → m ≡ refused r
    second_stops e = is ∙ goes _ p ∙ stops _ e

    pub both_go : {y : B} → second ≡ answered y → m ≡ answered (make x y)
    both_go q = is ∙ goes _ p ∙ goes _ q
