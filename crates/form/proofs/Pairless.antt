-- A call in lent work room on a stored graph without pairs: the refusals in their order, and what it comes to.
-- Assumes nothing.
use mathlib.Core.List.{List}
use mathlib.Core.Path.{◌≡◌, sym, ap, ◌∙◌}
use Prim.Native.Nat.{ℕ}
use lib.Dec.{leb}
use lib.ListN.{length}
use Rattle.form.specs.Form.{tested, reading}
use Rattle.form.specs.Stored.{stored_of, graph_of, Stored}
use Rattle.form.specs.declared.Sizes.{Sizes}
use Rattle.graph.specs.Answer as answer
use Rattle.graph.specs.Answer.{Answer, refused, answered, Result, ◌else◌, ◌>>=◌, refusal}
use Rattle.graph.specs.Calls.{unpaired, in_work_room}
use Rattle.graph.specs.Graph.{Graph}
use Rattle.graph.specs.Versions as versions
use Rattle.graph.specs.Versions.{read}
use Rattle.form.proofs.Answers.{refused_so, answered_so, work_short, work_enough}
use Rattle.form.proofs.Stored.{unread}
use Rattle.graph.proofs.Steps.{same_answer, passed, stops, goes}

-- what follows the work room's test
abbrev on_pairless : List ℕ → (versions.StoredGraph → Graph → Answer Result) → Answer Result
on_pairless b next = read b >>= λ s. unpaired s.graph >>= λ g. next s g

module _ (b : List ℕ) (needed lent : ℕ) (next : versions.StoredGraph → Graph → Answer Result) where
  pub room_short : (r : answer.Refusal) → refused r ≡ tested (leb needed lent else refusal 10) → in_work_room needed lent (on_pairless b next) ≡ refused r
  room_short = work_short needed lent (on_pairless b next)

  module _ (enough : answered tt ≡ tested (leb needed lent else refusal 10)) where
    within : in_work_room needed lent (on_pairless b next) ≡ on_pairless b next
    within = work_enough needed lent (on_pairless b next) enough

    pub graph_unread : (r : answer.Refusal) → refused r ≡ reading (read b) → in_work_room needed lent (on_pairless b next) ≡ refused r
    graph_unread r e = within ∙ stops _ (unread b r e)

    module _ {z : Sizes} (s : Stored b z) where
      many : length (graph_of b).pairs ≡ z.pairs
      many = ap (λ (y : Sizes). y.pairs) (sym s.sizes)

      pub graph_paired : (r : answer.Refusal) → ((g : Graph) → length g.pairs ≡ z.pairs → refused r ≡ tested (unpaired g)) → in_work_room needed lent (on_pairless b next) ≡ refused r
      graph_paired r is = within ∙ goes _ s.read_as ∙ stops _ (refused_so _ (unpaired (graph_of b)) r (is (graph_of b) many))

      pub graph_pairless : ((g : Graph) → length g.pairs ≡ z.pairs → answered tt ≡ tested (unpaired g)) → in_work_room needed lent (on_pairless b next) ≡ next (stored_of b) (graph_of b)
      unfolding unpaired
      graph_pairless is =
          let t = answered_so _ (unpaired (graph_of b)) tt (is (graph_of b) many) in
          within ∙ goes _ s.read_as ∙ goes _ t.1 ∙ ap (next (stored_of b)) (sym (same_answer (passed _ _ _ t.1).1))
