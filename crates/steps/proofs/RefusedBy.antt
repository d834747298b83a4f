-- Which refusals a call with a list of steps can give, whatever it is given, and which of them its steps can.
-- Assumes nothing.
use mathlib.Core.Bool.{Bool, true, false}
use mathlib.Core.List.{List, [], ◌∷◌}
use mathlib.Core.Path.{◌≡◌, refl, ap}
use Prim.Native.Nat.{ℕ, zero, suc}
use lib.Dec.{leb}
use lib.ListN.{length}
use Rattle.graph.specs.Answer.{Refusal, Answer, refused, answered, refusal, ◌else◌}
use Rattle.graph.specs.Calls.{made}
use Rattle.graph.specs.Graph.{Graph}
use Rattle.graph.specs.Lists.{member}
use Rattle.graph.specs.Versions.{read}
use Rattle.graph.proofs.Refuses.{RefusedBy, answer_by, refusal_by, test_by, step_by}
use Rattle.graph.proofs.RefusedBy.{reads_by, known_by, made_by}
use Rattle.steps.specs.Steps.{Step, node_step, edge_step, operation_step, pair_step, source_step, target_step, without_edges_step, without_nodes_step, read_step, steps_within, steps_in}
use Rattle.steps.specs.Calls.{Built, stopped, built, ◌at_step◌, ◌then◌, known_all, stepped, limited, turn, turns, on_steps, built_in_room, room_build, build_call}
use Rattle.steps.specs.RefusedBy.{build_refusals, step_refusals}
use Rattle.steps.proofs.Endings.{never_built}

pub record StoppedBy {A : Type 0} (ns : List ℕ) (a : Built A) : Type 0 where
  pub each : (k : ℕ) (r : Refusal) → a ≡ stopped k r → member r.no ns ≡ true

module _ {ns : List ℕ} where
  built_by : {A : Type 0} (x : A) → StoppedBy ns (built x)
  built_by x = record { each = λ k r e. absurd (never_built e) }

  at_by : {A : Type 0} (a : Answer A) (k : ℕ) → RefusedBy ns a → StoppedBy ns (a at_step k)
  unfolding ◌at_step◌
  at_by (refused r) k h = record { each = λ j q e. let same : r ≡ q = cc in h.each q (ap refused same) }
  at_by (answered x) k h = built_by x

  then_by : {A B : Type 0} (m : Built A) (next : A → Built B) → StoppedBy ns m → ((x : A) → StoppedBy ns (next x)) → StoppedBy ns (m then next)
  unfolding ◌then◌
  then_by (stopped k r) next h n = record { each = λ j q e. let same : r ≡ q = cc in h.each k q (ap (stopped k) same) }
  then_by (built x) next h n = n x

else_by : (ns : List ℕ) (c : Bool) (r : Refusal) → member r.no ns ≡ true → RefusedBy ns (c else r)
unfolding ◌else◌
else_by ns true r h = answer_by _
else_by ns false r h = refusal_by r h

module _ (ns : List ℕ) (seven : member 7 ns ≡ true) where
  known_all_by : (count : ℕ) (ids : List ℕ) → RefusedBy ns (known_all count ids)
  unfolding known_all
  known_all_by count ids = test_by _ _ _ seven (answer_by _)

  stepped_by : (step : Step) (g : Graph) → RefusedBy ns (stepped step g)
  unfolding stepped
  stepped_by (node_step label) g = answer_by _
  stepped_by (edge_step label s t) g = step_by _ _ (known_all_by _ s) (λ x. step_by _ _ (known_all_by _ t) (λ y. answer_by _))
  stepped_by (operation_step label s t) g = answer_by _
  stepped_by (pair_step v w) g = step_by _ _ (known_by ns seven _ v) (λ x. step_by _ _ (known_by ns seven _ w) (λ y. answer_by _))
  stepped_by (source_step edge label) g = step_by _ _ (known_by ns seven _ edge) (λ x. answer_by _)
  stepped_by (target_step edge label) g = step_by _ _ (known_by ns seven _ edge) (λ x. answer_by _)
  stepped_by (without_edges_step ids) g = step_by _ _ (known_all_by _ ids) (λ x. answer_by _)
  stepped_by (without_nodes_step ids) g = step_by _ _ (known_all_by _ ids) (λ x. answer_by _)

  module _ (nine : member 9 ns ≡ true) where
    turn_by : (step : Answer Step) (g : Graph) → RefusedBy ns step → RefusedBy ns (turn step g)
    unfolding turn limited
    turn_by step g h = step_by step _ h (λ x. step_by (stepped x g) _ (stepped_by x g) (λ k. test_by _ _ _ nine (answer_by _)))

    module _ (twelve : member 12 ns ≡ true) where
      read_step_by : (kind : ℕ) (b : List ℕ) → RefusedBy ns (read_step kind b)
      unfolding read_step
      read_step_by kind b = test_by _ _ _ twelve (test_by _ _ _ twelve (test_by _ _ _ twelve (answer_by _)))

      turns_by : (most : ℕ) (b : List ℕ) (k : ℕ) (g : Graph) → StoppedBy ns (turns k (steps_within most b) g)
      turns_by zero b k g = built_by g
      turns_by (suc most) [] k g = built_by g
      turns_by (suc most) (kind ∷ b) k g = go (read_step kind b) (read_step_by kind b) (λ rest h. turns_by most rest (suc k) h)
        where
          go : (a : Answer (Step × List ℕ)) → RefusedBy ns a → ((rest : List ℕ) (h : Graph) → StoppedBy ns (turns (suc k) (steps_within most rest) h))
              → StoppedBy ns (turns k (elim a [
                | refused r ↦ refused r ∷ []
                | answered x ↦ answered x.0 ∷ steps_within most x.1
              ]) g)
          go (refused r) h others = then_by (turn (refused r) g at_step k) _ (at_by (turn (refused r) g) k (turn_by (refused r) g (refusal_by r (h.each r refl)))) (λ h. built_by h)
          go (answered x) h others = then_by (turn (answered x.0) g at_step k) _ (at_by (turn (answered x.0) g) k (turn_by (answered x.0) g (answer_by x.0))) (λ h. others x.1 h)

-- those of a step are 12, 7 and 9
pub steps_by : (steps : List ℕ) (k : ℕ) (g : Graph) → StoppedBy step_refusals (turns k (steps_in steps) g)
steps_by steps k g = turns_by step_refusals refl refl refl (length steps) steps k g

pub build_by : (b steps : List ℕ) (room work_room : ℕ) → StoppedBy build_refusals (build_call b steps room work_room)
unfolding built_in_room on_steps
build_by b steps room work_room =
    then_by _ _ (at_by _ 0 (else_by build_refusals (leb room_build work_room) (refusal 10) refl))
    (λ u. then_by _ _ (at_by (read b) 0 (reads_by build_refusals refl b))
    (λ s. then_by _ _ (turns_by build_refusals refl refl refl (length steps) steps 0 s.graph)
    (λ g. at_by (made room (record { graph = g; id = 0 })) 0 (made_by build_refusals refl refl room (record { graph = g; id = 0 })))))
