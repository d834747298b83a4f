-- 02, T-02: what a call with a list of steps answers, and why it is refused.
-- Assumes nothing.
use mathlib.Core.Bool.{Bool, true, false}
use mathlib.Core.List.{List}
use mathlib.Core.Logic.{◌⊎◌, inl, inr}
use mathlib.Core.Path.{◌≡◌, refl, sym, ap, ◌∙◌, subst}
use Prim.Native.Nat.{ℕ, ◌<◌}
use lib.Dec.{leb}
use lib.ListN.{length}
use borrow.Author.Tests.{leb-false}
use Rattle.le.specs.Le.{Below}
use Rattle.graph.specs.Answer.{Refusal, Answer, refused, answered, refusal, Result, writing, ◌else◌, ◌>>=◌, ◌>>◌}
use Rattle.graph.specs.Calls.{Next, fit, made, on_nothing}
use Rattle.graph.specs.Form.{encode}
use Rattle.graph.specs.Graph.{Graph, Proper}
use Rattle.graph.specs.Versions.{StoredGraph, fitting, read}
use Rattle.graph.proofs.Answers.{FormOf, on_nothing_answer}
use Rattle.graph.proofs.Steps.{same_answer}
use Rattle.steps.specs.Steps.{steps_in}
use Rattle.steps.specs.Calls.{Built, stopped, built, ◌at_step◌, ◌then◌, turns, on_steps, built_in_room, room_build, build_call}
use Rattle.steps.specs.Singly.{singly, lastly}
use Rattle.steps.specs.Faults.{BuildFault, no_work_room, unread, at_one_step, no_room}
use Rattle.steps.proofs.Endings.{never_built, came_built, at_built, came_stopped}
use Rattle.steps.proofs.LaidDown.{all_writable}
use Rattle.steps.proofs.Singly.{read_at, singly_turns, turns_formed, build_singly, singly_stops, build_unread}
use Rattle.steps.proofs.RefusedBy.{steps_by}

-- ---- what is answered

-- the last graph's form, in its room, which the single calls answer too
pub record BuiltOf (b steps : List ℕ) (room : ℕ) (s : StoredGraph) (g : Graph) (m : Result) : Type 0 where
  pub stored : read b ≡ answered s
  pub led : turns 0 (steps_in steps) s.graph ≡ built g
  pub form : FormOf room g m.bytes
  pub is : m ≡ writing m.bytes 0
  pub singly : singly 0 (steps_in steps) b ≡ built m.bytes

-- a graph's form, in its room
made_form : (room : ℕ) (g : Graph) → Proper g → (m : Result) → made room (record { graph = g; id = 0 }) ≡ answered m → FormOf room g m.bytes × (m ≡ writing m.bytes 0)
unfolding on_nothing ◌>>=◌
made_form room g h m q =
    let x : Next = record { graph = g; id = 0 } in
    let y = on_nothing_answer room (answered x) m (λ z k. subst (λ (n : Next). Proper n.graph) (same_answer k) h) q in
    let same : y.0 ≡ x = sym (same_answer y.1) in
    (subst (λ (n : Next). FormOf room n.graph m.bytes) same y.2, y.3 ∙ ap (λ (n : Next). writing m.bytes n.id) same)

module _ (b steps : List ℕ) (t : Below 256 b) (u : Below 256 steps) where
  -- the single calls, by what the steps give
  calls_give : (s : StoredGraph) → read b ≡ answered s → singly 0 (steps_in steps) b ≡ (turns 0 (steps_in steps) s.graph then λ h. built (encode (fitting h) h))
  calls_give s p = singly_turns 0 (steps_in steps) (all_writable steps u) b s.graph (read_at b s t p)

  pub build_answer : (room work_room : ℕ) (m : Result) → build_call b steps room work_room ≡ built m → (s : StoredGraph) × (g : Graph) × BuiltOf b steps room s g m
  unfolding built_in_room on_steps ◌then◌
  build_answer room work_room m e =
      let e₁ = came_built ((leb room_build work_room else refusal 10) at_step 0) _ e in
      let e₂ = came_built (read b at_step 0) _ e₁.2 in
      let s = e₂.0 in
      let p : read b ≡ answered s = at_built (read b) 0 e₂.1 in
      let e₃ = came_built (turns 0 (steps_in steps) s.graph) _ e₂.2 in
      let g = e₃.0 in
      let q : made room (record { graph = g; id = 0 }) ≡ answered m = at_built (made room (record { graph = g; id = 0 })) 0 e₃.2 in
      let formed = turns_formed 0 (steps_in steps) (all_writable steps u) s.graph g (read_at b s t p).formed e₃.1 in
      let y = made_form room g formed.proper m q in (
        s,
        g,
        record {
          stored = p;
          led = e₃.1;
          form = y.0;
          is = y.1;
          singly = calls_give s p ∙ ap (λ (a : Built Graph). a then λ h. built (encode (fitting h) h)) e₃.1 ∙ ap built y.0.written;
        },
      )

  -- ---- why it is refused

  -- a refusal of the single calls is one of a step
  stopped_by : (s : StoredGraph) → read b ≡ answered s → (k : ℕ) (r : Refusal) → singly 0 (steps_in steps) b ≡ stopped k r → turns 0 (steps_in steps) s.graph ≡ stopped k r
  stopped_by s p k r e = go (came_stopped (turns 0 (steps_in steps) s.graph) _ (sym (calls_give s p) ∙ e))
    where
      go : (turns 0 (steps_in steps) s.graph ≡ stopped k r) ⊎ ((h : Graph) × (turns 0 (steps_in steps) s.graph ≡ built h) × (built (encode (fitting h) h) ≡ stopped k r))
          → turns 0 (steps_in steps) s.graph ≡ stopped k r
      go (inl x) = x
      go (inr x) = absurd (never_built x.2)

  -- 10 of the last form
  last_fault : (room : ℕ) (form : List ℕ) (k : ℕ) (r : Refusal) → lastly room form ≡ stopped k r → (room < length form) × (k ≡ 0) × (r ≡ refusal 10)
  unfolding lastly fit ◌else◌ ◌>>◌ ◌>>=◌ ◌at_step◌
  last_fault room form k r e = go (leb (length form) room) refl e
    where
      go : (c : Bool) → leb (length form) room ≡ c → ((((c else refusal 10) >> answered form) >>= λ form. answered (writing form 0)) at_step 0) ≡ stopped k r
          → (room < length form) × (k ≡ 0) × (r ≡ refusal 10)
      go true l e = absurd (never_built e)
      go false l e =
          let index : k ≡ 0 = cc in
          let same : r ≡ refusal 10 = cc in
          (leb-false (length form) room l, index, same)

  pub build_fault : (room work_room k : ℕ) (r : Refusal) → build_call b steps room work_room ≡ stopped k r → BuildFault b steps room work_room k r
  unfolding built_in_room
  build_fault room work_room k r e = first (leb room_build work_room) refl e
    where
      Fault : ℕ → Refusal → Type 0
      Fault = BuildFault b steps room work_room

      third : (s : StoredGraph) → read b ≡ answered s
          → (singly 0 (steps_in steps) b ≡ stopped k r) ⊎ ((form : List ℕ) × (singly 0 (steps_in steps) b ≡ built form) × (lastly room form ≡ stopped k r)) → Fault k r
      third s p (inl x) = at_one_step k r ((steps_by steps 0 s.graph).each k r (stopped_by s p k r x)) (singly_stops 0 (steps_in steps) b k r x)
      third s p (inr x) =
          let l = last_fault room x.0 k r x.2 in
          subst (λ (z : ℕ × Refusal). Fault z.0 z.1) (λ i. (sym l.1 i, sym l.2 i)) (no_room x.0 x.1 l.0)

      second : (m : Answer StoredGraph) → read b ≡ m → on_steps b steps room ≡ stopped k r → Fault k r
      second (refused q) p e =
          let f : stopped 0 q ≡ stopped k r = sym (build_unread b steps room q p) ∙ e in
          let index : k ≡ 0 = cc in
          let same : q ≡ r = cc in
          subst (λ (z : ℕ). Fault z r) (sym index) (unread r (p ∙ ap refused same))
      second (answered s) p e = third s p (came_stopped (singly 0 (steps_in steps) b) (lastly room) (sym (build_singly b steps room s t u p) ∙ e))

      first : (c : Bool) → leb room_build work_room ≡ c → (((c else refusal 10) at_step 0) then λ u. on_steps b steps room) ≡ stopped k r → Fault k r
      first true l e = second (read b) refl (unfold ◌else◌ ◌at_step◌ ◌then◌ in e)
      first false l e =
          let f : ◌≡◌ {A = Built Result} (stopped 0 (refusal 10)) (stopped k r) = (unfold ◌else◌ ◌at_step◌ ◌then◌ in e) in
          let index : k ≡ 0 = cc in
          let same : r ≡ refusal 10 = cc in
          subst (λ (z : ℕ × Refusal). Fault z.0 z.1) (λ i. (sym index i, sym same i)) (no_work_room (leb-false room_build work_room l))
