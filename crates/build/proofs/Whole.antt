-- The ways out of the call.
-- Assumes nothing.
use mathlib.Core.List.{List}
use mathlib.Core.Path.{◌≡◌, sym, ap, ◌∙◌, subst}
use Prim.Native.Nat.{ℕ}
use Rattle.graph.specs.Answer.{Answer, refused, answered, refusal, Result, laid, ◌else◌, ◌>>=◌}
use Rattle.graph.specs.Calls.{on_nothing}
use Rattle.graph.specs.Graph.{Graph}
use Rattle.graph.specs.Versions.{fitting}
use Rattle.form.specs.Form.{meant_by, tested, sizes_of, Gives}
use Rattle.form.proofs.Answers.{refused_so, answered_so}
use Rattle.form.specs.declared.Done.{Done}
use Rattle.std.specs.Prelude.{Ok}
use Rattle.std.specs.Prelude.{Result as Returned}
use Rattle.std.specs.Result.{IsErrAnd}
use Rattle.graph.specs.Answer as answer
use lib.Dec.{leb}
use Rattle.form.specs.Stored.{Stored, graph_of}
use Rattle.form.specs.declared.Sizes.{Sizes}
use Rattle.write.specs.Write.{counted_as, fitted}
use Rattle.steps.specs.Steps.{steps_in}
use Rattle.steps.specs.Calls as calls
use Rattle.steps.specs.Calls.{Built, stopped, built, ◌at_step◌, ◌then◌, on_steps, built_in_room, laid_built}
use Rattle.ledger.specs.Ledger.{drawing, Draws}
use Rattle.build.specs.Turns.{built_outcome, GivesBuilt}
use Rattle.build.specs.declared.Stop.{Stop}
use Rattle.build.proofs.Steps.{passed_on}
use Rattle.build.proofs.Counts.{Sized, counted, drawing_sized}

-- ---- work room

module _ {A : Type 0} (needed lent : ℕ) (a : Built A) where
  pub built_short : {r : answer.Refusal} → refused r ≡ tested (leb needed lent else refusal 10) → built_in_room needed lent a ≡ stopped 0 r
  unfolding built_in_room ◌at_step◌ ◌then◌
  built_short {r} e = rw (refused_so _ (leb needed lent else refusal 10) r e)

  pub built_enough : answered tt ≡ tested (leb needed lent else refusal 10) → built_in_room needed lent a ≡ a
  unfolding built_in_room ◌at_step◌ ◌then◌
  built_enough e = rw (answered_so _ (leb needed lent else refusal 10) tt e).1

-- ---- what the steps lead to

module _ (b steps : List ℕ) (room : ℕ) {z : Sizes} (s : Stored b z) where
  pub steps_stopped : (k : ℕ) (r : answer.Refusal) → calls.turns 0 (steps_in steps) (graph_of b) ≡ stopped k r → on_steps b steps room ≡ stopped k r
  unfolding on_steps ◌at_step◌ ◌then◌
  steps_stopped k r e = rw (s.read_as, e)

  pub steps_made : (g : Graph) → calls.turns 0 (steps_in steps) (graph_of b) ≡ built g → on_steps b steps room ≡ ((on_nothing room (answered (record { graph = g; id = 0 }))) at_step 0)
  unfolding on_steps on_nothing ◌>>=◌ ◌at_step◌ ◌then◌
  steps_made g e = rw (s.read_as, e)

-- ---- the outcome

-- at the exit of a `?`
pub stopped_gives : {a : Built Result} {r : Returned Done Stop} (x : Stop) (old : List ℕ) → IsErrAnd r (λ e. e ≡ x) → a ≡ stopped x.index (meant_by x.refusal) → GivesBuilt a r old old
stopped_gives {a} {r} x old h e = subst (λ (r : Returned Done Stop). GivesBuilt a r old old) (sym (passed_on x h)) (record {
  result = sym (ap built_outcome e);
  buffer = sym (ap (λ (a : Built Result). laid_built a old) e);
})

-- of an answer that was refused
pub at_step_refused : {a : Answer Result} {r : answer.Refusal} → a ≡ refused r → a at_step 0 ≡ stopped 0 r
unfolding ◌at_step◌
at_step_refused e = ap (λ (a : Answer Result). a at_step 0) e

pub done_gives : {a : Answer Result} {x : Done} {old new : List ℕ} → Gives a (Ok x) old new → GivesBuilt (a at_step 0) (Ok x) old new
unfolding ◌at_step◌
done_gives {a} {x} {old} {new} g =
    let t = answered_so _ a x g.result in
    subst (λ (a : Answer Result). GivesBuilt (a at_step 0) (Ok x) old new) (sym t.1) (record {
      result = ap built t.2;
      buffer = g.buffer ∙ ap (λ (a : Answer Result). laid a old) t.1;
    })

pub gives_as : {a c : Built Result} {r : Returned Done Stop} {old new : List ℕ} → a ≡ c → GivesBuilt c r old new → GivesBuilt a r old new
gives_as {r = r} {old = old} {new = new} e g = subst (λ (a : Built Result). GivesBuilt a r old new) (sym e) g

-- ---- the sizes of the last graph, in the version that it fits

pub fitted_sizes : (W : List ℕ) (z : Sizes) (g : Graph) → Draws W z g → fitted (counted_as z.nodes z.edges z.sources z.targets z.pairs) z.ports ≡ sizes_of (fitting g) g
fitted_sizes W z g d =
    let s = subst (λ (k : Graph). Sized k z) d.is (drawing_sized W z d.sound) in
    λ i. fitted (sym (counted s) i) (sym s.ports i)

pub redrawn : (W : List ℕ) (z : Sizes) (w : ℕ) (g : Graph) → Draws W z g → Draws W (record { width = w; nodes = z.nodes; edges = z.edges; ports = z.ports; sources = z.sources; targets = z.targets; pairs = z.pairs }) g
unfolding drawing
redrawn W z w g d =
    let s = d.sound in
    record { sound = record { long = s.long; within = s.within; few = s.few; log = s.log; sources = s.sources; targets = s.targets; pairs = s.pairs }; is = d.is }
