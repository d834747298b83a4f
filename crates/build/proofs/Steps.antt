-- A step carried out: from the values met in code to what the definition of the step gives.
-- Assumes nothing.
use mathlib.Core.Bool.{true, false, ◌&&◌, and-eq-true_iff}
use mathlib.Core.List.{List}
use mathlib.Core.Path.{◌≡◌, sym, ap, ◌∙◌, subst}
use Prim.Native.Nat.{ℕ, ◌≤◌}
use lib.Dec.{leb}
use borrow.Author.Tests.{leb-true, le-leb}
use Rattle.graph.specs.Answer as answer
use Rattle.graph.specs.Answer.{Answer, refused, answered, refusal, ◌else◌, ◌>>=◌, ◌>>◌}
use Rattle.graph.specs.Graph.{Graph, largest, sizes_fit, counts_fit, within_limits, Within}
use Rattle.graph.specs.Calls.{known}
use Rattle.graph.proofs.Steps.{stops, goes, passed, same_answer}
use Rattle.form.specs.Form.{counts_of, meant_by}
use Rattle.form.specs.declared.Refusal.{Refusal}
use Rattle.form.specs.declared.Sizes.{Sizes}
use Rattle.steps.specs.Steps.{Step}
use Rattle.steps.specs.Calls as calls
use Rattle.steps.specs.Calls.{stepped, limited}
use Rattle.ledger.specs.Ledger.{Draws}
use Rattle.std.specs.Prelude.{Ok, Err}
use Rattle.std.specs.Prelude.{Result as Returned}
use Rattle.std.specs.Result.{IsErrAnd}
use Rattle.std.proofs.lemmas.Result.{err_from_is_err_and}
use Rattle.build.specs.Turns.{within, Limited, Turned}
use Rattle.build.proofs.Counts.{Sized, counted, drawing_sized}

-- ---- the exit of a step: its refusal is passed on

pub passed_on : {T E : Type 0} {r : Returned T E} (x : E) → IsErrAnd r (λ e. e ≡ x) → r ≡ Err x
passed_on {r = r} x h = let p = err_from_is_err_and r h in p.1 ∙ ap Err p.2

pub turned_passed : {a : Answer Graph} (r : Returned Sizes Refusal) (x : Refusal) (W : List ℕ) → IsErrAnd r (λ e. e ≡ x) → a ≡ refused (meant_by x) → Turned a r W
turned_passed {a} r x W h e = subst (λ (r : Returned Sizes Refusal). Turned a r W) (sym (passed_on x h)) e

-- ---- 9

fits_are : (h : Graph) (y : Sizes) → Sized h y → within_limits largest h ≡ within y
fits_are h y s = λ k. sizes_fit largest (counted s k) (s.ports k)

limited_yes : (h : Graph) → within_limits largest h ≡ true → limited h ≡ answered h
unfolding limited ◌else◌ ◌>>◌
limited_yes h e = rw e

limited_no : (h : Graph) → within_limits largest h ≡ false → limited h ≡ refused (refusal 9)
unfolding limited ◌else◌ ◌>>◌
limited_no h e = rw e

-- sizes within the limits: each is below its own
pub within_each : (y : Sizes) → within y ≡ true → Within largest (counts_of y) × (y.ports ≤ largest.most_ports)
within_each y h =
    let all = (and-eq-true_iff (counts_fit largest (counts_of y)) (leb y.ports largest.most_ports)).0 h in
    let a = (and-eq-true_iff _ _).0 all.0 in
    let b = (and-eq-true_iff _ _).0 a.1 in
    let c = (and-eq-true_iff _ _).0 b.1 in
    let d = (and-eq-true_iff _ _).0 c.1 in
    (record { nodes = leb-true _ _ a.0; edges = leb-true _ _ b.0; sources = leb-true _ _ c.0; targets = leb-true _ _ d.0; pairs = leb-true _ _ d.1 }, leb-true _ _ all.1)

-- ---- the ways out of a step

module _ (step : Step) (g : Graph) where
  pub step_stops : {r : answer.Refusal} → stepped step g ≡ refused r → calls.turn (answered step) g ≡ refused r
  unfolding calls.turn ◌>>=◌
  step_stops e = stops limited e

  module _ {h : Graph} {y : Sizes} (is : stepped step g ≡ answered h) (s : Sized h y) where
    pub step_nine : (x : Refusal) → Limited y (Err x) → calls.turn (answered step) g ≡ refused (meant_by x)
    unfolding calls.turn ◌>>=◌
    step_nine x l = goes limited is ∙ limited_no h (fits_are h y s ∙ l.0) ∙ ap (λ (x : Refusal). refused (meant_by x)) (sym l.1)

    pub step_done : (z : Sizes) (W : List ℕ) → Limited y (Ok z) → Draws W y h → Turned (calls.turn (answered step) g) (Ok z) W
    unfolding calls.turn ◌>>=◌
    step_done z W l d = (h, goes limited is ∙ limited_yes h (fits_are h y s ∙ l.0), subst (λ (k : Sizes). Draws W k h) (sym l.1) d)

-- an id that is known is answered as it is
pub known_same : (count id x : ℕ) → known count id ≡ answered x → known count id ≡ answered id
unfolding known
known_same count id x e = e ∙ ap answered (sym (same_answer (passed _ _ _ e).1))

-- a step whose graph the room draws is within the limits
pub step_drawn : (step : Step) (g h : Graph) → stepped step g ≡ answered h → (y : Sizes) (W : List ℕ) → Draws W y h → Turned (calls.turn (answered step) g) (Ok y) W
unfolding calls.turn ◌>>=◌
step_drawn step g h is y W d =
    let s = subst (λ (k : Graph). Sized k y) d.is (drawing_sized W y d.sound) in
    let w = d.sound.within in
    let fits : within y ≡ true =
    λ i. le-leb y.nodes largest.most.nodes w.nodes i && (le-leb y.edges largest.most.edges w.edges i && (le-leb y.sources largest.most.sources w.sources i
    && (le-leb y.targets largest.most.targets w.targets i && le-leb y.pairs largest.most.pairs w.pairs i))) && le-leb y.ports largest.most_ports d.sound.few i in
    (h, goes limited is ∙ limited_yes h (fits_are h y s ∙ fits), d)
