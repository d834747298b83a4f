-- Answers taken apart: what a step's or a call's value says of the definition's answer.
-- Assumes nothing.
use mathlib.Core.List.{List}
use mathlib.Core.Path.{◌≡◌, refl, sym, ap, ◌∙◌}
use Prim.Native.Nat.{ℕ, ◌≤◌}
use native.Mathlib.Omega.{arith}
use lib.Dec.{leb}
use borrow.Author.Tests.{leb-true}
use Rattle.std.specs.Prelude.{Ok, Err}
use Rattle.std.specs.Prelude.{Result as Returned}
use Rattle.std.specs.Result.{IsErrAnd}
use Rattle.std.proofs.lemmas.Result.{err_from_is_err_and}
use Rattle.graph.specs.Answer as answer
use Rattle.graph.specs.Answer.{Answer, refused, answered, Result, lay, laid, laid_map, ◌else◌, ◌>>◌, refusal}
use Rattle.graph.specs.Calls.{in_work_room}
use Rattle.graph.proofs.Steps.{passed}
use Rattle.form.specs.Form.{meant_by, telling, tested, outcome, Gives, GivesMap}
use Rattle.form.specs.declared.Done.{Done}
use Rattle.form.specs.declared.Refusal.{Refusal}

-- ---- a step: the refusal that it passes on, or what it answered

-- what code answers of an answer is known: so is the answer
pub refused_so : {A B : Type 0} (part : A → B) (a : Answer A) (r : answer.Refusal) → refused r ≡ telling part a → a ≡ refused r
refused_so part (refused q) r e = let same : r ≡ q = cc in ap refused (sym same)
refused_so part (answered x) r e = let o : ◌≡◌ {A = ℕ} 0 1 = cc in absurd (omega arith)

pub answered_so : {A B : Type 0} (part : A → B) (a : Answer A) (y : B) → answered y ≡ telling part a → (x : A) × (a ≡ answered x) × (y ≡ part x)
answered_so part (refused r) y e = let o : ◌≡◌ {A = ℕ} 0 1 = cc in absurd (omega arith)
answered_so part (answered x) y e = (x, refl, cc)

-- the refusal of a step is passed on
pub passed_on : {T E : Type 0} {r : Returned T E} (x : E) → IsErrAnd r (λ e. e ≡ x) → r ≡ Err x
passed_on {r = r} x h = let p = err_from_is_err_and r h in p.1 ∙ ap Err p.2

-- ---- work room

module _ {A : Type 0} (needed lent : ℕ) (a : Answer A) where
  pub work_short : (r : answer.Refusal) → refused r ≡ tested (leb needed lent else refusal 10) → in_work_room needed lent a ≡ refused r
  unfolding in_work_room ◌>>◌
  work_short r e = rw (refused_so _ (leb needed lent else refusal 10) r e)

  pub work_enough : answered tt ≡ tested (leb needed lent else refusal 10) → in_work_room needed lent a ≡ a
  unfolding in_work_room ◌>>◌
  work_enough e = rw (answered_so _ (leb needed lent else refusal 10) tt e).1

pub room_enough : (needed lent : ℕ) → answered tt ≡ tested (leb needed lent else refusal 10) → needed ≤ lent
unfolding in_work_room
room_enough needed lent e =
    let any : Answer ℕ = answered 0 in
    leb-true needed lent (passed (leb needed lent) _ any (work_enough needed lent any e)).0

-- ---- a call: its outcome and its buffers

pub gives_refused : {a : Answer Result} (x : Refusal) (old : List ℕ) → a ≡ refused (meant_by x) → Gives a (Err x) old old
gives_refused x old e = record { result = sym (ap outcome e); buffer = sym (ap (λ (k : Answer Result). laid k old) e) }

pub gives_done : {a : Answer Result} (x : Result) (old new : List ℕ) → a ≡ answered x → new ≡ lay x.bytes old → Gives a (Ok (record { a = x.a; b = x.b })) old new
gives_done x old new e h = record { result = sym (ap outcome e); buffer = h ∙ sym (ap (λ (k : Answer Result). laid k old) e) }

pub gives_map_refused : {a : Answer Result} (x : Refusal) (old old_map : List ℕ) → a ≡ refused (meant_by x) → GivesMap a (Err x) old old old_map old_map
gives_map_refused x old old_map e = record {
  result = sym (ap outcome e);
  buffer = sym (ap (λ (k : Answer Result). laid k old) e);
  map = sym (ap (λ (k : Answer Result). laid_map k old_map) e);
}

pub gives_map_done : {a : Answer Result} (x : Result) (old new old_map new_map : List ℕ) → a ≡ answered x → new ≡ lay x.bytes old → new_map ≡ lay x.map old_map
    → GivesMap a (Ok (record { a = x.a; b = x.b })) old new old_map new_map
gives_map_done x old new old_map new_map e h k = record {
  result = sym (ap outcome e);
  buffer = h ∙ sym (ap (λ (k : Answer Result). laid k old) e);
  map = k ∙ sym (ap (λ (k : Answer Result). laid_map k old_map) e);
}

-- at the exit of a `?`
pub gives_passed : {a : Answer Result} {r : Returned Done Refusal} (x : Refusal) (old : List ℕ) → IsErrAnd r (λ e. e ≡ x) → a ≡ refused (meant_by x) → Gives a r old old
gives_passed x old h e = rw (passed_on x h) (gives_refused x old e)

pub gives_map_passed : {a : Answer Result} {r : Returned Done Refusal} (x : Refusal) (old old_map : List ℕ) → IsErrAnd r (λ e. e ≡ x) → a ≡ refused (meant_by x)
    → GivesMap a r old old old_map old_map
gives_map_passed x old old_map h e = rw (passed_on x h) (gives_map_refused x old old_map e)
