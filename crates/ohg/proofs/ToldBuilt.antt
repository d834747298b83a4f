-- T-02 from what the caller holds: the returned number and the bytes of the lent buffer.
-- Assumes nothing.
use mathlib.Core.List.{List, ◌++◌}
use mathlib.Core.Path.{◌≡◌, refl, sym, ap, ◌∙◌, subst}
use Prim.Native.Nat.{ℕ, ◌≤◌}
use native.Mathlib.Omega.{arith}
use lib.ListN.{length, drop}
use Rattle.le.specs.Le.{Below}
use Rattle.graph.specs.Answer.{Refusal, Result}
use Rattle.graph.specs.Graph.{Graph}
use Rattle.graph.proofs.Versions.{fitting_formed}
use Rattle.steps.specs.Calls.{Built, stopped, built, build_call, laid_built}
use Rattle.steps.proofs.Answered.{build_answer, build_fault}
use Rattle.packing.specs.Caller.{Draws}
use Rattle.packing.specs.Unpacked.{code_in, a_in, b_in}
use Rattle.packing.proofs.Caller.{draws, front, kept}
use Rattle.ohg.specs.Built.{packed_built, ReturnsBuilt, RangedBuilt}
use Rattle.ohg.specs.ToldBuilt.{ToldBuilt, ToldStopped}
use Rattle.ohg.proofs.Built.{build_ranged, code_of_built_lem, a_of_built_lem, b_of_built_lem}

-- a code of 0 is an answer, and a and b are its numbers
built_of : (x : Built Result) {r : ℕ} → RangedBuilt x → r ≡ packed_built x → code_in r ≡ 0 → (y : Result) × (x ≡ built y) × (a_in r ≡ y.a) × (b_in r ≡ y.b)
built_of (stopped k q) h e code = absurd (omega (arith, code_of_built_lem (stopped k q) h e, (h.no k q refl).0))
built_of (built y) h e code = (y, refl, a_of_built_lem (built y) h e, b_of_built_lem (built y) h e)

-- any other is a refusal
stopped_of : (x : Built Result) {r : ℕ} → RangedBuilt x → r ≡ packed_built x → (code_in r ≡ 0 → ⊥) → (k : ℕ) × (q : Refusal) × (x ≡ stopped k q)
stopped_of (stopped k q) h e n = (k, q, refl)
stopped_of (built y) h e n = absurd (n (code_of_built_lem (built y) h e))

module _ (b steps : List ℕ) (t : Below 256 b) (u : Below 256 steps) (old new : List ℕ) (lent r : ℕ) (h : ReturnsBuilt (build_call b steps (length old) lent) r old new) where
  -- the graph that is built, from what the caller holds
  pub built_for_the_caller : code_in r ≡ 0 → (g : Graph) × (k : Graph) × ToldBuilt b steps r old new g k
  built_for_the_caller code =
      let p = built_of (build_call b steps (length old) lent) (build_ranged b steps t u (length old) lent) h.number code in
      let m = p.0 in
      let x = build_answer b steps t u (length old) lent m p.1 in
      let s = x.0 in
      let k = x.1 in
      let w = x.2 in
      let long : length m.bytes ≡ a_in r = sym (p.2 ∙ ap (λ (m : Result). m.a) w.is) in
      let buffer : new ≡ m.bytes ++ drop (length m.bytes) old = h.buffer ∙ ap (λ (a : Built Result). laid_built a old) p.1 in
      let is = front m.bytes old new (a_in r) buffer long in (
        s.graph,
        k,
        record {
          drawing = draws b t s w.stored;
          answer = subst (λ (l : List ℕ). Draws l k) (sym is) (record { stored = w.form.back; written = w.form.written; formed = fitting_formed k w.form.formed });
          led = w.led;
          singly = w.singly ∙ ap built (sym is);
          second = p.3 ∙ ap (λ (m : Result). m.b) w.is;
          fits = subst (λ (n : ℕ). n ≤ length old) long w.form.fits;
          stays = kept m.bytes old new (a_in r) buffer long;
        },
      )

  -- why nothing was built, from what the caller holds
  pub stopped_for_the_caller : (code_in r ≡ 0 → ⊥) → ToldStopped b steps lent r old new
  stopped_for_the_caller n =
      let ranged = build_ranged b steps t u (length old) lent in
      let p = stopped_of (build_call b steps (length old) lent) ranged h.number n in
      let same : RangedBuilt (stopped p.0 p.1) = subst RangedBuilt p.2 ranged in
      let number : r ≡ packed_built (stopped p.0 p.1) = h.number ∙ ap packed_built p.2 in
      record {
        index = p.0;
        refusal = p.1;
        fault = build_fault b steps t u (length old) lent p.0 p.1 p.2;
        code = code_of_built_lem (stopped p.0 p.1) same number;
        at = a_of_built_lem (stopped p.0 p.1) same number;
        place = b_of_built_lem (stopped p.0 p.1) same number;
        stays = h.buffer ∙ ap (λ (a : Built Result). laid_built a old) p.2;
      }
