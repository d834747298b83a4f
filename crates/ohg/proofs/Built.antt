-- The numbers of the answer of ohg_build fit their bits; packing what the code answered is packing the definition's answer, and is inverted.
-- Assumes nothing.
use mathlib.Core.List.{List}
use mathlib.Core.Path.{◌≡◌, refl, sym, ap, ◌∙◌, subst}
use Prim.Native.Nat.{ℕ, ◌≤◌}
use native.Mathlib.Omega.{arith}
use lib.Dec.{leb, ltb}
use lib.ListN.{length}
use borrow.Author.Tests.{leb-true, ltb-true}
use Rattle.le.specs.Le.{Below}
use Rattle.graph.specs.Answer.{Result}
use Rattle.graph.proofs.Refuses.{member_passes}
use Rattle.graph.proofs.Versions.{longest}
use Rattle.steps.specs.Calls.{Built, stopped, built, build_call}
use Rattle.steps.specs.RefusedBy.{build_refusals}
use Rattle.steps.proofs.Answered.{build_answer}
use Rattle.steps.proofs.RefusedBy.{build_by}
use Rattle.std.specs.Prelude.{Ok, Err}
use Rattle.std.specs.Prelude.{Result as Returned}
use Rattle.form.specs.Form.{meant_by}
use Rattle.form.specs.declared.Done.{Done}
use Rattle.build.specs.Turns.{told_built, built_outcome, GivesBuilt}
use Rattle.build.specs.declared.Stop.{Stop}
use Rattle.packing.specs.Unpacked.{code_in, a_in, b_in}
use Rattle.ohg.specs.Built.{packed_built, ReturnsBuilt, RangedBuilt, packed_ending, PacksEnding}
use Rattle.ohg.specs.ToldBuilt.{code_of_built, a_of_built, b_of_built}

-- ---- the numbers of an answer

pub build_ranged : (b steps : List ℕ) → Below 256 b → Below 256 steps → (room work_room : ℕ) → RangedBuilt (build_call b steps room work_room)
build_ranged b steps t u room work_room = record {
  no = λ k r e.
      let h = (build_by b steps room work_room).each k r e in
      (leb-true _ _ (member_passes (leb 1) build_refusals r.no refl h), ltb-true _ _ (member_passes (λ n. ltb n 256) build_refusals r.no refl h));
  numbers = λ m e.
      let p = build_answer b steps t u room work_room m e in
      let x = p.2 in
      let long : length m.bytes ≤ 655385 = subst (λ (l : List ℕ). length l ≤ 655385) x.form.written (longest p.1 x.form.formed) in
      (omega (arith, long, ap (λ (k : Result). k.a) x.is), omega (arith, ap (λ (k : Result). k.b) x.is));
}

-- ---- packing

-- of a call's answer what the ending in code says of it
stopped_so : (a : Built Result) (x : Stop) → stopped x.index (meant_by x.refusal) ≡ built_outcome a → a ≡ stopped x.index (meant_by x.refusal)
stopped_so (stopped k r) x e =
    let i : k ≡ x.index = cc in
    let j : r ≡ meant_by x.refusal = cc in
    λ t. stopped (i t) (j t)
stopped_so (built y) x e = let o : ◌≡◌ {A = ℕ} 0 1 = cc in absurd (omega arith)

built_so : (a : Built Result) (x : Done) → built x ≡ built_outcome a → (y : Result) × (a ≡ built y) × (x ≡ record { a = y.a; b = y.b })
built_so (stopped k r) x e = let o : ◌≡◌ {A = ℕ} 0 1 = cc in absurd (omega arith)
built_so (built y) x e = (y, refl, cc)

-- the ending of a call whose numbers fit
pub packs_ending : {a : Built Result} (x : Returned Done Stop) → RangedBuilt a → told_built x ≡ built_outcome a → PacksEnding x
packs_ending (Err x) h is = tt
packs_ending {a} (Ok x) h is =
    let t = built_so a x is in
    let n = h.numbers t.0 t.1 in
    (omega (arith, n.0, ap (λ (d : Done). d.a) t.2), omega (arith, n.1, ap (λ (d : Done). d.b) t.2))

-- what is returned of it
packed_of : (a : Built Result) (x : Returned Done Stop) → told_built x ≡ built_outcome a → packed_ending x ≡ packed_built a
packed_of a (Err x) is = sym (ap packed_built (stopped_so a x is))
packed_of a (Ok x) is =
    let t = built_so a x is in
    ap (λ (d : Done). packed_ending (Ok d)) t.2 ∙ sym (ap packed_built t.1)

pub returns_built_of : {a : Built Result} {x : Returned Done Stop} {old new : List ℕ} {r : ℕ} → GivesBuilt a x old new → r ≡ packed_ending x → ReturnsBuilt a r old new
returns_built_of {a} {x} g p = record { number = p ∙ packed_of a x g.result; buffer = g.buffer }

-- ---- unpacking

-- the code: 0 of an answer, the number of a refusal
pub code_of_built_lem : (x : Built Result) {r : ℕ} → RangedBuilt x → r ≡ packed_built x → code_in r ≡ code_of_built x
code_of_built_lem (stopped k q) h e = omega (arith, (h.no k q refl).1)
code_of_built_lem (built y) h e = omega arith

-- a: the first number of an answer, the index of a refusal's step
pub a_of_built_lem : (x : Built Result) {r : ℕ} → RangedBuilt x → r ≡ packed_built x → a_in r ≡ a_of_built x
a_of_built_lem (stopped k q) h e = omega (arith, (h.no k q refl).1)
a_of_built_lem (built y) h e = omega (arith, (h.numbers y refl).0)

-- b: the second number of an answer, the place of a refusal
pub b_of_built_lem : (x : Built Result) {r : ℕ} → RangedBuilt x → r ≡ packed_built x → b_in r ≡ b_of_built x
b_of_built_lem (stopped k q) h e = omega (arith, (h.no k q refl).1)
b_of_built_lem (built y) h e = omega (arith, (h.numbers y refl).0)
