-- Packing what the code answered is packing the definition's answer.
-- Assumes nothing.
use mathlib.Core.List.{List}
use mathlib.Core.Path.{◌≡◌, ap, ◌∙◌, sym}
use Prim.Native.Nat.{ℕ}
use native.Mathlib.Omega.{arith}
use Rattle.graph.specs.Answer.{Answer, Result}
use Rattle.std.specs.Prelude.{Ok, Err}
use Rattle.std.specs.Prelude.{Result as Outcome}
use Rattle.form.specs.Form.{told, outcome, Gives, GivesMap}
use Rattle.form.specs.declared.Done.{Done}
use Rattle.form.specs.declared.Refusal.{Refusal}
use Rattle.form.proofs.Answers.{refused_so, answered_so}
use Rattle.packing.specs.Packed.{packed, Returns, ReturnsMap, Ranged, packed_outcome, Packs}

-- the outcome of a call whose numbers fit
pub packs : {a : Answer Result} (x : Outcome Done Refusal) → Ranged a → told x ≡ outcome a → Packs x
packs (Err e) h is = tt
packs {a} (Ok y) h is =
    let t = answered_so _ a y is in
    let n = h.numbers t.0 t.1 in
    (omega (arith, n.0, ap (λ (d : Done). d.a) t.2), omega (arith, n.1, ap (λ (d : Done). d.b) t.2))

-- what is returned of it
pub returned : (a : Answer Result) (x : Outcome Done Refusal) {r : ℕ} → told x ≡ outcome a → r ≡ packed_outcome x → r ≡ packed a
returned a (Err e) is p = p ∙ sym (ap packed (refused_so _ a _ is))
returned a (Ok y) is p =
    let t = answered_so _ a y is in
    p ∙ ap (λ (d : Done). packed_outcome (Ok d)) t.2 ∙ sym (ap packed t.1)

pub returns_of : {a : Answer Result} {x : Outcome Done Refusal} {old new : List ℕ} {r : ℕ} → Gives a x old new → r ≡ packed_outcome x → Returns a r old new
returns_of {a} {x} g p = record { number = returned a x g.result p; buffer = g.buffer }

pub returns_map_of : {a : Answer Result} {x : Outcome Done Refusal} {old new old_map new_map : List ℕ} {r : ℕ} → GivesMap a x old new old_map new_map → r ≡ packed_outcome x
    → ReturnsMap a r old new old_map new_map
returns_map_of {a} {x} g p = record { number = returned a x g.result p; buffer = g.buffer; map = g.map }
