-- Which refusals the priced parts list can give, whatever it is given; 14 and 15 name no place.
-- Assumes nothing.
use mathlib.Core.Bool.{Bool, true, false, ◌&&◌, cond}
use mathlib.Core.List.{List, [], ◌∷◌}
use mathlib.Core.Path.{◌≡◌, refl}
use Prim.Native.Nat.{ℕ, ◌≤◌, ◌<◌}
use lib.Dec.{eqb, leb, ltb}
use lib.ListN.{length}
use borrow.Author.Tests.{leb-true, ltb-true}
use Rattle.graph.specs.Answer.{Answer, answered, refused, Refusal, Result, refusal, ◌else◌, ◌>>◌}
use Rattle.graph.specs.Graph.{Edge}
use Rattle.graph.proofs.Refuses.{Refuses, RefusedBy, answer_by, refusal_by, test_by, step_by, member_passes}
use Rattle.graph.proofs.RefusedBy.{reads_by, unpaired_by, fit_by, work_by}
use Rattle.catalogue.specs.Price.{Kind, kind_of, is_spider, part_check, parts_check, price, price_answer, price_call}
use Rattle.catalogue.specs.RefusedBy.{price_refusals}

else_by : {P : Refusal → Type 0} (c : Bool) (r : Refusal) → P r → Refuses P (c else r)
unfolding ◌else◌
else_by true r h = answer_by tt
else_by false r h = refusal_by r h

then_by : {P : Refusal → Type 0} {A : Type 0} (m : Answer (Unit {0})) (next : Answer A) → Refuses P m → Refuses P next → Refuses P (m >> next)
unfolding ◌>>◌
then_by (refused r) next h k = refusal_by r (h.each r refl)
then_by (answered x) next h k = k

module _ {P : Refusal → Type 0} (fourteen : P (refusal 14)) (fifteen : P (refusal 15)) where
  part_by : (e : Edge) → Refuses P (part_check e)
  unfolding part_check
  part_by e = go (is_spider e)
    where
      k : Kind
      k = kind_of e.label

      go : (b : Bool)
          → Refuses P (cond b (answered tt) ((leb 1 e.label && leb e.label 12 else refusal 14) >> (eqb (length e.sources) k.sources && eqb (length e.targets) k.targets else refusal 15)))
      go true = answer_by tt
      go false = test_by _ _ _ fourteen (else_by _ _ fifteen)

  parts_by : (es : List Edge) → Refuses P (parts_check es)
  unfolding parts_check
  parts_by [] = answer_by tt
  parts_by (e ∷ es) = then_by _ _ (part_by e) (parts_by es)

pub price_by : (b : List ℕ) (room work_room : ℕ) → RefusedBy price_refusals (price_call b room work_room)
unfolding price price_answer
price_by b room work_room =
    let ns : List ℕ = price_refusals in
    work_by ns refl _ work_room _
    (step_by _ _ (step_by _ _ (reads_by ns refl b) (λ s. step_by _ _ (unpaired_by ns refl s.graph) (λ g. then_by _ _ (parts_by refl refl g.edges) (answer_by _)))) (λ p. step_by _ _ (fit_by ns refl room _) (λ list. answer_by _)))

-- so none is 0, and each has one byte
pub price_refused_in : {a : Answer Result} {r : Refusal} → RefusedBy price_refusals a → a ≡ refused r → (1 ≤ r.no) × (r.no < 256)
price_refused_in {r = r} l e =
    let h = l.each r e in
    (leb-true _ _ (member_passes (leb 1) price_refusals r.no refl h), ltb-true _ _ (member_passes (λ n. ltb n 256) price_refusals r.no refl h))

-- an edge at fault is refused by 14 or 15, and no place is named
pub fault_place : (es : List Edge) (r : Refusal) → parts_check es ≡ refused r → r.place ≡ 0
fault_place es r e = (parts_by {P = λ q. q.place ≡ 0} refl refl es).each r e
