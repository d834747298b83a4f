-- "edges in order, the first at fault decides"; and what an edge in order is.
-- Assumes nothing.
use mathlib.Core.Path.{◌≡◌, refl, sym, ap, ◌∙◌}
use mathlib.Core.Bool.{Bool, true, false, ◌&&◌, cond, and-eq-true_iff}
use mathlib.Core.List.{List, [], ◌∷◌, ◌++◌}
use mathlib.Core.Logic.{◌⊎◌, inl, inr, ◌↔◌}
use lib.Dec.{eqb, leb}
use lib.ListN.{length}
use borrow.Author.Tests.{leb-true, eqb-true}
use Rattle.graph.specs.Graph.{Edge}
use Rattle.graph.specs.Answer.{Answer, refused, answered, Refusal, refusal, ◌else◌, ◌>>◌}
use Rattle.graph.proofs.Steps.{never, passed}
use Rattle.catalogue.specs.Price.{Kind, kind_of, is_spider, part_check, parts_check}
use Rattle.catalogue.specs.Promises.{OfKind, FirstFault}

pub one : (a : Answer (Unit {0})) → (a ≡ answered tt) ⊎ ((r : Refusal) × (a ≡ refused r))
one (refused r) = inr (r, refl)
one (answered t) = inl refl

pub then_goes : {A : Type 0} (a : Answer (Unit {0})) (next : Answer A) → a ≡ answered tt → (a >> next) ≡ next
unfolding ◌>>◌
then_goes a next e = rw e

pub then_stops : {A : Type 0} (a : Answer (Unit {0})) (next : Answer A) (r : Refusal) → a ≡ refused r → (a >> next) ≡ refused r
unfolding ◌>>◌
then_stops a next r e = rw e

pub checked : {A : Type 0} (a : Answer (Unit {0})) (next : Answer A) {x : A} → (a >> next) ≡ answered x → (a ≡ answered tt) × (next ≡ answered x)
unfolding ◌>>◌
checked (refused r) next e = absurd (never e)
checked (answered t) next e = (refl, e)

else_true : (c : Bool) (r : Refusal) → (c else r) ≡ answered tt → c ≡ true
unfolding ◌else◌
else_true true r e = refl
else_true false r e = absurd (never e)

-- edges in order, and others after them
pub parts_append : (xs ys : List Edge) → parts_check xs ≡ answered tt → parts_check (xs ++ ys) ≡ parts_check ys
unfolding parts_check
parts_append [] ys p = refl
parts_append (e ∷ xs) ys p =
    let q = checked (part_check e) (parts_check xs) p in
    then_goes (part_check e) (parts_check (xs ++ ys)) q.0 ∙ parts_append xs ys q.1

fault_there : (es : List Edge) (r : Refusal) → parts_check es ≡ refused r → FirstFault es r
unfolding parts_check
fault_there [] r p = absurd (never (sym p))
fault_there (e ∷ es) r p = go (one (part_check e)) (fault_there es r)
  where
    go : (part_check e ≡ answered tt) ⊎ ((q : Refusal) × (part_check e ≡ refused q)) → (parts_check es ≡ refused r → FirstFault es r) → FirstFault (e ∷ es) r
    go (inl q) later =
        let h = later (sym (then_goes (part_check e) (parts_check es) q) ∙ p) in
        record {
          before = e ∷ h.before;
          edge = h.edge;
          after = h.after;
          split = λ i. e ∷ h.split i;
          in_order = then_goes (part_check e) (parts_check h.before) q ∙ h.in_order;
          fault = h.fault;
        }
    go (inr q) later =
        record { before = []; edge = e; after = es; split = refl; in_order = refl; fault = q.1 ∙ sym (then_stops (part_check e) (parts_check es) q.0 q.1) ∙ p }

fault_back : (es : List Edge) (r : Refusal) → FirstFault es r → parts_check es ≡ refused r
unfolding parts_check
fault_back es r h =
    ap parts_check h.split ∙ parts_append h.before (h.edge ∷ h.after) h.in_order
    ∙ then_stops (part_check h.edge) (parts_check h.after) r h.fault

pub refused_iff_first_fault : (es : List Edge) (r : Refusal) → (parts_check es ≡ refused r) ↔ FirstFault es r
refused_iff_first_fault es r = (fault_there es r, fault_back es r)

-- an edge in order is a spider, or of one of the twelve kinds, with its ports
pub part_in_order : (e : Edge) → part_check e ≡ answered tt → (is_spider e ≡ true) ⊎ OfKind e
unfolding part_check
part_in_order e p = go (is_spider e) refl p
  where
    k : Kind
    k = kind_of e.label

    go : (b : Bool) → is_spider e ≡ b
        → cond b (answered tt) ((leb 1 e.label && leb e.label 12 else refusal 14) >> (eqb (length e.sources) k.sources && eqb (length e.targets) k.targets else refusal 15)) ≡ answered tt
        → (is_spider e ≡ true) ⊎ OfKind e
    go true q r = inl q
    go false q r =
        let h = passed (leb 1 e.label && leb e.label 12) (refusal 14) _ r in
        let a = (and-eq-true_iff (leb 1 e.label) (leb e.label 12)).0 h.0 in
        let c = (and-eq-true_iff (eqb (length e.sources) k.sources) (eqb (length e.targets) k.targets)).0 (else_true _ (refusal 15) h.1) in
        inr (record { plain = q; low = leb-true _ _ a.0; high = leb-true _ _ a.1; sources = eqb-true _ _ c.0; targets = eqb-true _ _ c.1 })
