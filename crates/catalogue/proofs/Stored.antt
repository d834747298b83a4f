-- The priced parts list of stored bytes: what pricing and the call answer.
-- Assumes nothing.
use mathlib.Core.Path.{◌≡◌, refl, sym, ap, ◌∙◌, subst}
use mathlib.Core.List.{List}
use Prim.Native.Nat.{ℕ, ◌≤◌, zero}
use lib.Dec.{leb, eqb}
use lib.ListN.{length}
use borrow.Author.Tests.{leb-true, eqb-true}
use Rattle.le.specs.Le.{Below}
use Rattle.graph.specs.Graph.{Graph}
use Rattle.graph.specs.Answer.{answered, Result, writing, ◌>>◌}
use Rattle.graph.specs.Calls.{unpaired, fit}
use Rattle.graph.specs.Versions.{StoredGraph, read}
use Rattle.graph.proofs.Answers.{worked}
use Rattle.graph.proofs.Steps.{same_answer, passed, came}
use Rattle.graph.proofs.Versions.{read_sound}
use Rattle.catalogue.specs.Price.{parts_check, Priced, priced_graph, price, price_bytes, price_answer, room_price, price_call}
use Rattle.catalogue.specs.Promises.{PricedOf, Small}
use Rattle.catalogue.proofs.Bounds.{graph_small}
use Rattle.catalogue.proofs.Faults.{checked}
use Rattle.catalogue.proofs.Totals.{total_is_cost, parts_and_spiders}

pub unpaired_same : (g h : Graph) → unpaired g ≡ answered h → (length g.pairs ≡ zero) × (g ≡ h)
unfolding unpaired
unpaired_same g h e =
    let p = passed (eqb (length g.pairs) zero) _ (answered g) e in (eqb-true _ _ p.0, same_answer p.1)

pub price_answer_lem : (b : List ℕ) (p : Priced) → price b ≡ answered p → (s : StoredGraph) × PricedOf b s p
unfolding price priced_graph
price_answer_lem b p e =
    let p₁ = came (read b) _ e in
    let s = p₁.0 in
    let g = s.graph in
    let p₂ = came (unpaired g) _ p₁.2 in
    let q = unpaired_same g p₂.0 p₂.1 in
    let rest : (parts_check g.edges >> answered (priced_graph g)) ≡ answered p =
    ap (λ (h : Graph). parts_check h.edges >> answered (priced_graph h)) q.1 ∙ p₂.2 in
    let h = checked (parts_check g.edges) (answered (priced_graph g)) rest in
    let is : priced_graph g ≡ p = same_answer h.1 in (
      s,
      subst (PricedOf b s) is (record {
        stored = p₁.1;
        pairless = q.0;
        in_order = h.0;
        is = refl;
        twelve = refl;
        buffered = refl;
        billed = total_is_cost g h.0;
        all_counted = parts_and_spiders g h.0;
      }),
    )

-- each number fits its field in both versions
pub price_small : (b : List ℕ) (p : Priced) → Below 256 b → price b ≡ answered p → Small p
price_small b p clean e =
    let a = price_answer_lem b p e in
    let sound = read_sound b a.0 clean a.1.stored in
    subst Small (sym a.1.is) (graph_small a.0.graph (sound.version.grows a.0.graph sound.formed))

-- 60 bytes
pub price_length : (b : List ℕ) (p : Priced) → price b ≡ answered p → length (price_bytes p) ≡ 60
unfolding priced_graph
price_length b p e = let a = price_answer_lem b p e in subst (λ (x : Priced). length (price_bytes x) ≡ 60) (sym a.1.is) refl

-- those of the stored graph's parts list are the call's answer
pub price_call_answer : (b : List ℕ) (room work_room : ℕ) (m : Result) → price_call b room work_room ≡ answered m
    → (s : StoredGraph) × (p : Priced) × (price b ≡ answered p) × PricedOf b s p × (m ≡ writing (price_bytes p) 0) × (length (price_bytes p) ≡ 60) × (60 ≤ room)
unfolding price_answer fit
price_call_answer b room work_room m e =
    let p₁ = came (price b) _ (worked room_price work_room (price_answer b room) e) in
    let p = p₁.0 in
    let a = price_answer_lem b p p₁.1 in
    let p₂ = came (fit room (price_bytes p)) _ p₁.2 in
    let q = passed (leb (length (price_bytes p)) room) _ (answered (price_bytes p)) p₂.1 in
    let n = price_length b p p₁.1 in
    (a.0, p, p₁.1, a.1, sym (same_answer p₂.2) ∙ ap (λ (l : List ℕ). writing l 0) (sym (same_answer q.1)), n, subst (λ (k : ℕ). k ≤ room) n (leb-true _ _ q.0))
