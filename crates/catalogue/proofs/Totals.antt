-- The exact total is the sum of counts times prices, with the buffers; and every edge is counted or a spider.
-- Assumes nothing.
use mathlib.Core.Path.{◌≡◌, refl, sym, ap, ◌∙◌}
use mathlib.Core.Bool.{Bool, true, false, cond}
use mathlib.Core.List.{List, [], ◌∷◌, map}
use mathlib.Core.Logic.{◌⊎◌, inl, inr}
use Prim.Native.Nat.{ℕ, zero, suc, ◌+◌, ◌-◌, ◌*◌, ◌≤◌, ◌<◌}
use native.Mathlib.Nat.{lt_irrefl, not-suc-le-zero}
use native.Mathlib.Omega.{arith}
use lib.Dec.{eqb, lit≤}
use lib.ListN.{length, get_or}
use borrow.Author.Tests.{eqb-true, eq-eqb, ne_eqb}
use Rattle.graph.specs.Lists.{range}
use Rattle.graph.specs.Graph.{Edge, Graph, spider}
use Rattle.graph.specs.Answer.{answered, refused, Refusal}
use Rattle.choice.specs.Arcs.{bump, how_many}
use Rattle.choice.specs.Drawing.{chosen}
use Rattle.graph.proofs.Steps.{never}
use Rattle.catalogue.specs.Price.{Kind, kind, catalogue, kind_of, buffer_price, is_spider, part_check, parts_check, of_kind, edge_price, edges_price, priced_graph}
use Rattle.catalogue.specs.Promises.{OfKind, cost, sum}
use Rattle.catalogue.proofs.Faults.{one, then_goes, then_stops, part_in_order}

-- ---- sums over the edges are sums over the kinds. Said once for any weight of a kind: its price, or one

module _ (weight : Kind → ℕ) where
  -- over the edges
  unfoldable pub weigh : List Edge → ℕ
  weigh [] = 0
  weigh (e ∷ es) = cond (is_spider e) 0 (weight (kind_of e.label)) + weigh es

  -- over kinds from `from` on, c of each
  unfoldable pub weigh_kinds : ℕ → (ℕ → ℕ) → List Kind → ℕ
  weigh_kinds from c [] = 0
  weigh_kinds from c (k ∷ ks) = c from * weight k + weigh_kinds (suc from) c ks

  -- one more of a kind that is not among them
  miss : (label from : ℕ) (c : ℕ → ℕ) (ks : List Kind) → (label < from) ⊎ (from + length ks ≤ label)
      → weigh_kinds from (λ k. bump (eqb label k) (c k)) ks ≡ weigh_kinds from c ks
  unfolding weigh_kinds
  miss label from c [] o = refl
  miss label from c (k ∷ ks) o =
      rw (ne_eqb label from (other o)) (ap (λ (n : ℕ). c from * weight k + n) (miss label (suc from) c ks (on o)))
    where
      other : (label < from) ⊎ (from + suc (length ks) ≤ label) → label ≡ from → ⊥
      other (inl l) e = lt_irrefl from (omega arith)
      other (inr l) e = lt_irrefl from (omega arith)

      on : (label < from) ⊎ (from + suc (length ks) ≤ label) → (label < suc from) ⊎ (suc from + length ks ≤ label)
      on (inl l) = inl (omega arith)
      on (inr l) = inr (omega arith)

  -- one more of the i-th
  hit : (label from i : ℕ) (c : ℕ → ℕ) (ks : List Kind) (d : Kind) → label ≡ from + i → i < length ks
      → weigh_kinds from (λ k. bump (eqb label k) (c k)) ks ≡ weight (get_or ks i d) + weigh_kinds from c ks
  unfolding weigh_kinds
  hit label from i c [] d e l = absurd (not-suc-le-zero l)
  hit label from zero c (k ∷ ks) d e l =
      rw (eq-eqb label from (omega arith), miss label (suc from) c ks (inl (omega arith))) (omega arith)
  hit label from (suc i) c (k ∷ ks) d e l =
      let n : label ≡ from → ⊥ = λ q. lt_irrefl from (omega arith) in
      let q : label ≡ suc from + i = omega arith in
      let r = hit label (suc from) i c ks d q (omega arith) in
      rw (ne_eqb label from n, r) (omega arith)

  none_counted : (from : ℕ) (ks : List Kind) → 0 ≡ weigh_kinds from (λ k. 0) ks
  unfolding weigh_kinds
  none_counted from [] = refl
  none_counted from (k ∷ ks) = omega (arith, none_counted (suc from) ks)

  pub weigh_kinds_lem : (es : List Edge) → parts_check es ≡ answered tt → weigh es ≡ weigh_kinds 1 (of_kind es) catalogue
  unfolding weigh parts_check of_kind how_many kind_of
  weigh_kinds_lem [] p = none_counted 1 catalogue
  weigh_kinds_lem (e ∷ es) p = go (one (part_check e)) (weigh_kinds_lem es)
    where
      c : ℕ → ℕ
      c k = how_many (λ x. eqb x.label k) es

      add : (is_spider e ≡ true) ⊎ OfKind e → weigh es ≡ weigh_kinds 1 c catalogue
          → cond (is_spider e) 0 (weight (kind_of e.label)) + weigh es ≡ weigh_kinds 1 (λ k. bump (eqb e.label k) (c k)) catalogue
      add (inl q) r = rw (q, miss e.label 1 c catalogue (inr (rw (eqb-true e.label spider q) (lit≤ tt))), r) (omega arith)
      add (inr q) r =
          let a : e.label ≡ 1 + (e.label - 1) = omega (arith, q.low) in
          let b : e.label - 1 < 12 = omega (arith, q.low, q.high) in
          rw (q.plain, hit e.label 1 (e.label - 1) c catalogue (kind "" 0 0 0) a b, r) refl

      go : (part_check e ≡ answered tt) ⊎ ((m : Refusal) × (part_check e ≡ refused m)) → (parts_check es ≡ answered tt → weigh es ≡ weigh_kinds 1 c catalogue)
          → cond (is_spider e) 0 (weight (kind_of e.label)) + weigh es ≡ weigh_kinds 1 (λ k. bump (eqb e.label k) (c k)) catalogue
      go (inl q) r = add (part_in_order e q) (r (sym (then_goes (part_check e) (parts_check es) q) ∙ p))
      go (inr q) r = absurd (never (sym (then_stops (part_check e) (parts_check es) q.0 q.1) ∙ p))

-- ---- the exact total

prices_weigh : (es : List Edge) → edges_price es ≡ weigh (λ k. k.price) es
unfolding edges_price edge_price weigh
prices_weigh [] = refl
prices_weigh (e ∷ es) = ap (λ (n : ℕ). cond (is_spider e) 0 (kind_of e.label).price + n) (prices_weigh es)

cost_weigh : (from : ℕ) (c : ℕ → ℕ) (ks : List Kind) → cost (map c (range from (length ks))) ks ≡ weigh_kinds (λ k. k.price) from c ks
unfolding cost weigh_kinds
cost_weigh from c [] = refl
cost_weigh from c (k ∷ ks) = ap (λ (n : ℕ). c from * k.price + n) (cost_weigh (suc from) c ks)

-- the total is what the counted parts cost, and the buffers
pub total_is_cost : (g : Graph) → parts_check g.edges ≡ answered tt
    → (priced_graph g).total ≡ cost (priced_graph g).counts catalogue + buffer_price * (priced_graph g).buffers
unfolding priced_graph
total_is_cost g p =
    ap (λ (n : ℕ). n + buffer_price * length (chosen g).ids)
    (prices_weigh g.edges ∙ weigh_kinds_lem (λ k. k.price) g.edges p ∙ sym (cost_weigh 1 (of_kind g.edges) catalogue))

-- every edge is a spider or counted as a part
ones_weigh : (es : List Edge) → weigh (λ k. 1) es + how_many is_spider es ≡ length es
unfolding weigh how_many
ones_weigh [] = refl
ones_weigh (e ∷ es) = go (is_spider e) (ones_weigh es)
  where
    go : (b : Bool) → weigh (λ k. 1) es + how_many is_spider es ≡ length es → cond b 0 1 + weigh (λ k. 1) es + bump b (how_many is_spider es) ≡ suc (length es)
    go true r = omega arith
    go false r = omega arith

sum_weigh : (from : ℕ) (c : ℕ → ℕ) (ks : List Kind) → sum (map c (range from (length ks))) ≡ weigh_kinds (λ k. 1) from c ks
unfolding sum weigh_kinds
sum_weigh from c [] = refl
sum_weigh from c (k ∷ ks) = omega (arith, sum_weigh (suc from) c ks)

pub parts_and_spiders : (g : Graph) → parts_check g.edges ≡ answered tt → sum (priced_graph g).counts + how_many is_spider g.edges ≡ length g.edges
unfolding priced_graph
parts_and_spiders g p =
    ap (λ (n : ℕ). n + how_many is_spider g.edges) (sum_weigh 1 (of_kind g.edges) catalogue ∙ sym (weigh_kinds_lem (λ k. 1) g.edges p))
    ∙ ones_weigh g.edges
