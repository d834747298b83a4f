-- `parts::check_part` meets its contract.
-- Assumes nothing.
use mathlib.Core.Logic.{⊎_elim}
use mathlib.Core.Path.{◌≡◌, sym, ap, ◌∙◌}
use Prim.Native.Nat.{ℕ}
use native.Mathlib.Omega.{arith}
use Rattle.form.specs.Form.{tested}
use Rattle.graph.specs.Graph.{Edge, spider}
use Rattle.parts.specs.declared.KindRow.{KindRow}
use Rattle.parts.specs.Parts.{InCatalogue, row_of}
use Rattle.catalogue.specs.Price.{kind_of}
use Rattle.parts.proofs.Checking.{spider_passes, below_14, above_14, sources_15, targets_15, part_passes}
use Rattle.parts.proofs.check_part.Goals as goal
use Rattle.parts.proofs.check_part.Goals.{After-kind_row-row, Else-label-eq-SPIDER}

-- an edge of this label is no spider
plain : (c : Else-label-eq-SPIDER) (e : Edge) → e.label ≡ c.args.label → e.label ≡ spider → ⊥
plain c e l q = c.if-label-eq-SPIDER.false (sym l ∙ q)

-- and of a kind
inside : (c : After-kind_row-row) (e : Edge) → e.label ≡ c.args.label → InCatalogue e.label
inside c e l = record { low = omega arith; high = omega arith }

row : (c : After-kind_row-row) (e : Edge) → e.label ≡ c.args.label → c.kind_row-row.result ≡ row_of (kind_of e.label)
row c e l = c.kind_row-row.ensures ∙ ap (λ (n : ℕ). row_of (kind_of n)) (sym l)

sources : (c : After-kind_row-row) (e : Edge) → e.label ≡ c.args.label → c.kind_row-row.result.sources ≡ (kind_of e.label).sources
sources c e l = ap (λ (r : KindRow). r.sources) (row c e l)

targets : (c : After-kind_row-row) (e : Edge) → e.label ≡ c.args.label → c.kind_row-row.result.targets ≡ (kind_of e.label).targets
targets c e l = ap (λ (r : KindRow). r.targets) (row c e l)

pub returns-then-label-eq-SPIDER : goal.returns-then-label-eq-SPIDER
returns-then-label-eq-SPIDER c = λ e l s t. sym (ap tested (spider_passes e (l ∙ c.if-label-eq-SPIDER.true)))

pub returns-then-label-lt1 : goal.returns-then-label-lt1
returns-then-label-lt1 c = λ e l s t.
    let p = plain (goal.at.returns-then-label-lt1 c).Else-label-eq-SPIDER e l in
    sym (ap tested (⊎_elim (λ a. below_14 e p (omega arith)) (λ a. above_14 e p (omega (arith, a.0)) (omega (arith, a.1))) c.then-label-lt1.either))

pub returns-then-sources-row : goal.returns-then-sources-row
returns-then-sources-row c = λ e l s t.
    let r = (goal.at.returns-then-sources-row c).After-kind_row-row in
    let p = plain (goal.at.returns-then-sources-row c).Else-label-eq-SPIDER e l in
    sym (ap tested (⊎_elim (λ a. sources_15 e p (inside r e l) (λ q. a (sym s ∙ q ∙ sym (sources r e l))))
    (λ a. targets_15 e p (inside r e l) (s ∙ a.0 ∙ sources r e l) (λ q. a.1 (sym t ∙ q ∙ sym (targets r e l)))) c.then-sources-row.either))

pub returns : goal.returns
returns c = λ e l s t.
    let r = (goal.at.returns c).After-kind_row-row in
    sym (ap tested (part_passes e (plain (goal.at.returns c).Else-label-eq-SPIDER e l) (inside r e l) (s ∙ c.if-sources-row.false ∙ sources r e l) (t ∙ c.if-targets-row.false ∙ targets r e l)))
