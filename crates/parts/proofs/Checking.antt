-- The check of one edge, test by test.
-- Assumes nothing.
use mathlib.Core.Path.{◌≡◌}
use Prim.Native.Nat.{◌≤◌, ◌<◌}
use lib.ListN.{length}
use borrow.Author.Tests.{le-leb, lt-leb, eq-eqb, ne_eqb}
use Rattle.graph.specs.Graph.{Edge, spider}
use Rattle.graph.specs.Answer.{refused, answered, refusal, ◌else◌, ◌>>◌}
use Rattle.parts.specs.Parts.{InCatalogue}
use Rattle.catalogue.specs.Price.{kind_of, part_check}

module _ (e : Edge) where
  pub spider_passes : e.label ≡ spider → part_check e ≡ answered tt
  unfolding part_check
  spider_passes q = rw (eq-eqb e.label spider q)

  module _ (plain : e.label ≡ spider → ⊥) where
    pub below_14 : e.label < 1 → part_check e ≡ refused (refusal 14)
    unfolding part_check ◌else◌ ◌>>◌
    below_14 l = rw (ne_eqb e.label spider plain, lt-leb 1 e.label l)

    pub above_14 : 1 ≤ e.label → 12 < e.label → part_check e ≡ refused (refusal 14)
    unfolding part_check ◌else◌ ◌>>◌
    above_14 l h = rw (ne_eqb e.label spider plain, le-leb 1 e.label l, lt-leb e.label 12 h)

    module _ (k : InCatalogue e.label) where
      pub sources_15 : (length e.sources ≡ (kind_of e.label).sources → ⊥) → part_check e ≡ refused (refusal 15)
      unfolding part_check ◌else◌ ◌>>◌
      sources_15 s = rw (ne_eqb e.label spider plain, le-leb 1 e.label k.low, le-leb e.label 12 k.high, ne_eqb (length e.sources) (kind_of e.label).sources s)

      module _ (s : length e.sources ≡ (kind_of e.label).sources) where
        pub targets_15 : (length e.targets ≡ (kind_of e.label).targets → ⊥) → part_check e ≡ refused (refusal 15)
        unfolding part_check ◌else◌ ◌>>◌
        targets_15 t =
            rw (ne_eqb e.label spider plain, le-leb 1 e.label k.low, le-leb e.label 12 k.high, eq-eqb (length e.sources) (kind_of e.label).sources s, ne_eqb (length e.targets) (kind_of e.label).targets t)

        pub part_passes : length e.targets ≡ (kind_of e.label).targets → part_check e ≡ answered tt
        unfolding part_check ◌else◌ ◌>>◌
        part_passes t =
            rw (ne_eqb e.label spider plain, le-leb 1 e.label k.low, le-leb e.label 12 k.high, eq-eqb (length e.sources) (kind_of e.label).sources s, eq-eqb (length e.targets) (kind_of e.label).targets t)
