-- The ways out of a header's counts: one of them is above its limit, or none is.
-- Assumes nothing.
use mathlib.Core.Bool.{Bool, true, false, ◌&&◌}
use mathlib.Core.List.{List}
use mathlib.Core.Path.{◌≡◌, refl, sym, ap, ◌∙◌}
use Prim.Native.Nat.{ℕ, ◌+◌, ◌*◌, ◌≤◌}
use native.Mathlib.Omega.{arith}
use lib.Dec.{leb}
use lib.ListN.{length}
use borrow.Author.Tests.{leb-true, leb-false}
use Rattle.graph.specs.Answer.{refused, answered, ◌carrying◌}
use Rattle.graph.specs.Form.{header_bytes}
use Rattle.graph.specs.Graph.{Counts, Format, counts_fit}
use Rattle.graph.specs.Read.{counts_at, read_counts}
use Rattle.graph.proofs.ReadWrite.{fits_within}
use Rattle.graph.proofs.Verdicts.{nodes_4, edges_4, sources_4, targets_4, pairs_4, header_0}
use Rattle.header.specs.Header.{count_above}

module _ (f : Format) (b : List ℕ) (whole : header_bytes f ≤ length b) where
  abbrev c : Counts
  c = counts_at f b

  -- the header is refused for the first count above its limit, one of five
  abbrev Above : Type 0
  Above = (count_above f c ≤ 4) × (read_counts f b ≡ refused (4 carrying 5 + count_above f c * f.width))

  -- it is count k, whose place is this
  is_count : (k place : ℕ) → count_above f c ≡ k → k ≤ 4 → place ≡ 5 + k * f.width → read_counts f b ≡ refused (4 carrying place) → Above
  is_count k place e few at h =
      (omega arith, h ∙ ap (λ (p : ℕ). refused (4 carrying p)) (at ∙ ap (λ (n : ℕ). 5 + n * f.width) (sym e)))

  -- the tests, one after the other
  fifth : leb c.nodes f.most.nodes ≡ true → leb c.edges f.most.edges ≡ true → leb c.sources f.most.sources ≡ true
      → leb c.targets f.most.targets ≡ true → leb c.pairs f.most.pairs ≡ false → Above
  fifth n e s t q =
      is_count 4 (5 + 4 * f.width) (rw (n, e, s, t)) (omega arith) refl
      (pairs_4 f b whole (leb-true _ _ n) (leb-true _ _ e) (leb-true _ _ s) (leb-true _ _ t) (leb-false _ _ q))

  fourth : leb c.nodes f.most.nodes ≡ true → leb c.edges f.most.edges ≡ true → leb c.sources f.most.sources ≡ true
      → (t : Bool) → leb c.targets f.most.targets ≡ t → (t && leb c.pairs f.most.pairs) ≡ false → Above
  fourth n e s true t q = fifth n e s t q
  fourth n e s false t q =
      is_count 3 (5 + 3 * f.width) (rw (n, e, s, t)) (omega arith) refl (targets_4 f b whole (leb-true _ _ n) (leb-true _ _ e) (leb-true _ _ s) (leb-false _ _ t))

  third : leb c.nodes f.most.nodes ≡ true → leb c.edges f.most.edges ≡ true → (t : Bool) → leb c.sources f.most.sources ≡ t
      → (t && (leb c.targets f.most.targets && leb c.pairs f.most.pairs)) ≡ false → Above
  third n e true s q = fourth n e s (leb c.targets f.most.targets) refl q
  third n e false s q = is_count 2 (5 + 2 * f.width) (rw (n, e, s)) (omega arith) refl (sources_4 f b whole (leb-true _ _ n) (leb-true _ _ e) (leb-false _ _ s))

  second : leb c.nodes f.most.nodes ≡ true → (t : Bool) → leb c.edges f.most.edges ≡ t
      → (t && (leb c.sources f.most.sources && (leb c.targets f.most.targets && leb c.pairs f.most.pairs))) ≡ false → Above
  second n true e q = third n e (leb c.sources f.most.sources) refl q
  second n false e q = is_count 1 (5 + f.width) (rw (n, e)) (omega arith) (omega arith) (edges_4 f b whole (leb-true _ _ n) (leb-false _ _ e))

  first : (t : Bool) → leb c.nodes f.most.nodes ≡ t
      → (t && (leb c.edges f.most.edges && (leb c.sources f.most.sources && (leb c.targets f.most.targets && leb c.pairs f.most.pairs)))) ≡ false
      → Above
  first true n q = second n (leb c.edges f.most.edges) refl q
  first false n q = is_count 0 5 (rw n) (omega arith) (omega arith) (nodes_4 f b whole (leb-false _ _ n))

  pub counts_above : counts_fit f (counts_at f b) ≡ false → (count_above f (counts_at f b) ≤ 4) × (read_counts f b ≡ refused (4 carrying 5 + count_above f (counts_at f b) * f.width))
  counts_above q = first (leb c.nodes f.most.nodes) refl q

  pub counts_within : counts_fit f (counts_at f b) ≡ true → read_counts f b ≡ answered (counts_at f b)
  counts_within h = header_0 f b whole (fits_within f (counts_at f b) h)
