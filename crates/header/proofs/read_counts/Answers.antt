-- `header::read_counts` meets its contract.
-- Assumes nothing.
use mathlib.Core.Path.{◌≡◌, refl, sym, ap, ◌∙◌, subst}
use Prim.Native.Nat.{ℕ, ◌+◌, ◌*◌, ◌≤◌}
use native.Mathlib.Nat.{mul-le-mul_right}
use native.Mathlib.Omega.{arith}
use borrow.Author.Tests.{not-true, not-false}
use Rattle.form.specs.Form.{meant, counts_of, sized}
use Rattle.graph.specs.Answer.{refused, answered, ◌carrying◌}
use Rattle.graph.specs.Graph.{counts_fit}
use Rattle.graph.specs.Read.{counts_at, read_counts}
use Rattle.graph.proofs.Verdicts.{header_5}
use Rattle.le.proofs.Rows.{wide_some}
use Rattle.header.specs.Header.{count_above, header_read}
use Rattle.header.proofs.Header.{counts_above, counts_within}
use Rattle.header.proofs.read_counts.Goals as goal
use Rattle.header.proofs.read_counts.Goals.{After-count_above-k, Else-not-counts_fit}

-- the counts that were read are those at their places, and the test is of these
counts : (c : After-count_above-k) → let a = c.args in c.counts_at-z.result ≡ sized a.f.width (counts_at (meant a.f) a.s.now) 0
counts c = c.counts_at-z.ensures (meant c.args.f) refl

tested : (c : After-count_above-k) → let a = c.args in
    counts_fit (meant a.f) (counts_at (meant a.f) a.s.now) ≡ c.counts_fit.result
tested c = let a = c.args in
    ap (counts_fit (meant a.f)) (ap counts_of (sym (counts c))) ∙ sym c.counts_fit.ensures

-- one of the counts is above its limit
above : (c : After-count_above-k) → let a = c.args in
    (c.count_above-k.result ≤ 4) × (read_counts (meant a.f) a.s.now ≡ refused (4 carrying 5 + c.count_above-k.result * a.f.width))
above c = let a = c.args in
    let e = c.count_above-k.ensures ∙ ap (count_above (meant a.f)) (ap counts_of (counts c)) in
    subst (λ (k : ℕ). (k ≤ 4) × (read_counts (meant a.f) a.s.now ≡ refused (4 carrying 5 + k * a.f.width))) (sym e)
    (counts_above (meant a.f) a.s.now (omega arith) (tested c ∙ not-true _ c.if-not-counts_fit.true-raw))

-- so its place is in the header
low : (c : After-count_above-k) → c.count_above-k.result * c.args.f.width ≤ 16
low c = let w = wide_some c.requires in
    omega (arith, mul-le-mul_right c.args.f.width (above c).0)

-- the counts that were read are those at their places, and the test is of these
counts_2 : (c : Else-not-counts_fit) → let a = c.args in c.counts_at-z.result ≡ sized a.f.width (counts_at (meant a.f) a.s.now) 0
counts_2 c = c.counts_at-z.ensures (meant c.args.f) refl

tested_2 : (c : Else-not-counts_fit) → let a = c.args in
    counts_fit (meant a.f) (counts_at (meant a.f) a.s.now) ≡ c.counts_fit.result
tested_2 c = let a = c.args in
    ap (counts_fit (meant a.f)) (ap counts_of (sym (counts_2 c))) ∙ sym c.counts_fit.ensures

pub overflow_mul-width : goal.overflow_mul-width
overflow_mul-width c = let l = wide_some c.requires in omega arith

pub overflow_add-width : goal.overflow_add-width
overflow_add-width c = let l = wide_some c.requires in omega arith

pub returns-then-s-width : goal.returns-then-s-width
returns-then-s-width c = let a = c.args in sym (ap (header_read a.f.width) (header_5 (meant a.f) a.s.now (omega arith)))

pub overflow_mul-result : goal.overflow_mul-result
overflow_mul-result c = let l = low c in omega arith

pub overflow_add-result : goal.overflow_add-result
overflow_add-result c = let l = low c in omega arith

pub returns-then-not-counts_fit : goal.returns-then-not-counts_fit
returns-then-not-counts_fit c = let a = c.args in sym (ap (header_read a.f.width) (above c).1)

pub returns : goal.returns
returns c =
    let a = c.args in
    ap answered (counts_2 c)
    ∙ sym (ap (header_read a.f.width) (counts_within (meant a.f) a.s.now (omega arith) (tested_2 c ∙ not-false _ c.if-not-counts_fit.false-raw)))
