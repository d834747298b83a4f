-- `edges::bad_place` meets its contract.
-- Assumes nothing.
use mathlib.Core.Path.{◌≡◌, sym, ap, ◌∙◌, subst}
use Prim.Native.Nat.{ℕ, ◌≤◌, ◌-◌, ◌+◌, ◌*◌}
use native.Mathlib.Nat.{mul-le-mul_right}
use native.Mathlib.Omega.{arith}
use lib.ListN.{length, drop}
use Rattle.graph.specs.Lists.{first_bad}
use Rattle.graph.proofs.Lists.{first_bad_most}
use Rattle.le.specs.Le.{numbers}
use Rattle.le.proofs.Numbers.{length_numbers}
use Rattle.edges.specs.Walk.{ports_at, edge_end, Spans, bad_place}
use Rattle.edges.proofs.Walk.{spans_next, edge_bad, edge_good}
use Rattle.edges.proofs.bad_place.Goals as goal
use Rattle.edges.proofs.bad_place.Goals.{After-first_bad, After-ports_at-n, Else-k-n, In-loop-i, Then-k-n}

-- the next edge is whole, and the others follow it
next_edge : (c : In-loop-i) → let a = c.args in let l = c.loop-i in
    (edge_end a.width a.s.now l.at ≤ length a.s.now) × Spans a.width a.s.now (edge_end a.width a.s.now l.at) (a.edges - (l.i + 1)) a.lists
next_edge c = let a = c.args in
    let l = c.loop-i in
    spans_next a.width a.s.now l.at a.lists a.edges l.i (omega arith) l.invariant.1

-- the next edge is whole, and the others follow it
next_edge_2 : (c : After-ports_at-n) → let a = c.args in let l = c.loop-i in
    (edge_end a.width a.s.now l.at ≤ length a.s.now) × Spans a.width a.s.now (edge_end a.width a.s.now l.at) (a.edges - (l.i + 1)) a.lists
next_edge_2 c = let a = c.args in
    let l = c.loop-i in
    spans_next a.width a.s.now l.at a.lists a.edges l.i (omega arith) l.invariant.1

-- the place after it
end_of : (c : After-ports_at-n) → let a = c.args in let at = c.loop-i.at in
    at + 2 * a.width + c.ports_at-n.result * a.width ≡ edge_end a.width a.s.now at
end_of c = let a = c.args in
    let at = c.loop-i.at in
    ap (λ (n : ℕ). at + 2 * a.width + n * a.width) c.ports_at-n.ensures.0 ∙ omega arith

-- the next edge is whole, and the others follow it
next_edge_3 : (c : Then-k-n) → let a = c.args in let l = c.loop-i in
    (edge_end a.width a.s.now l.at ≤ length a.s.now) × Spans a.width a.s.now (edge_end a.width a.s.now l.at) (a.edges - (l.i + 1)) a.lists
next_edge_3 c = let a = c.args in
    let l = c.loop-i in
    spans_next a.width a.s.now l.at a.lists a.edges l.i (omega arith) l.invariant.1

-- the place after it
end_of_2 : (c : Then-k-n) → let a = c.args in let at = c.loop-i.at in
    at + 2 * a.width + c.ports_at-n.result * a.width ≡ edge_end a.width a.s.now at
end_of_2 c = let a = c.args in
    let at = c.loop-i.at in
    ap (λ (n : ℕ). at + 2 * a.width + n * a.width) c.ports_at-n.ensures.0 ∙ omega arith

-- the place of the one that is found is before the edge's end
in_edge : (c : Then-k-n) → let a = c.args in let at = c.loop-i.at in
    at + 2 * a.width + c.first_bad-k.result * a.width ≤ length a.s.now
in_edge c = let a = c.args in
    let h = (next_edge_3 c).0 in
    let l : c.first_bad-k.result ≤ c.ports_at-n.result = omega arith in
    omega (arith, end_of_2 c, mul-le-mul_right a.width l)

-- what is found in it
found : (c : Then-k-n) → let a = c.args in let at = c.loop-i.at in
    c.first_bad-k.result ≡ first_bad a.bound (numbers a.width (ports_at a.width a.s.now at) (drop (at + 2 * a.width) a.s.now))
found c = let a = c.args in
    let at = c.loop-i.at in
    c.first_bad-k.ensures ∙ ap (λ (n : ℕ). first_bad a.bound (numbers a.width n (drop (at + 2 * a.width) a.s.now))) c.ports_at-n.ensures.0

-- the next edge is whole, and the others follow it
next_edge_4 : (c : Else-k-n) → let a = c.args in let l = c.loop-i in
    (edge_end a.width a.s.now l.at ≤ length a.s.now) × Spans a.width a.s.now (edge_end a.width a.s.now l.at) (a.edges - (l.i + 1)) a.lists
next_edge_4 c = let a = c.args in
    let l = c.loop-i in
    spans_next a.width a.s.now l.at a.lists a.edges l.i (omega arith) l.invariant.1

-- the place after it
end_of_3 : (c : Else-k-n) → let a = c.args in let at = c.loop-i.at in
    at + 2 * a.width + c.ports_at-n.result * a.width ≡ edge_end a.width a.s.now at
end_of_3 c = let a = c.args in
    let at = c.loop-i.at in
    ap (λ (n : ℕ). at + 2 * a.width + n * a.width) c.ports_at-n.ensures.0 ∙ omega arith

-- what is found in it
found_2 : (c : Else-k-n) → let a = c.args in let at = c.loop-i.at in
    c.first_bad-k.result ≡ first_bad a.bound (numbers a.width (ports_at a.width a.s.now at) (drop (at + 2 * a.width) a.s.now))
found_2 c = let a = c.args in
    let at = c.loop-i.at in
    c.first_bad-k.ensures ∙ ap (λ (n : ℕ). first_bad a.bound (numbers a.width n (drop (at + 2 * a.width) a.s.now))) c.ports_at-n.ensures.0

-- the place that is found after the edges is at most their end
in_lists : (c : After-first_bad) → let a = c.args in
    a.lists + c.first_bad.result * a.width ≤ length a.s.now
in_lists c = let a = c.args in
    let row = numbers a.width a.ids (drop a.lists a.s.now) in
    let l : c.first_bad.result ≤ a.ids = omega (arith, c.first_bad.ensures, first_bad_most a.bound row, length_numbers a.width a.ids (drop a.lists a.s.now)) in
    omega (arith, c.requires.0.inside, mul-le-mul_right a.width l)

pub loop-i-init : goal.loop-i-init
loop-i-init c = let all : c.args.edges - 0 ≡ c.args.edges = omega arith in (omega arith, rw all c.requires.1, rw all)

pub ports_at-n-requires : goal.ports_at-n-requires
ports_at-n-requires c = let h = (next_edge c).0 in record { wide = c.requires.0.wide; inside = omega arith }

pub overflow_mul-first : goal.overflow_mul-first
overflow_mul-first c = let h = (next_edge_2 c).0 in omega arith

pub overflow_add-first : goal.overflow_add-first
overflow_add-first c = let h = (next_edge_2 c).0 in omega arith

pub first_bad-k-requires : goal.first_bad-k-requires
first_bad-k-requires c =
    let h = (next_edge_2 c).0 in
    record { wide = c.requires.0.wide; inside = omega (arith, end_of c) }

pub overflow_mul-result : goal.overflow_mul-result
overflow_mul-result c = let h = in_edge c in omega arith

pub overflow_add-result : goal.overflow_add-result
overflow_add-result c = let h = in_edge c in omega arith

pub returns-then-k-n : goal.returns-then-k-n
returns-then-k-n c =
    let a = c.args in
    let l = c.loop-i in
    sym (edge_bad a.width a.s.now l.at a.lists a.edges l.i (omega arith) a.bound a.ids c.first_bad-k.result (found c)
    (omega (arith, c.ports_at-n.ensures.0)))
    ∙ l.invariant.2

pub overflow_mul-at : goal.overflow_mul-at
overflow_mul-at c = let h = (next_edge_4 c).0 in omega (arith, end_of_3 c)

pub overflow_add-at : goal.overflow_add-at
overflow_add-at c = let h = (next_edge_4 c).0 in omega (arith, end_of_3 c)

pub loop-i-preserved : goal.loop-i-preserved
loop-i-preserved c =
    let a = c.args in
    let l = c.loop-i in
    let end = end_of_3 c in (
      omega arith,
      subst (λ (p : ℕ). Spans a.width a.s.now p (a.edges - (l.i + 1)) a.lists) (sym end) (next_edge_4 c).1,
      ap (λ (p : ℕ). bad_place a.width a.bound a.s.now p (a.edges - (l.i + 1)) a.ids) end
          ∙ sym (edge_good a.width a.s.now l.at a.lists a.edges l.i (omega arith) a.bound a.ids c.first_bad-k.result (found_2 c)
          (omega (arith, c.ports_at-n.ensures.0)))
          ∙ l.invariant.2,
    )

pub first_bad-requires : goal.first_bad-requires
first_bad-requires c = c.requires.0

pub overflow_mul-result-2 : goal.overflow_mul-result-2
overflow_mul-result-2 c = let h = in_lists c in omega arith

pub overflow_add-result-2 : goal.overflow_add-result-2
overflow_add-result-2 c = let h = in_lists c in omega arith

pub returns : goal.returns
returns c =
    let a = c.args in
    let l = c.loop-i in
    let none : a.edges - l.i ≡ 0 = omega arith in
    let here : l.at ≡ a.lists = subst (λ (n : ℕ). Spans a.width a.s.now l.at n a.lists) none l.invariant.1 in
    ap (λ (k : ℕ). a.lists + k * a.width) c.first_bad.ensures
    ∙ ap (λ (p : ℕ). bad_place a.width a.bound a.s.now p 0 a.ids) (sym here)
    ∙ subst (λ (n : ℕ). bad_place a.width a.bound a.s.now l.at n a.ids ≡ bad_place a.width a.bound a.s.now a.start a.edges a.ids) none l.invariant.2
