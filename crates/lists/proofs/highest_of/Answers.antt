-- `lists::highest_of` meets its contract.
-- Assumes nothing.
use mathlib.Core.Bool.{Bool, true, false}
use mathlib.Core.List.{◌∷◌, [], ◌++◌}
use mathlib.Core.Path.{◌≡◌, refl, sym, ap, ◌∙◌}
use Prim.Native.Nat.{ℕ, ◌≤◌, ◌<◌, ◌+◌, ◌*◌}
use native.Mathlib.Nat.{mul-le-mul_right}
use native.Mathlib.Omega.{arith}
use lib.Dec.{ltb}
use borrow.Author.Tests.{ltb-true, ltb-false}
use Rattle.le.specs.Le.{number_at}
use Rattle.le.specs.Rows.{row_at, entry, span}
use Rattle.le.proofs.Rows.{wide_some, span_next}
use Rattle.lists.specs.Reach.{highest}
use Rattle.lists.proofs.Reach.{highest_next}
use Rattle.lists.proofs.highest_of.Goals as goal
use Rattle.lists.proofs.highest_of.Goals.{After-max-most, In-loop-place}

-- a place before the end is that of an id
before_end : (at n width k place : ℕ) → place ≡ at + k * width → place < at + n * width → k < n
before_end at n width k place e l = go (ltb k n) refl
  where
    go : (c : Bool) → ltb k n ≡ c → k < n
    go true h = ltb-true k n h
    go false h = absurd (omega (arith, mul-le-mul_right width (ltb-false k n h)))

-- past the last id all are looked at
all_looked : (k n width : ℕ) → k ≤ n → 0 < width → n * width ≤ k * width → k ≡ n
all_looked k n width few some past = go (ltb k n) refl
  where
    go : (c : Bool) → ltb k n ≡ c → k ≡ n
    go true h =
        let l : k + 1 ≤ n = omega (arith, ltb-true k n h) in
        absurd (omega (arith, mul-le-mul_right width l))
    go false h = omega (arith, ltb-false k n h)

-- the id that is looked at is one of them, whole in the bytes
inside : (c : In-loop-place) → let l = c.loop-place in let a = c.args in
    (l.invariant.k < a.n) × (l.place + a.width ≤ a.at + a.n * a.width)
inside c = let l = c.loop-place in
    let a = c.args in
    let h = before_end a.at a.n a.width l.invariant.k l.place l.invariant.here c.loop-place-test.true in
    (h, omega (arith, l.invariant.here, mul-le-mul_right c.args.width h))

-- the id that is looked at is one of them, whole in the bytes
inside_2 : (c : After-max-most) → let l = c.loop-place in let a = c.args in
    (l.invariant.k < a.n) × (l.place + a.width ≤ a.at + a.n * a.width)
inside_2 c = let l = c.loop-place in
    let a = c.args in
    let h = before_end a.at a.n a.width l.invariant.k l.place l.invariant.here c.loop-place-test.true in
    (h, omega (arith, l.invariant.here, mul-le-mul_right c.args.width h))

pub loop-place-init : goal.loop-place-init
unfolding span
loop-place-init c = record { k = 0; few = omega arith; here = omega arith; found = refl }

pub number_at-id-requires : goal.number_at-id-requires
number_at-id-requires c =
    let h = inside c in
    record { wide = c.requires.wide; inside = omega arith }

pub overflow_add-place : goal.overflow_add-place
overflow_add-place c = let h = inside_2 c in omega arith

pub loop-place-smaller : goal.loop-place-smaller
loop-place-smaller c =
    let h = inside_2 c in
    let w = wide_some c.requires.wide in
    omega arith

pub loop-place-preserved : goal.loop-place-preserved
unfolding entry
loop-place-preserved c =
    let a = c.args in
    let l = c.loop-place in
    let i = l.invariant in
    let s = a.s.now in
    let r = row_at a.at a.width in
    let done = span s r 0 i.k in
    let place : l.place ≡ a.at + (0 + i.k) * a.width = omega (arith, i.here) in
    let one = (inside_2 c).0 in
    record {
      k = i.k + 1;
      few = omega arith;
      here = omega (arith, i.here);
      found =
          c.max-most.ensures ∙ highest_next l.most c.number_at-id.result done i.found
          ∙ ap (λ (x : ℕ). highest (done ++ (x ∷ []))) (c.number_at-id.ensures.0 ∙ ap (number_at a.width s) place)
          ∙ ap highest (sym (span_next s r 0 i.k));
    }

pub returns : goal.returns
returns c =
    let a = c.args in
    let i = c.loop-place.invariant in
    let w = wide_some c.requires.wide in
    let all : i.k ≡ a.n = all_looked i.k a.n a.width i.few (omega arith) (omega (arith, i.here, c.loop-place-test.false)) in
    i.found ∙ ap (λ (m : ℕ). highest (span a.s.now (row_at a.at a.width) 0 m)) all
