-- `lists::first_bad` meets its contract.
-- Assumes nothing.
use mathlib.Core.Path.{◌≡◌, subst}
use Prim.Native.Nat.{◌≤◌, ◌+◌, ◌*◌}
use native.Mathlib.Nat.{mul-le-mul_right}
use native.Mathlib.Omega.{arith}
use Rattle.lists.proofs.FirstBad.{Left, all_left, here_bad, one_on, none_left}
use Rattle.lists.proofs.first_bad.Goals as goal
use Rattle.lists.proofs.first_bad.Goals.{In-loop-k}

-- the id that is looked at is whole in the bytes
inside : (c : In-loop-k) → let a = c.args in let k = c.loop-k.k in
    a.at + k * a.width + a.width ≤ a.at + a.n * a.width
inside c = let a = c.args in
    let l : c.loop-k.k + 1 ≤ a.n = omega arith in
    omega (arith, mul-le-mul_right a.width l)

pub loop-k-init : goal.loop-k-init
loop-k-init c = let a = c.args in (omega arith, all_left a.s.now a.at a.width a.bound a.n)

pub overflow_mul-k : goal.overflow_mul-k
overflow_mul-k c = let l = inside c in omega arith

pub overflow_add-at : goal.overflow_add-at
overflow_add-at c = let l = inside c in omega arith

pub number_at-requires : goal.number_at-requires
number_at-requires c = let l = inside c in record { wide = c.requires.wide; inside = omega arith }

pub returns-then-bound-number_at : goal.returns-then-bound-number_at
returns-then-bound-number_at c =
    let a = c.args in
    let l = c.loop-k in
    here_bad a.s.now a.at a.width a.bound a.n l.k (omega arith) l.invariant.1 (omega (arith, c.number_at.ensures.0))

pub loop-k-preserved : goal.loop-k-preserved
loop-k-preserved c =
    let a = c.args in
    let l = c.loop-k in
    (omega arith, one_on a.s.now a.at a.width a.bound a.n l.k (omega arith) l.invariant.1 (omega (arith, c.number_at.ensures.0)))

pub returns : goal.returns
returns c =
    let a = c.args in
    let l = c.loop-k in
    let all : l.k ≡ a.n = omega arith in
    none_left a.s.now a.at a.width a.bound a.n (subst (Left a.s.now a.at a.width a.bound a.n) all l.invariant.1)
