-- `classes::join_all` meets its contract.
-- Assumes nothing.
use mathlib.Core.Path.{◌≡◌, refl, sym, ◌∙◌, subst}
use Prim.Native.Nat.{ℕ, ◌+◌, ◌-◌, ◌<◌}
use native.Mathlib.Omega.{arith}
use Rattle.le.specs.Le.{words}
use Rattle.le.proofs.Rows.{holds_less, holds_index}
use Rattle.classes.proofs.Pairs.{JoinedFrom, pair_ends, pairs_start, pairs_turn}
use Rattle.classes.proofs.join_all.Goals as goal
use Rattle.classes.proofs.join_all.Goals.{After-number-w}

-- the ids that were read are the pair's, and nodes
ends : (c : After-number-w) → (c.number-v.result < c.args.n) × (c.number-w.result < c.args.n)
ends c = let a = c.args in
    let l = c.loop-j in
    let k = pair_ends a.src.now a.r a.k a.m (l.j - 1) (omega arith) a.n c.requires.n_in_bounds.3 in
    (subst (λ (x : ℕ). x < a.n) (sym c.number-v.ensures.0) k.0, subst (λ (x : ℕ). x < a.n) (sym c.number-w.ensures.0) k.1)

pub loop-j-init : goal.loop-j-init
loop-j-init c = let a = c.args in (omega arith, pairs_start a.src.now a.r a.k a.m a.n (words a.room.now) c.requires.forest, refl)

pub overflow_mul-at : goal.overflow_mul-at
overflow_mul-at c = omega (arith, holds_index c.requires.n_in_bounds.2)

pub overflow_add-at : goal.overflow_add-at
overflow_add-at c = omega (arith, holds_index c.requires.n_in_bounds.2)

pub number-v-requires : goal.number-v-requires
number-v-requires c = holds_less c.requires.n_in_bounds.2 _ (omega arith)

pub overflow_add-at-in-loop-j : goal.overflow_add-at-in-loop-j
overflow_add-at-in-loop-j c = omega (arith, holds_index c.requires.n_in_bounds.2)

pub number-w-requires : goal.number-w-requires
number-w-requires c = holds_less c.requires.n_in_bounds.2 _ (omega arith)

pub join-requires : goal.join-requires
join-requires c = let e = (goal.at.join-requires c).After-number-w in record { n_in_bounds = (omega (arith, c.requires.n_in_bounds.0), (ends e).0, (ends e).1, c.requires.n_in_bounds.1); falls = c.loop-j.invariant.1.falls }

pub loop-j-preserved : goal.loop-j-preserved
loop-j-preserved c =
    let a = c.args in
    let l = c.loop-j in
    let v = c.number-v in
    let w = c.number-w in
    let o = c.join in
    let e : l.j ≡ l.j - 1 + 1 = omega arith in (
      omega arith,
      pairs_turn a.src.now a.r a.k a.m (l.j - 1) (omega arith) a.n (words l.room) (words o.new.room) v.result w.result v.ensures.0 w.ensures.0
          (subst (λ (i : ℕ). JoinedFrom a.src.now a.r a.k a.m a.n i (words l.room)) e l.invariant.1) o.ensures,
      o.auto.room ∙ l.invariant.2,
    )

pub returns : goal.returns
returns c =
    let a = c.args in
    let l = c.loop-j in
    let e : l.j ≡ 0 = omega arith in
    subst (λ (i : ℕ). JoinedFrom a.src.now a.r a.k a.m a.n i (words l.room)) e l.invariant.1
