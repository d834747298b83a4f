-- `classes::find` meets its contract.
-- Assumes nothing.
use mathlib.Core.Path.{◌≡◌, refl, sym, ◌∙◌, subst}
use Prim.Native.Nat.{ℕ, ◌≤◌, ◌<◌}
use native.Mathlib.Omega.{arith}
use mathlib.Core.List.{List}
use lib.ListN.{get_or, set}
use Rattle.le.specs.Le.{words}
use Rattle.classes.specs.Forest.{Climbed}
use Rattle.classes.proofs.Trees.{words_fit, climb_start, climb_inside, climb_step, climb_done}
use Rattle.classes.proofs.find.Goals as goal
use Rattle.classes.proofs.find.Goals.{In-loop-p}

-- the word that was read is no higher than the node, which is a node
inside : (c : In-loop-p) → (c.loop-p.p ≤ c.loop-p.x) × (c.loop-p.x < c.args.n)
inside c = let a = c.args in
    let l = c.loop-p in
    climb_inside a.n (words a.room.now) (words l.room) a.v l.x l.invariant.0 (words_fit l.room _ a.n l.invariant.2 c.requires.n_in_bounds.0) c.requires.n_in_bounds.1 l.p l.invariant.1

-- a turn
step : (c : In-loop-p) (q : ℕ) → q ≡ get_or (words c.loop-p.room) c.loop-p.p 0
    → Climbed c.args.n (words c.args.room.now)
    (set (words c.loop-p.room) c.loop-p.x q) c.args.v q
    × (q < c.loop-p.x)
step c q e = let a = c.args in
    let l = c.loop-p in
    climb_step a.n (words a.room.now) (words l.room) a.v l.x l.invariant.0 (words_fit l.room _ a.n l.invariant.2 c.requires.n_in_bounds.0) c.requires.n_in_bounds.1 l.p l.invariant.1 q e c.loop-p-test.true

pub loop-p-init : goal.loop-p-init
loop-p-init c =
    let a = c.args in
    (climb_start a.n (words a.room.now) a.v c.requires.falls, c.word-p.ensures, refl)

pub word-q-requires : goal.word-q-requires
word-q-requires c = omega (arith, inside (goal.at.word-q-requires c).In-loop-p)

pub set_word-requires : goal.set_word-requires
set_word-requires c = omega (arith, inside (goal.at.set_word-requires c).In-loop-p)

pub word-p-requires-in-loop-p : goal.word-p-requires-in-loop-p
word-p-requires-in-loop-p c = omega (arith, inside (goal.at.word-p-requires-in-loop-p c).In-loop-p, (step (goal.at.word-p-requires-in-loop-p c).In-loop-p _ c.word-q.ensures).1)

pub loop-p-smaller : goal.loop-p-smaller
loop-p-smaller c = (step (goal.at.loop-p-smaller c).In-loop-p _ c.word-q.ensures).1

pub loop-p-preserved : goal.loop-p-preserved
loop-p-preserved c =
    let a = c.args in
    let w = c.set_word in (
      subst (λ (X : List ℕ). Climbed a.n (words a.room.now) X a.v c.word-q.result) (sym w.ensures) (step (goal.at.loop-p-preserved c).In-loop-p _ c.word-q.ensures).0,
      c.word-p-in-loop-p.ensures,
      w.auto.room ∙ c.loop-p.invariant.2,
    )

pub returns : goal.returns
returns c =
    let a = c.args in
    let l = c.loop-p in
    climb_done a.n (words a.room.now) (words l.room) a.v l.x l.invariant.0 (words_fit l.room _ a.n l.invariant.2 c.requires.n_in_bounds.0) c.requires.n_in_bounds.1 (sym l.invariant.1 ∙ c.loop-p-test.false)
