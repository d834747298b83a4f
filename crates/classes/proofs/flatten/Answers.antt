-- `classes::flatten` meets its contract.
-- Assumes nothing.
use mathlib.Core.List.{List}
use mathlib.Core.Path.{refl, sym, ◌∙◌, subst}
use Prim.Native.Nat.{◌+◌, ◌≤◌, ◌<◌}
use native.Mathlib.Nat.{le_antisymm}
use native.Mathlib.Omega.{arith}
use Rattle.le.specs.Le.{words}
use Rattle.classes.specs.Forest.{Flattened}
use Rattle.classes.proofs.Trees.{words_fit, flat_start, flat_low, flat_turn, flat_done}
use Rattle.classes.proofs.flatten.Goals as goal
use Rattle.classes.proofs.flatten.Goals.{After-word-p}

-- the word that was read is no higher than the node
low : (c : After-word-p) → c.word-p.result ≤ c.loop-v.v
low c = let a = c.args in
    let l = c.loop-v in
    let h : l.v < a.n = omega arith in
    flat_low a.n (words a.room.now) (words l.room) l.v l.invariant.1 (words_fit l.room _ a.n l.invariant.2 c.requires.n_in_bounds) h c.word-p.result _ c.word-p.ensures refl

pub loop-v-init : goal.loop-v-init
loop-v-init c = let a = c.args in (omega arith, flat_start a.n (words a.room.now) c.requires.falls, refl)

pub word-q-requires : goal.word-q-requires
word-q-requires c = omega (arith, low c)

pub loop-v-preserved : goal.loop-v-preserved
loop-v-preserved c =
    let a = c.args in
    let l = c.loop-v in
    let w = c.set_word in
    let h : l.v < a.n = omega arith in (
      omega arith,
      subst (λ (X : List _). Flattened a.n (words a.room.now) X (l.v + 1)) (sym w.ensures)
          (flat_turn a.n (words a.room.now) (words l.room) l.v l.invariant.1 (words_fit l.room _ a.n l.invariant.2 c.requires.n_in_bounds) h
          c.word-p.result c.word-q.result c.word-p.ensures c.word-q.ensures),
      w.auto.room ∙ l.invariant.2,
    )

pub returns : goal.returns
returns c =
    let a = c.args in
    let l = c.loop-v in
    let e = le_antisymm l.invariant.0 c.loop-v-test.false in
    flat_done a.n (words a.room.now) (words l.room) (subst (Flattened a.n (words a.room.now) (words l.room)) e l.invariant.1)
