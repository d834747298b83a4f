-- `classes::join` meets its contract.
-- Assumes nothing.
use mathlib.Core.List.{List}
use mathlib.Core.Path.{sym, ◌∙◌, subst}
use Prim.Native.Nat.{ℕ}
use native.Mathlib.Omega.{arith}
use Rattle.le.specs.Le.{words}
use Rattle.classes.specs.Forest.{Joins}
use Rattle.classes.proofs.Trees.{words_fit, join_less, join_more, join_same}
use Rattle.classes.proofs.join.Goals as goal

pub returns-then-r-s : goal.returns-then-r-s
returns-then-r-s c =
    let f = c.find-s in
    let e = c.find-r in
    let a = c.args in
    let W = words a.room.now in
    let room = words_fit f.new.room _ a.n (f.auto.room ∙ e.auto.room) c.requires.n_in_bounds.0 in
    subst (λ (X : List ℕ). Joins a.n W X a.v a.w) (sym c.set_word.ensures)
    (join_less a.n W (words e.new.room) (words f.new.room) a.v a.w e.result f.result e.ensures f.ensures c.requires.n_in_bounds.1 c.requires.n_in_bounds.2 room c.if-r-s.true)

pub returns-then-s-r : goal.returns-then-s-r
returns-then-s-r c =
    let f = c.find-s in
    let e = c.find-r in
    let a = c.args in
    let W = words a.room.now in
    let room = words_fit f.new.room _ a.n (f.auto.room ∙ e.auto.room) c.requires.n_in_bounds.0 in
    subst (λ (X : List ℕ). Joins a.n W X a.v a.w) (sym c.set_word-then-s-r.ensures)
    (join_more a.n W (words e.new.room) (words f.new.room) a.v a.w e.result f.result e.ensures f.ensures c.requires.n_in_bounds.1 c.requires.n_in_bounds.2 room c.if-s-r.true)

pub returns-else-s-r : goal.returns-else-s-r
returns-else-s-r c =
    let f = c.find-s in
    let e = c.find-r in
    let a = c.args in
    let W = words a.room.now in
    let room = words_fit f.new.room _ a.n (f.auto.room ∙ e.auto.room) c.requires.n_in_bounds.0 in
    join_same a.n W (words e.new.room) (words f.new.room) a.v a.w e.result f.result e.ensures f.ensures c.requires.n_in_bounds.1 c.requires.n_in_bounds.2 room (omega arith)
