-- `removal::seed` meets its contract.
-- Assumes nothing.
use mathlib.Core.List.{List}
use mathlib.Core.Path.{◌≡◌, sym, ap, ◌∙◌, subst}
use Prim.Native.Nat.{ℕ, ◌+◌, ◌*◌, min}
use native.Mathlib.Omega.{arith}
use borrow.Author.Tests.{eq-eqb, ne_eqb}
use lib.ListN.{get_or, set}
use Rattle.le.specs.Le.{words}
use Rattle.le.proofs.Places.{in_words}
use Rattle.halves.specs.Halves.{seed}
use Rattle.tables.specs.Tables.{waiting_at, picked_at}
use Rattle.removal.specs.Room.{halves_in, Went}
use Rattle.removal.proofs.Seeding.{seed_loose, seed_none}
use Rattle.removal.proofs.seed.Goals as goal

pub returns-then-min-ne0 : goal.returns-then-min-ne0
returns-then-min-ne0 c =
    let a = c.args in
    let i = c.word-indegree.ensures in
    let o = c.word-outdegree.ensures in
    let m = c.min.ensures in
    (seed_none (words a.room.now) a.n a.end a.x (omega arith) (omega arith) (omega arith) (in_words a.room.now picked_at (omega arith)) (λ e. c.if-min-ne0.true (omega (arith, m, i))) (λ e. c.if-min-ne0.true (omega (arith, m, o))), omega arith)

pub returns : goal.returns
returns c =
    let a = c.args in
    let W = words a.room.now in
    let i = c.word-indegree.ensures in
    let o = c.word-outdegree.ensures in
    let m = c.min.ensures in
    let r = c.word-indegree.result in
    let side = c.from in
    let least : min (get_or W (2 * a.x) 0) (get_or W (2 * a.x + 1) 0) ≡ 0 = sym (m ∙ (λ k. min (i k) (o k))) ∙ c.if-min-ne0.false in
    let is : words c.set_word-3.new.room ≡ set (set (set W (2 * a.x) 0) (2 * a.x + 1) 0) (waiting_at + a.end) (2 * a.x + side.result) =
    c.set_word-3.ensures
    ∙ ap (λ (X : List ℕ). set X (waiting_at + a.end) (2 * a.x + side.result)) (c.set_word-2.ensures ∙ ap (λ (X : List ℕ). set X (2 * a.x + 1) 0) c.set_word.ensures) in (
      subst (λ (X : List ℕ). Went W X a.n (a.end + 1) (seed a.x (halves_in W a.n a.end))) (sym is)
          (seed_loose W a.n a.end a.x (omega arith) (omega arith) (omega arith) (in_words a.room.now picked_at (omega arith)) side.result (λ e. side.ensures ∙ rw (eq-eqb r 0 (i ∙ e))) (λ l. side.ensures ∙ rw (ne_eqb r 0 (λ e. omega (arith, i)))) least),
      omega arith,
    )
