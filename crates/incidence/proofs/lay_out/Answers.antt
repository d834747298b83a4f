-- `incidence::lay_out` meets its contract.
-- Assumes nothing.
use mathlib.Core.List.{List}
use mathlib.Core.Path.{◌≡◌, refl, sym, ap, ◌∙◌, subst}
use Prim.Native.Nat.{ℕ, ◌+◌, ◌*◌, ◌≤◌, ◌<◌}
use native.Mathlib.Omega.{arith}
use lib.ListN.{get_or, set}
use Rattle.le.specs.Le.{words}
use Rattle.le.proofs.Places.{length_words}
use Rattle.halves.specs.Halves.{mate, sum_to}
use Rattle.halves.proofs.Sums.{sum_apart}
use Rattle.tables.specs.Tables.{most_ports, lists_at}
use Rattle.incidence.specs.Incidence.{LaidOut}
use Rattle.incidence.proofs.Laying.{laid_start, laid_turn, degree_read, sum_next}
use Rattle.incidence.proofs.lay_out.Goals as goal
use Rattle.incidence.proofs.lay_out.Goals.{At-loop-y, After-word-size}

-- the sum so far, and with the next list
few : (c : At-loop-y) → let a = c.args in let l = c.loop-y in
    l.y < a.n → l.sum + get_or (words a.room.now) (mate l.y) 0 ≤ most_ports
few c h = let a = c.args in
    let l = c.loop-y in
    omega (arith, l.invariant.2, sum_apart (λ u. get_or (words a.room.now) (mate u) 0) l.y a.n (omega arith))

-- the words after both writes
both : (c : After-word-size) → let l = c.loop-y in
    words c.set_word-in-loop-y.new.room ≡ set (set (words l.room) (lists_at + 2 * l.y) l.sum) (lists_at + 2 * l.y + 1) 0
both c = let l = c.loop-y in
    c.set_word-in-loop-y.ensures ∙ ap (λ (W : List ℕ). set W (lists_at + 2 * l.y + 1) 0) c.set_word.ensures

size : (c : After-word-size) → let a = c.args in
    let l = c.loop-y in c.word-size.result ≡ get_or (words a.room.now) (mate l.y) 0
size c = let a = c.args in
    let l = c.loop-y in
    c.word-size.ensures ∙ ap (λ (W : List ℕ). get_or W (mate l.y) 0) (both c)
    ∙ degree_read (words a.room.now) (words l.room) l.y l.sum l.invariant.1 l.invariant.2 (omega arith) (omega (arith, length_words a.room.now))

pub loop-y-init : goal.loop-y-init
unfolding sum_to
loop-y-init c = let a = c.args in (omega arith, laid_start (words a.room.now), refl, refl)

pub overflow_cast-sum : goal.overflow_cast-sum
overflow_cast-sum c = omega (arith, few (goal.at.overflow_cast-sum c).At-loop-y (omega arith))

pub overflow_add-sum : goal.overflow_add-sum
overflow_add-sum c = omega (arith, size c, few (goal.at.overflow_add-sum c).At-loop-y (omega arith))

pub loop-y-preserved : goal.loop-y-preserved
loop-y-preserved c =
    let a = c.args in
    let l = c.loop-y in
    let W = words a.room.now in (
      omega arith,
      subst (λ (X : List ℕ). LaidOut W X (l.y + 1)) (sym (both c))
          (laid_turn W (words l.room) l.y l.sum l.invariant.1 l.invariant.2 (omega arith) (omega (arith, length_words a.room.now))),
      sum_next W l.sum l.y c.word-size.result l.invariant.2 (size c),
      c.set_word-in-loop-y.auto.room ∙ c.set_word.auto.room ∙ l.invariant.3,
    )
