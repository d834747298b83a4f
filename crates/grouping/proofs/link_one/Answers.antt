-- `grouping::link_one` meets its contract.
-- Assumes nothing.
use mathlib.Core.Path.{ap, ◌∙◌}
use Prim.Native.Nat.{ℕ, ◌+◌, ◌*◌, ◌<◌}
use lib.ListN.{get_or, set}
use Rattle.le.specs.Le.{words}
use Rattle.ledger.specs.Tables.{next_at, first_at}
use Rattle.grouping.proofs.Walks.{half_low}
use native.Mathlib.Omega.{arith}
use Rattle.grouping.proofs.link_one.Goals as goal
use Rattle.grouping.proofs.link_one.Goals.{After-set_word-arg-2-1, After-word-half}

-- the half that was read
low : (c : After-word-half) → c.word-half.result < 2 * c.args.z.edges
low c = omega (arith, c.word-half.ensures, half_low (words c.args.room.now) c.args.z c.requires.0 c.args.k c.requires.1)

-- the half that was read
low_2 : (c : After-set_word-arg-2-1) → c.word-half.result < 2 * c.args.z.edges
low_2 c = omega (arith, c.word-half.ensures, half_low (words c.args.room.now) c.args.z c.requires.0 c.args.k c.requires.1)

pub overflow_mul-k : goal.overflow_mul-k
overflow_mul-k c = let f = c.requires.0.few in omega (arith, c.requires.1)

pub overflow_add-k : goal.overflow_add-k
overflow_add-k c = let f = c.requires.0.few in omega (arith, c.requires.1)

pub word-half-requires : goal.word-half-requires
word-half-requires c = let f = c.requires.0.few in omega (arith, c.requires.1, c.requires.2)

pub overflow_add-half : goal.overflow_add-half
overflow_add-half c = let w = c.requires.0.within in omega (arith, low c)

pub word-next-requires : goal.word-next-requires
word-next-requires c = let w = c.requires.0.within in omega (arith, low c, c.requires.2)

pub overflow_add-k-2 : goal.overflow_add-k-2
overflow_add-k-2 c = let f = c.requires.0.few in omega (arith, c.requires.1)

pub set_word-requires : goal.set_word-requires
set_word-requires c = let f = c.requires.0.few in omega (arith, c.requires.1, c.requires.2)

pub overflow_add-half-2 : goal.overflow_add-half-2
overflow_add-half-2 c = let w = c.requires.0.within in omega (arith, low_2 c)

pub overflow_add-k-3 : goal.overflow_add-k-3
overflow_add-k-3 c = let f = c.requires.0.few in omega (arith, c.requires.1)

pub overflow_cast-k : goal.overflow_cast-k
overflow_cast-k c = let f = c.requires.0.few in omega (arith, c.requires.1)

pub set_word-requires-2 : goal.set_word-requires-2
set_word-requires-2 c = let w = c.requires.0.within in omega (arith, low_2 c, c.requires.2, c.set_word.auto.room)

pub returns : goal.returns
returns c =
    let a = c.args in
    let W = words a.room.now in
    let half = c.word-half.ensures in
    let next = c.word-next.ensures ∙ ap (λ (h : ℕ). get_or W (first_at + h) 0) half in
    c.set_word-2.ensures ∙ (λ i. set ((c.set_word.ensures ∙ ap (set W (next_at + a.k)) next) i) (first_at + half i) (a.k + 1))
