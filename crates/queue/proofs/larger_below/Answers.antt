-- `queue::larger_below` meets its contract.
-- Assumes nothing.
use native.Mathlib.Omega.{arith}
use Rattle.le.specs.Le.{words}
use Rattle.queue.proofs.Stored.{larger_left, larger_right}
use Rattle.queue.proofs.larger_below.Goals as goal

pub returns-then-a-b : goal.returns-then-a-b
returns-then-a-b c =
    let a = c.args in
    let b = c.beside-right in
    let more = c.key_at-a.ensures in
    (larger_right (words a.room.now) a.base a.n a.i b.result (omega arith) b.ensures.1 b.ensures.2 b.ensures.0 (omega (arith, more, c.key_at-b.ensures)), c.key_at-b.ensures)

pub returns : goal.returns
returns c =
    let a = c.args in
    let b = c.beside-right in
    let more = c.key_at-a.ensures in
    (larger_left (words a.room.now) a.base a.n a.i b.result (omega arith) b.ensures.1 b.ensures.2 (omega (arith, more, c.key_at-b.ensures)), more)
