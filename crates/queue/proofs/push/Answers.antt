-- `queue::push` meets its contract.
-- Assumes nothing.
use mathlib.Core.List.{List}
use mathlib.Core.Path.{sym, subst}
use Prim.Native.Nat.{ℕ}
use Rattle.le.specs.Le.{words}
use Rattle.le.proofs.Places.{in_words}
use Rattle.queue.specs.Places.{Added}
use Rattle.queue.proofs.Stored.{rises_put}
use Rattle.queue.proofs.push.Goals as goal

pub returns : goal.returns
returns c =
    let a = c.args in
    let o = c.sift_up-gap in
    let w = c.put_key in
    let W = words a.room.now in
    subst (λ (X : List ℕ). Added W X a.base a.n a.k) (sym w.ensures) (rises_put W a.base a.n a.k (in_words a.room.now _ c.requires.n_in_bounds) (words o.new.room) o.result o.ensures)
