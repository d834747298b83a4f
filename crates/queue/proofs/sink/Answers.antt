-- `queue::sink` meets its contract.
-- Assumes nothing.
use mathlib.Core.List.{List}
use mathlib.Core.Path.{sym, subst}
use Prim.Native.Nat.{ℕ}
use native.Mathlib.Omega.{arith}
use Rattle.le.specs.Le.{words}
use Rattle.le.proofs.Places.{in_words}
use Rattle.queue.specs.Places.{Replaced}
use Rattle.queue.proofs.Stored.{sinks_put, keys_length}
use Rattle.queue.proofs.sink.Goals as goal

pub put_key-requires : goal.put_key-requires
put_key-requires c =
    let o = c.sift_down-gap in
    let a = c.args in
    omega (arith, o.ensures.sinking.inside, keys_length (words a.room.now) a.base a.n)

pub returns : goal.returns
returns c =
    let a = c.args in
    let o = c.sift_down-gap in
    let w = c.put_key in
    let W = words a.room.now in
    subst (λ (X : List ℕ). Replaced W X a.base a.n a.k) (sym w.ensures) (sinks_put W a.base a.n a.k (in_words a.room.now _ c.requires.n_nonzero.1) (words o.new.room) o.result o.ensures)
