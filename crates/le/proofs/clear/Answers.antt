-- `le::clear` meets its contract.
-- Assumes nothing.
use mathlib.Core.List.{List, ◌++◌}
use mathlib.Core.Path.{sym, ap, ◌∙◌}
use Prim.Native.Nat.{ℕ}
use native.Mathlib.Omega.{arith}
use lib.ListN.{drop, replicate, length-replicate}
use lib.Seq.{length-take-le}
use Rattle.le.proofs.Stores.{sets_front}
use Rattle.le.proofs.clear.Goals as goal

pub returns : goal.returns
returns c = let a = c.args in
    let zeros = replicate a.n 0 in
    let long = length-replicate {A = ℕ} a.n 0 in
    ap (λ (l : List ℕ). l ++ drop a.n a.d.now) (c.fill.ensures.after (λ y e. e) ∙ ap (λ (k : ℕ). replicate k 0) (length-take-le a.n a.d.now c.requires))
    ∙ ap (λ (k : ℕ). zeros ++ drop k a.d.now) (sym long) ∙ sym (sets_front a.d.now zeros (omega arith))
