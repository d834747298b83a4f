-- `links::put_side` meets its contract.
-- Assumes nothing.
use mathlib.Core.Path.{◌≡◌, ap, ◌∙◌}
use Prim.Native.Nat.{ℕ, ◌+◌, ◌-◌}
use lib.ListN.{length}
use Rattle.le.specs.Rows.{puts}
use Rattle.write.proofs.Results.{put_then}
use native.Mathlib.Omega.{arith}
use Rattle.links.proofs.put_side.Goals as goal

pub returns : goal.returns
returns c = λ es h e.
    let a = c.args in
    let p = c.put_itself in
    let q = c.put_chain in
    let place : p.result + a.n - length es ≡ p.result = omega arith in
    put_then p.ensures (record { stored = q.ensures es h ∙ ap (λ (j : ℕ). puts p.new.out a.r j es) place; next = omega arith })
