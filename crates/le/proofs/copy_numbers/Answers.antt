-- `le::copy_numbers` meets its contract.
-- Assumes nothing.
use mathlib.Core.Path.{◌≡◌, sym, ap, ◌∙◌}
use Prim.Native.Nat.{ℕ, ◌*◌}
use lib.ListN.{take, drop}
use lib.Seq.{sets}
use Rattle.le.specs.Rows.{place_in}
use Rattle.le.proofs.Numbers.{below_each}
use Rattle.le.proofs.Rows.{puts_run}
use Rattle.le.proofs.copy_numbers.Goals as goal

pub returns-then-to-w : goal.returns-then-to-w
returns-then-to-w c = let a = c.args in
    let e : a.to.width ≡ a.from.width = c.if-to-w.true in
    let clean = below_each 256 a.s.now (λ i l. (c.type_inv.s i).fits) in
    c.copy.ensures ∙ ap (λ (w : ℕ). sets a.d.now (place_in a.to a.k) (take (a.n * w) (drop (place_in a.from a.j) a.s.now))) (sym e)
    ∙ sym (puts_run a.d.now a.s.now a.to a.from a.k a.j a.n clean e c.requires.1)
