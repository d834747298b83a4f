-- `additions::put_words` meets its contract.
-- Assumes nothing.
use mathlib.Core.Path.{ap, ◌∙◌}
use Prim.Native.Nat.{◌^◌}
use Rattle.le.specs.Le.{Below, words}
use Rattle.le.specs.Rows.{span}
use Rattle.le.proofs.Numbers.{below_each, below_widen}
use Rattle.le.proofs.Rows.{length_span, span_below, wide_low}
use Rattle.ledger.proofs.Rooms.{words_puts}
use native.Mathlib.Omega.{arith}
use Rattle.additions.proofs.put_words.Goals as goal

pub returns : goal.returns
returns c =
    let a = c.args in
    let clean = below_each 256 a.s.now (λ i l. (c.type_inv.s i).fits) in
    let ns = span a.s.now a.r a.j a.n in
    let low : Below (2 ^ 32) ns = below_widen ns (wide_low c.requires.0.wide) (span_below a.s.now a.r a.j a.n clean) in
    ap words c.copy_numbers.ensures ∙ words_puts a.room.now a.off ns (omega (arith, length_span a.s.now a.r a.j a.n)) low
