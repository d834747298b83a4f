-- `le::copy_each` meets its contract.
-- Assumes nothing.
use mathlib.Core.Path.{◌≡◌, sym, ap, ◌∙◌}
use mathlib.Core.List.{◌∷◌, []}
use Prim.Native.Nat.{ℕ, ◌+◌}
use native.Mathlib.Omega.{arith}
use lib.ListN.{length}
use Rattle.le.specs.Rows.{entry, span, puts}
use Rattle.le.proofs.Rows.{length_span, span_next, puts_none, puts_append}
use Rattle.le.proofs.copy_each.Goals as goal

pub loop-i-init : goal.loop-i-init
unfolding span
loop-i-init c = (omega arith, sym (puts_none _ c.args.to c.args.k))

pub loop-i-preserved : goal.loop-i-preserved
loop-i-preserved c = let a = c.args in
    let l = c.loop-i in
    let done = span a.s.now a.from a.j l.i in
    let v = entry a.s.now a.from (a.j + l.i) in
    let place : a.k + l.i ≡ a.k + length done = ap (λ (n : ℕ). a.k + n) (sym (length_span a.s.now a.from a.j l.i)) in (
      omega arith,
      c.put_number.ensures
          ∙ (λ i. puts (l.invariant.1 i) a.to (place i) (c.number.ensures.0 i ∷ []))
          ∙ puts_append a.d.now a.to a.k done (v ∷ []) ∙ ap (puts a.d.now a.to a.k) (sym (span_next a.s.now a.from a.j l.i)),
    )
