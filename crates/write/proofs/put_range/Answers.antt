-- `write::put_range` meets its contract.
-- Assumes nothing.
use mathlib.Core.Path.{◌≡◌, sym, ap, ◌∙◌}
use mathlib.Core.List.{◌∷◌, []}
use Prim.Native.Nat.{ℕ, ◌+◌}
use native.Mathlib.Nat.{le_antisymm}
use native.Mathlib.Omega.{arith}
use lib.ListN.{length}
use Rattle.graph.specs.Lists.{range}
use Rattle.graph.proofs.Lists.{length_range, range_add}
use Rattle.le.specs.Rows.{puts}
use Rattle.le.proofs.Rows.{holds_less, holds_same, holds_index, length_puts, puts_none, puts_append}
use Rattle.write.proofs.put_range.Goals as goal

pub loop-i-init : goal.loop-i-init
loop-i-init c = (omega arith, sym (puts_none _ c.args.r c.args.k))

pub overflow_add-k : goal.overflow_add-k
overflow_add-k c = omega (arith, holds_index c.requires.0)

pub put_number-requires : goal.put_number-requires
put_number-requires c =
    let l = c.loop-i in (
      holds_same (holds_less c.requires.0 _ (omega arith)) l.out (ap length l.invariant.1 ∙ length_puts _ _ _ _),
      omega arith,
    )

pub loop-i-preserved : goal.loop-i-preserved
loop-i-preserved c =
    let a = c.args in
    let l = c.loop-i in
    let v = a.from + l.i in
    let place : a.k + l.i ≡ a.k + length (range a.from l.i) = ap (λ (n : ℕ). a.k + n) (sym (length_range a.from l.i)) in (
      omega arith,
      c.put_number.ensures ∙ (λ i. puts (l.invariant.1 i) a.r (place i) (v ∷ []))
          ∙ puts_append a.out.now a.r a.k (range a.from l.i) (v ∷ []) ∙ ap (puts a.out.now a.r a.k) (sym (range_add a.from l.i 1)),
    )

pub returns : goal.returns
returns c =
    let l = c.loop-i in
    rw (← le_antisymm l.invariant.0 c.loop-i-test.false) l.invariant.1
