-- `copying::put_spider_labels` meets its contract.
-- Assumes nothing.
use mathlib.Core.List.{[], ◌∷◌}
use mathlib.Core.Path.{◌≡◌, sym, ap, ◌∙◌}
use Prim.Native.Nat.{ℕ, ◌+◌}
use native.Mathlib.Nat.{le_antisymm}
use lib.ListN.{length, replicate, length-replicate, replicate-append-replicate}
use Rattle.graph.specs.Graph.{spider}
use Rattle.le.specs.Rows.{puts}
use Rattle.le.proofs.Rows.{holds_less, holds_same, length_puts, puts_none, puts_append}
use native.Mathlib.Omega.{arith}
use Rattle.copying.proofs.put_spider_labels.Goals as goal

pub loop-i-init : goal.loop-i-init
loop-i-init c = (omega arith, sym (puts_none _ c.args.r c.args.k))

pub put_number-requires : goal.put_number-requires
put_number-requires c =
    let a = c.args in
    let l = c.loop-i in
    (holds_same (holds_less c.requires _ (omega arith)) l.out (ap length l.invariant.1 ∙ length_puts a.out.now a.r a.k (replicate l.i spider)), omega arith)

pub loop-i-preserved : goal.loop-i-preserved
loop-i-preserved c =
    let a = c.args in
    let l = c.loop-i in
    let place : a.k + l.i ≡ a.k + length (replicate l.i spider) = ap (λ (n : ℕ). a.k + n) (sym (length-replicate {A = ℕ} l.i spider)) in (
      omega arith,
      c.put_number.ensures ∙ (λ x. puts (l.invariant.1 x) a.r (place x) (spider ∷ [])) ∙ puts_append a.out.now a.r a.k (replicate l.i spider) (spider ∷ [])
          ∙ ap (puts a.out.now a.r a.k) (replicate-append-replicate l.i 1 spider),
    )

pub returns : goal.returns
returns c =
    let a = c.args in
    let l = c.loop-i in
    l.invariant.1 ∙ ap (λ (n : ℕ). puts a.out.now a.r a.k (replicate n spider)) (le_antisymm l.invariant.0 c.loop-i-test.false)
