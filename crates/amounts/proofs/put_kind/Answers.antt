-- `amounts::put_kind` meets its contract.
-- Assumes nothing.
use mathlib.Core.Path.{◌≡◌, ap, subst}
use Prim.Native.Nat.{ℕ, ◌-◌, ◌*◌, ◌≤◌, ◌<◌}
use native.Mathlib.Nat.{mul-le-mul_right}
use native.Mathlib.Omega.{arith}
use lib.ListN.{get_or}
use Rattle.le.proofs.Numbers.{below_at}
use Rattle.catalogue.specs.Price.{kind_of}
use Rattle.parts.specs.declared.KindRow.{KindRow}
use Rattle.catalogue.proofs.Bounds.{kind_few}
use Rattle.text.specs.Text.{ascii, Printed}
use Rattle.text.proofs.Texts.{printed_then}
use Rattle.amounts.specs.Amounts.{rest, count_of}
use Rattle.amounts.proofs.put_kind.Goals as goal

pub overflow_mul-count : goal.overflow_mul-count
overflow_mul-count c =
    let a = c.args in
    let one = c.kind_row.result.price in
    let many : get_or a.counts.now (a.label - 1) 0 < 4294967296 =
    below_at 4294967296 a.counts.now (a.label - 1) c.requires.1.few (omega (arith, c.requires.1.twelve, c.requires.0.low, c.requires.0.high)) in
    let price : one ≡ (kind_of a.label).price = ap (λ (r : KindRow). r.price) c.kind_row.ensures in
    let low : one ≤ 4200 = omega (arith, price, kind_few a.label) in
    let all : get_or a.counts.now (a.label - 1) 0 * one ≤ 4294967295 * one = mul-le-mul_right one (omega (arith, many)) in
    omega (arith, all, low)

pub returns-clause-printed : goal.returns-clause-printed
returns-clause-printed c =
    let a = c.args in
    let named = c.put_name-named in
    let last = c.put_rest in
    let count = count_of a.counts.now a.label in
    let price : c.kind_row.result.price ≡ (kind_of a.label).price = ap (λ (r : KindRow). r.price) c.kind_row.ensures in
    printed_then (ascii (kind_of a.label).name) (rest count (count * (kind_of a.label).price)) named.ensures.printed
    (subst (λ (x : ℕ). Printed named.new.out named.result (rest count (count * x)) last.new.out last.result) price last.ensures.printed)
