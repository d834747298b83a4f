-- `price::range::price_drawings` meets its contract.
-- Assumes nothing.
use mathlib.Core.Path.{◌≡◌, sym, ap, ◌∙◌, subst}
use Prim.Native.Nat.{ℕ, ◌+◌, ◌-◌}
use native.Mathlib.Omega.{arith}
use lib.ListN.{take, drop}
use Rattle.le.specs.Le.{Below, number_at}
use Rattle.le.proofs.Numbers.{below_each}
use Rattle.catalogue.specs.Price.{price}
use Rattle.price.specs.Totals.{forms_of, added}
use Rattle.price.proofs.Along.{Sofar, sofar_none, next_stands, sofar_upto, sofar_next, sofar_all}
use Rattle.catalogue.proofs.Slices.{Standing}
use Rattle.price.proofs.range.price_drawings.Goals as goal
use Rattle.price.proofs.range.price_drawings.Goals.{In-loop-at, At-loop-at}

clean : (c : At-loop-at) → Below 256 c.args.src.now
clean c = below_each 256 c.args.src.now (λ i l. omega (arith, c.type_inv.src i))

-- the next drawing
stands : (c : In-loop-at) → Standing c.args.src.now (forms_of c.args.src.now) c.loop-at.invariant.behind c.loop-at.at
stands c = next_stands (below_each 256 c.args.src.now (λ i l. omega (arith, c.type_inv.src i))) c.requires.0 c.loop-at.invariant c.loop-at-test.true

pub loop-at-init : goal.loop-at-init
loop-at-init c = sofar_none c.args.src.now (forms_of c.args.src.now) c.requires.0 _ c.none-t.ensures

pub get4-n-requires : goal.get4-n-requires
get4-n-requires c = omega (arith, (stands (goal.at.get4-n-requires c).In-loop-at).four)

pub slice_bounds-add_drawing-end : goal.slice_bounds-add_drawing-end
slice_bounds-add_drawing-end c = omega (arith, (stands (goal.at.slice_bounds-add_drawing-end c).In-loop-at).inside, c.get4-n.ensures)

pub add_drawing-t-requires : goal.add_drawing-t-requires
add_drawing-t-requires c =
    (sofar_upto (clean (goal.at.add_drawing-t-requires c).At-loop-at) c.requires.0 c.loop-at.invariant c.loop-at-test.true, omega (arith, c.requires.1))

pub loop-at-preserved : goal.loop-at-preserved
loop-at-preserved c =
    let g = c.get4-n in
    let a = c.add_drawing-t in
    let l = c.loop-at in
    let src = c.args.src.now in
    let part : l.at + 4 + g.result - (l.at + 4) ≡ number_at 4 src l.at = omega (arith, g.ensures) in
    subst (λ (n : ℕ). Sofar src (forms_of src) a.result (l.at + 4 + n)) (sym g.ensures)
    (sofar_next (clean (goal.at.loop-at-preserved c).At-loop-at) c.requires.0 l.invariant c.loop-at-test.true a.result
    (a.ensures ∙ ap (λ (n : ℕ). added l.t (price (take n (drop (l.at + 4) src)))) part))

pub returns : goal.returns
returns c = sofar_all (clean (goal.at.returns c).At-loop-at) c.requires.0 c.loop-at.invariant c.loop-at-test.false
