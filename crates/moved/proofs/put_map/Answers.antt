-- `moved::put_map` meets its contract.
-- Assumes nothing.
use mathlib.Core.Bool.{cond}
use mathlib.Core.List.{◌∷◌, []}
use Prim.Native.Nat.{ℕ, ◌+◌, ◌-◌, ◌^◌, ◌<◌}
use native.Mathlib.Nat.{le_antisymm}
use mathlib.Core.Path.{refl, ap, ◌∙◌}
use Rattle.gone.specs.Marks.{marked}
use Rattle.moved.specs.Places.{places_of}
use Rattle.le.specs.Rows.{puts}
use Rattle.graph.proofs.Kept.{new_id_le}
use Rattle.le.proofs.Rows.{holds_less, holds_same}
use Rattle.write.proofs.Results.{put_none}
use Rattle.write.proofs.Grows.{put_length, put_more}
use Rattle.gone.proofs.Grows.{new_id_more}
use Rattle.moved.proofs.Places.{places_grow}
use native.Mathlib.Omega.{arith}
use Rattle.moved.proofs.put_map.Goals as goal

pub loop-i-init : goal.loop-i-init
loop-i-init c = (omega arith, refl, put_none)

pub put_place-next-requires : goal.put_place-next-requires
put_place-next-requires c =
    let l = c.loop-i in (
      omega arith,
      holds_same (holds_less c.requires.2 (l.i + 1) (omega arith)) l.map (put_length l.invariant.2),
      omega (arith, l.invariant.1, new_id_le (marked c.args.room.now c.args.n) l.i),
    )

pub loop-i-preserved : goal.loop-i-preserved
loop-i-preserved c =
    let a = c.args in
    let l = c.loop-i in
    let goes = marked a.room.now a.n in
    let less : l.i < a.n = omega arith in
    let p = c.put_place-next.ensures a.n less in (
      omega arith,
      omega (arith, p.1, l.invariant.1, new_id_more goes l.i),
      put_more (places_grow goes a.r.width a.n) less l.invariant.2 (record {
        stored = p.0 ∙ ap (λ (v : ℕ). puts l.map a.r l.i (cond (goes l.i) (256 ^ a.r.width - 1) v ∷ [])) l.invariant.1;
        next = refl;
      }),
    )

pub returns : goal.returns
returns c =
    let a = c.args in
    let l = c.loop-i in
    l.invariant.2.stored ∙ ap (λ (i : ℕ). puts a.map.now a.r 0 (places_of a.r.width (marked a.room.now a.n) i)) (le_antisymm l.invariant.0 c.loop-i-test.false)
