-- `links::put_chains` meets its contract.
-- Assumes nothing.
use mathlib.Core.Bool.{not}
use mathlib.Core.List.{List, ◌++◌}
use mathlib.Core.Path.{refl, ap, ◌∙◌, subst}
use Prim.Native.Nat.{ℕ, ◌+◌}
use native.Mathlib.Nat.{le_antisymm}
use native.Mathlib.Numerals.{add-one}
use lib.ListN.{length}
use Rattle.le.proofs.Rows.{holds_less, holds_same}
use Rattle.write.specs.Write.{Put}
use Rattle.write.proofs.Results.{put_none, put_then}
use Rattle.links.proofs.Spiders.{with_itself, with_node, node_low, on_side, one_side, sides_before, side_room, side_length, side_chain, row_done}
use native.Mathlib.Omega.{arith}
use Rattle.links.proofs.put_chains.Goals as goal

pub loop-half-init : goal.loop-half-init
loop-half-init c = (omega arith, refl, refl, refl, λ A B h k. put_none)

pub put_side-next-requires : goal.put_side-next-requires
put_side-next-requires c =
    let a = c.args in
    let p = c.requires.0 in
    let l = c.loop-half in
    let es = on_side l.half p.0 p.1 in
    let na = c.chain_length-a.ensures.0 p.0 p.2 in
    let nb = c.chain_length-b.ensures.0 p.1 p.3 in
    let next = (l.invariant.4 p.0 p.1 p.2 p.3).next in
    let one = ap (λ (side : List ℕ). length (side ++ es)) (with_node l.here _ a.id c.then_some-node.result c.then_some-node.ensures l.invariant.3) in
    let room = side_room a.first a.id p.0 p.1 l.half (omega arith) in (
      (
        es,
        side_chain l.half (omega arith) (omega arith) p.2 p.3,
        l.invariant.2 ∙ side_length l.half p.0 p.1 na nb,
        holds_same (holds_less p.4 _ (omega arith)) _ (l.invariant.1 ∙ c.put_two.auto.out),
      ),
      node_low l.here a.id c.then_some-node.result c.then_some-node.ensures c.requires.1,
    )

pub loop-half-preserved : goal.loop-half-preserved
loop-half-preserved c =
    let l = c.loop-half in
    let f = c.put_side-next in (
      omega arith,
      f.auto.out ∙ l.invariant.1,
      rw add-one,
      rw add-one,
      λ A B h k.
          let na = c.chain_length-a.ensures.0 A h in
          let nb = c.chain_length-b.ensures.0 B k in
          let one = f.ensures (on_side l.half A B) (side_chain l.half (omega arith) (omega arith) h k) (l.invariant.2 ∙ side_length l.half A B na nb) in
          let side = with_node l.here _ c.args.id c.then_some-node.result c.then_some-node.ensures l.invariant.3 in
          rw (add-one l.half) (put_then (l.invariant.4 A B h k) (rw side at one)),
    )

pub returns : goal.returns
returns c = λ A B h k.
    let a = c.args in
    let l = c.loop-half in
    let two = c.put_two in
    let na = c.chain_length-a.ensures.0 A h in
    let nb = c.chain_length-b.ensures.0 B k in
    let e = le_antisymm l.invariant.0 c.loop-half-test.false in
    row_done (one_side a.first a.id A B 0) (one_side a.first a.id A B 1) _ _ (omega (arith, with_itself a.first a.id A)) (omega (arith, with_itself (not a.first) a.id B)) two.ensures
    (subst (λ (half : ℕ). Put two.new.out a.r (a.k + 2) (sides_before a.first a.id A B half) l.out l.next) e (l.invariant.4 A B h k))
