-- `links::put_spider` meets its contract.
-- Assumes nothing.
use mathlib.Core.Bool.{true}
use mathlib.Core.List.{List}
use mathlib.Core.Path.{◌≡◌, refl, sym, ap, ◌∙◌, subst}
use Prim.Native.Nat.{ℕ, ◌+◌, ◌*◌, ◌<◌}
use native.Mathlib.Nat.{le_antisymm}
use lib.ListN.{length}
use Rattle.le.proofs.Rows.{holds_less, holds_same}
use Rattle.links.specs.Links.{cells, is_listed, Table, Chain}
use Rattle.write.specs.Write.{Put}
use Rattle.write.proofs.Results.{put_none, put_then}
use Rattle.links.proofs.Chains.{chain_of}
use Rattle.links.proofs.Spiders.{side_rows, sides_more, sides_room, none_of, both_of}
use native.Mathlib.Omega.{arith}
use Rattle.links.proofs.put_spider.Goals as goal
use Rattle.links.proofs.put_spider.Goals.{After-listed}

-- the node is listed
is_listed_lem : (c : After-listed) → c.listed.result ≡ true → is_listed c.args.nodes (cells c.args.room.now) c.args.id ≡ true
is_listed_lem c e = sym (c.listed.ensures c.args.nodes c.requires.0) ∙ e

-- the chain of a kind
chain : (c : After-listed) → c.listed.result ≡ true → (fresh : ℕ → ℕ → List ℕ) → Table c.args.nodes c.args.room.now fresh → (k : ℕ) → k < 4
    → Chain c.args.nodes c.args.room.now (c.args.id * 4 + k) (fresh k c.args.id)
chain c e fresh t k l = chain_of t c.args.id k c.requires.0 l (is_listed_lem c e)

pub returns-then-not-listed : goal.returns-then-not-listed
returns-then-not-listed c = λ fresh t.
    let a = c.args in
    rw (none_of a.nodes (cells a.room.now) fresh a.id (sym (c.listed.ensures a.nodes c.requires.0) ∙ c.if-not-listed.true)) put_none

pub loop-side-init : goal.loop-side-init
loop-side-init c = (omega arith, refl, λ fresh t. put_none)

pub put_chains-next-requires : goal.put_chains-next-requires
put_chains-next-requires c =
    let id = c.args.id in
    let fresh = c.requires.2.0 in
    let l = c.loop-side in
    let t = chain (goal.at.put_chains-next-requires c).After-listed c.if-not-listed.false fresh c.requires.2.1 in
    let next = (l.invariant.2 fresh c.requires.2.1).next in
    let all = ap length (both_of c.args.nodes (cells c.args.room.now) fresh id (is_listed_lem (goal.at.put_chains-next-requires c).After-listed c.if-not-listed.false)) in
    let room = sides_room fresh id l.side (omega arith) in
    ((fresh (2 * l.side) id, fresh (2 * l.side + 1) id, t _ (omega arith), t _ (omega arith), holds_same (holds_less c.requires.2.2 _ (omega arith)) _ l.invariant.1), c.requires.1)

pub loop-side-preserved : goal.loop-side-preserved
loop-side-preserved c =
    let a = c.args in
    let l = c.loop-side in
    let f = c.put_chains-next in (
      omega arith,
      f.auto.out ∙ l.invariant.1,
      λ fresh t.
          let of = chain (goal.at.loop-side-preserved c).After-listed c.if-not-listed.false fresh t in
          rw (sides_more fresh a.id l.side) (put_then (l.invariant.2 fresh t) (f.ensures _ _ (of _ (omega arith)) (of _ (omega arith)))),
    )

pub returns : goal.returns
returns c = λ fresh t.
    let a = c.args in
    let l = c.loop-side in
    let e = le_antisymm l.invariant.0 c.loop-side-test.false in
    rw (both_of a.nodes (cells a.room.now) fresh a.id (is_listed_lem (goal.at.returns c).After-listed c.if-not-listed.false))
    (subst (λ (n : ℕ). Put a.out.now a.r a.k (side_rows fresh a.id n) l.out l.next) e (l.invariant.2 fresh t))
