-- `links::put_spiders` meets its contract.
-- Assumes nothing.
use mathlib.Core.Path.{refl, ◌∙◌}
use Rattle.le.proofs.Rows.{holds_less, holds_same}
use Rattle.links.specs.Links.{cells}
use Rattle.write.proofs.Results.{put_none, put_then}
use Rattle.links.proofs.Spiders.{spiders_more, spiders_room}
use native.Mathlib.Omega.{arith}
use Rattle.links.proofs.put_spiders.Goals as goal

pub loop-id-init : goal.loop-id-init
loop-id-init c = (omega arith, refl, λ fresh t. put_none)

pub put_spider-k-requires : goal.put_spider-k-requires
put_spider-k-requires c =
    let a = c.args in
    let p = c.requires.1 in
    let l = c.loop-id in
    let less = c.loop-id-test.true in
    let next = (l.invariant.2 p.0 p.1).next in
    let room = spiders_room a.nodes (cells a.room.now) p.0 l.id less in
    (less, omega arith, (p.0, p.1, holds_same (holds_less p.2 _ (omega arith)) l.out l.invariant.1))

pub loop-id-preserved : goal.loop-id-preserved
loop-id-preserved c =
    let a = c.args in
    let l = c.loop-id in
    let f = c.put_spider-k in
    (omega arith, f.auto.out ∙ l.invariant.1, λ fresh t. rw (spiders_more a.nodes (cells a.room.now) fresh l.id) (put_then (l.invariant.2 fresh t) (f.ensures fresh t)))
