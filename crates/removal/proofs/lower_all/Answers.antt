-- `removal::lower_all` meets its contract.
-- Assumes nothing.
use native.Mathlib.Omega.{arith}
use Rattle.le.specs.Le.{words}
use Rattle.removal.specs.Room.{source}
use Rattle.removal.proofs.Peeling.{low_listed, low_formed, went_listed, went_formed}
use Rattle.removal.proofs.lower_all.Goals as goal

pub lower_listed-requires-clause-roomy : goal.lower_listed-requires-clause-roomy
lower_listed-requires-clause-roomy c =
    let a = c.args in
    let start = c.word-start in
    let count = c.word-count in
    let lists = c.requires.roomy.1 in
    let W = words a.room.now in (
      c.requires.roomy.0,
      low_listed (source a.s.now a.r) W W a.nodes a.n a.y start.result count.result 0 0 start.ensures count.ensures (omega arith) (lists.low a.y (omega arith)),
    )

pub returns-then-y-nodes : goal.returns-then-y-nodes
returns-then-y-nodes c =
    let a = c.args in
    let start = c.word-start in
    let count = c.word-count in
    let o = c.lower_listed in
    went_listed (source a.s.now a.r) (words a.room.now) (words o.new.room) a.nodes a.n a.y start.result count.result a.end o.result start.ensures count.ensures (omega arith) o.ensures

pub lower_formed-requires-clause-roomy : goal.lower_formed-requires-clause-roomy
lower_formed-requires-clause-roomy c =
    let a = c.args in
    let start = c.word-start in
    let count = c.word-count in
    let lists = c.requires.roomy.1 in
    let W = words a.room.now in (
      c.requires.roomy.0,
      low_formed (source a.s.now a.r) W W a.nodes a.n a.y start.result count.result 0 0 start.ensures count.ensures (omega arith) (lists.low a.y (omega arith)),
    )

pub returns : goal.returns
returns c =
    let a = c.args in
    let start = c.word-start in
    let count = c.word-count in
    let o = c.lower_formed in
    went_formed (source a.s.now a.r) (words a.room.now) (words o.new.room) a.nodes a.n a.y start.result count.result a.end o.result start.ensures count.ensures (omega arith) o.ensures
