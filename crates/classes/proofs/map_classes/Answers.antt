-- `classes::map_classes` meets its contract.
-- Assumes nothing.
use native.Mathlib.Omega.{arith}
use Rattle.le.specs.Le.{words}
use Rattle.classes.proofs.Maps.{map_unpaired}
use Rattle.classes.proofs.map_classes.Goals as goal

pub start-requires : goal.start-requires
start-requires c = (c.requires, omega (arith, c.args.drawing.few))

pub returns-then-z-eq0 : goal.returns-then-z-eq0
returns-then-z-eq0 c =
    map_unpaired c.args.drawing c.if-z-eq0.true (words c.start.new.room) c.start.ensures
