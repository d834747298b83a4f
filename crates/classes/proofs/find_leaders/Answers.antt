-- `classes::find_leaders` meets its contract.
-- Assumes nothing.
use native.Mathlib.Omega.{arith}
use Rattle.classes.proofs.find_leaders.Goals as goal

pub join_all-requires : goal.join_all-requires
join_all-requires c =
    record { n_in_bounds = (omega arith, c.requires.1, c.requires.2, c.requires.3); forest = c.start.ensures }

pub flatten-requires : goal.flatten-requires
flatten-requires c = record { n_in_bounds = omega arith; falls = c.join_all.ensures.falls }

pub returns : goal.returns
returns c = c.flatten.ensures _ c.join_all.ensures
