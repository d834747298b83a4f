-- `replay::calls::with_room` meets its contract.
-- Assumes nothing.
use mathlib.Core.Path.{refl, sym}
use Rattle.replay.specs.Due.{handed_by}
use Rattle.replay.proofs.calls.with_room.Goals as goal

pub returns-in-10 : goal.returns-in-10
unfolding handed_by
returns-in-10 c = λ e. c.yes_or_no.ensures e _ (sym c.bytes_of-one.ensures, refl) _ _

pub returns-in-11 : goal.returns-in-11
unfolding handed_by
returns-in-11 c = λ e. c.one_in_with_room.ensures e _ (sym c.bytes_of-one.ensures, refl, refl) _

pub returns-in-12 : goal.returns-in-12
unfolding handed_by
returns-in-12 c = λ e. c.one_in_two_out_with_room.ensures e _ (sym c.bytes_of-one.ensures, refl, refl, refl)

pub returns-in-21 : goal.returns-in-21
unfolding handed_by
returns-in-21 c = λ e. c.two_in_with_room.ensures e _ (sym c.bytes_of-one.ensures, sym c.bytes_of-two.ensures, refl, refl) _

pub returns-in-22 : goal.returns-in-22
unfolding handed_by
returns-in-22 c = λ e. c.two_out_with_room.ensures e _ (sym c.bytes_of-one.ensures, sym c.bytes_of-two.ensures, refl, refl, refl)
