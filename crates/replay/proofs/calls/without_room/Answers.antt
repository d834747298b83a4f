-- `replay::calls::without_room` meets its contract.
-- Assumes nothing.
use mathlib.Core.Path.{refl, sym}
use Rattle.replay.specs.Due.{handed_by}
use Rattle.replay.proofs.calls.without_room.Goals as goal

pub returns-in-1 : goal.returns-in-1
unfolding handed_by
returns-in-1 c = λ e map room m. c.none_in.ensures e _ refl m

pub returns-in-11 : goal.returns-in-11
unfolding handed_by
returns-in-11 c = λ e map room m. c.one_in.ensures e _ (sym c.bytes_of-one.ensures, refl) m

pub returns-in-111 : goal.returns-in-111
unfolding handed_by
returns-in-111 c = λ e map room m. c.number_and_one_in.ensures e _ (refl, sym c.bytes_of-one.ensures, refl) m

pub returns-in-121 : goal.returns-in-121
unfolding handed_by
returns-in-121 c = λ e map room m. c.number_and_two_in.ensures e _ (refl, sym c.bytes_of-one.ensures, sym c.bytes_of-two.ensures, refl) m

pub returns-in-131 : goal.returns-in-131
unfolding handed_by
returns-in-131 c = λ e map room m. c.number_and_three_in.ensures e _ (refl, sym c.bytes_of-one.ensures, sym c.bytes_of-two.ensures, sym c.bytes_of-three.ensures, refl) m

pub returns-in-211 : goal.returns-in-211
unfolding handed_by
returns-in-211 c = λ e map room m. c.two_numbers_and_one_in.ensures e _ (refl, refl, sym c.bytes_of-one.ensures, refl) m
