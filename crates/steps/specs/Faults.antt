-- Why a call with a list of steps is refused, by the single calls one after the other: its index and its refusal.
-- Assumes nothing.
use Rattle.std.specs.Prelude.{◌≡◌, true, List, ℕ, ◌<◌, length}
use Rattle.graph.specs.Answer.{Refusal, refused, refusal}
use Rattle.graph.specs.Lists.{member}
use Rattle.graph.specs.Versions.{read}
use Rattle.steps.specs.Steps.{steps_in}
use Rattle.steps.specs.Calls.{built, room_build}
use Rattle.steps.specs.Singly.{singly, StopsAt}
use Rattle.steps.specs.RefusedBy.{step_refusals}

pub data BuildFault (b steps : List ℕ) (room work_room : ℕ) : ℕ → Refusal → Type 0 where
  -- the work room is too short; the bytes are not read; "A refusal of the graph read, and 10, carry index zero"
  no_work_room : work_room < room_build → BuildFault b steps room work_room 0 (refusal 10)
  unread : (r : Refusal) → read b ≡ refused r → BuildFault b steps room work_room 0 r
  -- a step is the first whose call refuses, by 12, 7 or 9: its index, and the call's own refusal
  at_one_step : (k : ℕ) (r : Refusal) → member r.no step_refusals ≡ true → StopsAt 0 (steps_in steps) b k r → BuildFault b steps room work_room k r
  -- all steps pass, and the last form is longer than the room
  no_room : (form : List ℕ) → singly 0 (steps_in steps) b ≡ built form → room < length form → BuildFault b steps room work_room 0 (refusal 10)
