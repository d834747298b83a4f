-- What a caller of ohg_build may rely on: promises about the returned number and the bytes of the lent buffer alone, one field for each; where the code is 0, and where it is
-- a refusal. `code_in`, `a_in` and `b_in` take the number apart.
-- Assumes nothing.
use Rattle.std.specs.Prelude.{◌≡◌, List, ℕ, ◌≤◌, min, length, take, drop}
use Rattle.graph.specs.Answer.{Refusal, Result}
use Rattle.graph.specs.Graph.{Graph}
use Rattle.steps.specs.Steps.{steps_in}
use Rattle.steps.specs.Calls.{Built, stopped, built, turns}
use Rattle.steps.specs.Singly.{singly}
use Rattle.steps.specs.Faults.{BuildFault}
use Rattle.packing.specs.Unpacked.{code_in, a_in, b_in}
use Rattle.packing.specs.Caller.{Draws}

-- what code, a and b have to be of a call's answer: of a refusal its number, its step's index and its place, or the highest numbers; of an answer 0 and its two numbers
abbrev pub code_of_built : Built Result → ℕ
code_of_built (stopped k r) = r.no
code_of_built (built x) = 0

abbrev pub a_of_built : Built Result → ℕ
a_of_built (stopped k r) = min k 16777215
a_of_built (built x) = x.a

abbrev pub b_of_built : Built Result → ℕ
b_of_built (stopped k r) = min r.place 4294967295
b_of_built (built x) = x.b

-- ohg_build on the bytes b and these steps returned r; its buffer was old and is new; g is the graph that was read, and k the one that is answered
pub record ToldBuilt (b steps : List ℕ) (r : ℕ) (old new : List ℕ) (g k : Graph) : Type 0 where
  -- the bytes that were read are the one graph
  pub drawing : Draws b g
  -- the first a bytes of the buffer are the other
  pub answer : Draws (take (a_in r) new) k
  -- which the steps in the list, one after the other, make of the first
  pub led : turns 0 (steps_in steps) g ≡ built k
  -- and they are the bytes that the single calls answer, each on the bytes that the one before it answered
  pub singly : singly 0 (steps_in steps) b ≡ built (take (a_in r) new)
  -- no id is answered
  pub second : b_in r ≡ 0
  -- it is wholly in the buffer, and what was behind it stays
  pub fits : a_in r ≤ length old
  pub stays : drop (a_in r) new ≡ drop (a_in r) old

-- the same call with work room of this length, where the code is not 0
pub record ToldStopped (b steps : List ℕ) (lent r : ℕ) (old new : List ℕ) : Type 0 where
  pub index : ℕ
  pub refusal : Refusal
  -- why it is refused: by its work room, by the graph read, at the first step whose single call refuses, or by the room for the last graph
  pub fault : BuildFault b steps (length old) lent index refusal
  -- the code is the refusal's number
  pub code : code_in r ≡ refusal.no
  -- a is the step's index, and b the refusal's place
  pub at : a_in r ≡ min index 16777215
  pub place : b_in r ≡ min refusal.place 4294967295
  -- and the buffer is as it was
  pub stays : new ≡ old
