-- What the types of this crate stand for: a step where it stands in the list, and what the definitions answer for each of their values.
-- Assumes nothing.
use Rattle.std.specs.Prelude.{Bool, Ok, Err, ◌≡◌, true, false, ◌||◌, List, ℕ, ◌+◌, ◌*◌, ◌≤◌, ◌<◌, ◌^◌, eqb, cond, length, get_or, drop}
use Rattle.std.specs.Prelude.{Result as Returned}
use Rattle.le.specs.Le.{numbers}
use Rattle.graph.specs.Answer.{Answer, refused, answered, Result}
use Rattle.graph.specs.Graph.{Graph, largest, sizes_fit}
use Rattle.form.specs.Form.{counts_of, meant_by}
use Rattle.form.specs.declared.Done.{Done}
use Rattle.form.specs.declared.Refusal.{Refusal}
use Rattle.form.specs.declared.Refusal.TheVariants as why
use Rattle.form.specs.declared.Sizes.{Sizes}
use Rattle.steps.specs.Steps.{Step, head_numbers, step_of}
use Rattle.steps.specs.Calls.{Built, stopped, built, laid_built}
use Rattle.ledger.specs.Ledger.{Draws}
use Rattle.build.specs.declared.Stop.{Stop}
use Rattle.build.specs.declared.StepAt.{StepAt}
use Rattle.build.specs.declared.Kind.{Kind}
use Rattle.build.specs.declared.Kind.TheVariants as of

-- ---- a step in the list

-- the number that stands in the list for a kind
abbrev pub number_of : Kind → ℕ
number_of of.NewNode = 1
number_of of.NewEdge = 2
number_of of.NewOperation = 3
number_of of.Unify = 4
number_of of.AddEdgeSource = 5
number_of of.AddEdgeTarget = 6
number_of of.DeleteEdges = 7
number_of of.DeleteNodes = 8

-- the kind of a number; a number that no step has is refused
abbrev pub Numbered : ℕ → Returned Kind Refusal → Type 0
Numbered n (Ok kind) = number_of kind ≡ n
Numbered n (Err x) = (head_numbers n ≡ 0) × (x ≡ why.BrokenStep)

-- how many entries the first list of a step has, and how many the second
abbrev pub first_numbers : ℕ → List ℕ → ℕ
first_numbers kind head = cond (eqb kind 2 || eqb kind 3) (get_or head 1 0) (cond (eqb kind 7 || eqb kind 8) (get_or head 0 0) 0)

abbrev pub second_numbers : ℕ → List ℕ → ℕ
second_numbers kind head = cond (eqb kind 2 || eqb kind 3) (get_or head 2 0) 0

-- the numbers that the step begins with
abbrev pub head_at : List ℕ → StepAt → List ℕ
head_at b p = numbers 4 (head_numbers (number_of p.kind)) (drop p.at b)

-- the step, and the bytes after it
unfoldable pub step_in : List ℕ → StepAt → Step
step_in b p = step_of (number_of p.kind) (head_at b p) (numbers 4 (p.first + p.second) (drop p.lists b))

-- it stands wholly in the list, from a place on
pub record StepThere (b : List ℕ) (place : ℕ) (p : StepAt) : Type 0 where
  pub at : p.at ≡ place + 1
  pub first : p.first ≡ first_numbers (number_of p.kind) (head_at b p)
  pub second : p.second ≡ second_numbers (number_of p.kind) (head_at b p)
  pub lists : p.lists ≡ p.at + 4 * head_numbers (number_of p.kind)
  pub end : p.end ≡ p.lists + 4 * (p.first + p.second)
  pub inside : p.end ≤ length b
  pub few : p.first < 2 ^ 32
  pub few_more : p.second < 2 ^ 32

-- so much of it is in the list, and its counts have 4 bytes
pub record Lies (b : List ℕ) (p : StepAt) : Type 0 where
  pub head : p.at + 4 ≤ length b
  pub inside : p.lists + 4 * (p.first + p.second) ≤ length b
  pub first : p.first < 2 ^ 32
  pub second : p.second < 2 ^ 32

-- a step that is read at a place: it stands there, and the list goes on after it
pub record FoundStep (a : Answer (Step × List ℕ)) (b : List ℕ) (place : ℕ) (p : StepAt) : Type 0 where
  pub step : Step
  pub after : List ℕ
  pub is : a ≡ answered (step, after)
  pub there : StepThere b place p
  pub in_list : step ≡ step_in b p
  pub next : after ≡ drop p.end b

-- what is found at a place where this is read
abbrev pub Finds : Answer (Step × List ℕ) → Returned StepAt Refusal → List ℕ → ℕ → Type 0
Finds a (Ok p) b place = FoundStep a b place p
Finds a (Err x) b place = a ≡ refused (meant_by x)

-- ---- a step carried out

-- whether these sizes are within the limits
abbrev pub within : Sizes → Bool
within y = sizes_fit largest (counts_of y) y.ports

-- sizes within the limits, or 9
abbrev pub Limited : Sizes → Returned Sizes Refusal → Type 0
Limited y (Ok z) = (within y ≡ true) × (z ≡ y)
Limited y (Err x) = (within y ≡ false) × (x ≡ why.ResultAboveLimit)

-- what a step that gives this leaves in the room
abbrev pub Turned : Answer Graph → Returned Sizes Refusal → List ℕ → Type 0
Turned a (Ok y) W = (h : Graph) × (a ≡ answered h) × Draws W y h
Turned a (Err x) W = a ≡ refused (meant_by x)

-- what steps that give this leave there
abbrev pub Leads : Built Graph → Returned Sizes Stop → List ℕ → Type 0
Leads a (Ok y) W = (h : Graph) × (a ≡ built h) × Draws W y h
Leads a (Err x) W = a ≡ stopped x.index (meant_by x.refusal)

-- ---- the call

-- what the answer of the call in code stands for
abbrev pub told_built : Returned Done Stop → Built Done
told_built (Ok x) = built x
told_built (Err x) = stopped x.index (meant_by x.refusal)

-- its two numbers
abbrev pub built_outcome : Built Result → Built Done
built_outcome (stopped k q) = stopped k q
built_outcome (built x) = built (record { a = x.a; b = x.b })

-- its outcome, and the answer buffer before and after it
pub record GivesBuilt (a : Built Result) (r : Returned Done Stop) (old new : List ℕ) : Type 0 where
  pub result : told_built r ≡ built_outcome a
  pub buffer : new ≡ laid_built a old
