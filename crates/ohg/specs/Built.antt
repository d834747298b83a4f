-- The number that ohg_build returns, and the buffer that it leaves: as for the other calls, but that a refusal has an index too.
-- Assumes nothing.
use Rattle.std.specs.Prelude.{ℕ, ◌≤◌, ◌<◌, ◌^◌, min, ◌≡◌, List}
use Rattle.graph.specs.Answer.{Refusal, Result}
use Rattle.steps.specs.Calls.{Built, stopped, built, laid_built}
use Rattle.std.specs.Prelude.{Result as Ending, Ok, Err}
use Rattle.form.specs.Form.{meant_by}
use Rattle.form.specs.declared.Done.{Done}
use Rattle.build.specs.declared.Stop.{Stop}
use Rattle.packing.specs.Packed.{pack}

-- a refusal's number, its step's index and its place; or code 0 and the two numbers of the answer. "An index above 16,777,215 is given as that"
abbrev pub packed_built : Built Result → ℕ
packed_built (stopped k r) = pack r.no (min k 16777215) (min r.place 4294967295)
packed_built (built x) = pack 0 x.a x.b

-- what the function returns, and its answer buffer before and after it, by the call's answer
pub record ReturnsBuilt (a : Built Result) (r : ℕ) (old new : List ℕ) : Type 0 where
  pub number : r ≡ packed_built a
  pub buffer : new ≡ laid_built a old

-- the numbers of an answer fit their bits, and no refusal is 0
pub record RangedBuilt (a : Built Result) : Type 0 where
  pub no : (k : ℕ) (r : Refusal) → a ≡ stopped k r → (1 ≤ r.no) × (r.no < 256)
  pub numbers : (x : Result) → a ≡ built x → (x.a < 2 ^ 24) × (x.b < 2 ^ 32)

-- the same of the ending in code
abbrev pub packed_ending : Ending Done Stop → ℕ
packed_ending (Ok x) = pack 0 x.a x.b
packed_ending (Err x) = pack (meant_by x.refusal).no (min x.index 16777215) (min (meant_by x.refusal).place 4294967295)

abbrev pub PacksEnding : Ending Done Stop → Type 0
PacksEnding (Ok x) = (x.a < 2 ^ 24) × (x.b < 2 ^ 32)
PacksEnding (Err x) = Unit {0}
