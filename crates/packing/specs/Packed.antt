-- The number that an exported function returns, code, a and b in 8, 24 and 32 bits, and the buffers that it leaves.
-- Assumes nothing.
use Rattle.std.specs.Prelude.{ℕ, ◌+◌, ◌*◌, ◌≤◌, ◌<◌, ◌^◌, min, ◌≡◌, List}
use Rattle.std.specs.Prelude.{Result as Outcome, Ok, Err}
use Rattle.graph.specs.Answer as answer
use Rattle.graph.specs.Answer.{Answer, refused, answered, Result, laid, laid_map}
use Rattle.form.specs.Form.{meant_by}
use Rattle.form.specs.declared.Done.{Done}
use Rattle.form.specs.declared.Refusal.{Refusal}

abbrev pub pack : ℕ → ℕ → ℕ → ℕ
pack code a b = code + 256 * a + 2 ^ 32 * b

-- a refusal's number and place, with zero counts; or code 0 and the two numbers of the answer. "A place too large for 32 bits is given
-- as 4,294,967,295"
abbrev pub packed : Answer Result → ℕ
packed (refused r) = pack r.no 0 (min r.place 4294967295)
packed (answered x) = pack 0 x.a x.b

-- what a function returns, and its answer buffer before and after it, by a call's answer
pub record Returns (a : Answer Result) (r : ℕ) (old new : List ℕ) : Type 0 where
  pub number : r ≡ packed a
  pub buffer : new ≡ laid a old

-- the same with the buffer of a map
pub record ReturnsMap (a : Answer Result) (r : ℕ) (old new old_map new_map : List ℕ) : Type 0 where
  pub number : r ≡ packed a
  pub buffer : new ≡ laid a old
  pub map : new_map ≡ laid_map a old_map

-- the numbers of an answer fit their bits, and no refusal is 0
pub record Ranged (a : Answer Result) : Type 0 where
  pub no : (r : answer.Refusal) → a ≡ refused r → (1 ≤ r.no) × (r.no < 256)
  pub numbers : (x : Result) → a ≡ answered x → (x.a < 2 ^ 24) × (x.b < 2 ^ 32)

-- the same of the outcome in code, whose refusals all fit
abbrev pub packed_outcome : Outcome Done Refusal → ℕ
packed_outcome (Ok x) = pack 0 x.a x.b
packed_outcome (Err x) = pack (meant_by x).no 0 (min (meant_by x).place 4294967295)

abbrev pub Packs : Outcome Done Refusal → Type 0
Packs (Ok x) = (x.a < 2 ^ 24) × (x.b < 2 ^ 32)
Packs (Err x) = Unit {0}
