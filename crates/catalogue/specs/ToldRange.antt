-- What a caller of ohg_price_range may rely on where the code is 0: promises about the returned number and the bytes of the lent buffers alone, one field for each;
-- and the single answers of ohg_price on the same drawings, as the caller holds them.
-- Assumes nothing.
use Rattle.std.specs.Prelude.{◌≡◌, cond, List, [], ◌∷◌, map, ℕ, ◌+◌, ◌*◌, ◌≤◌, ◌<◌, eqb, length, drop}
use Rattle.le.specs.Le.{number_at, numbers}
use Rattle.graph.specs.Answer.{Answer, answered, refused, refusal}
use Rattle.packing.specs.Packed.{Returns}
use Rattle.packing.specs.Unpacked.{code_in, a_in}
use Rattle.catalogue.specs.Caller.{counts_in, buffers_in, total_in}
use Rattle.catalogue.specs.Dearests.{PricedAt, FirstDearest}
use Rattle.catalogue.specs.Price.{catalogue, buffer_price, Priced, price, room_price, price_call}
use Rattle.catalogue.specs.Promises.{cost, sum}
use Rattle.catalogue.specs.Range.{most_drawings, Report, report_of}
use Rattle.catalogue.specs.Slices.{SliceOf}

-- the report in the answer buffer
abbrev pub report_in : List ℕ → Report
report_in new = record {
  priced = number_at 4 new 0;
  refusals = numbers 4 17 (drop 4 new);
  parts = numbers 4 12 (drop 72 new);
  buffers = number_at 4 new 120;
  sum = number_at 8 new 124;
  dearest = number_at 4 new 132;
  mean = number_at 8 new 136;
  remainder = number_at 4 new 144;
}

-- a call of ohg_price on one drawing with room enough: it returned a number, and its buffer was old and is new
pub record Single (form : List ℕ) : Type 0 where
  pub lent : ℕ
  pub old : List ℕ
  pub new : List ℕ
  pub number : ℕ
  pub enough : room_price ≤ lent
  pub fits : 60 ≤ length old
  pub returned : Returns (price_call form (length old) lent) number old new

-- what it told: the list in its buffer where the code is 0, else the code
abbrev pub told_by : {form : List ℕ} → Single form → Answer Priced
told_by s = cond (eqb (code_in s.number) 0)
    (answered (record { counts = counts_in s.new; buffers = buffers_in s.new; total = total_in s.new }))
    (refused (refusal (code_in s.number)))

-- such a call on each drawing, and what they told
abbrev pub Singles : List (List ℕ) → Type 0
Singles [] = Unit {0}
Singles (form ∷ forms) = Single form × Singles forms

abbrev pub told : (forms : List (List ℕ)) → Singles forms → List (Answer Priced)
told [] s = []
told (form ∷ forms) s = told_by s.0 ∷ told forms s.1

-- ohg_price_range on the bytes b returned r, and its buffer was old and is new
pub record ToldRange (b : List ℕ) (r : ℕ) (old new : List ℕ) (forms : List (List ℕ)) : Type 0 where
  -- the slice is these drawings, each with its length before it
  pub slice : SliceOf most_drawings b forms
  -- "Totals equal the sums over the single answers", whatever room they had
  pub singles : (calls : Singles forms) → report_in new ≡ report_of (told forms calls)
  -- and over what pricing answers by its definition
  pub report : report_in new ≡ report_of (map price forms)
  -- each drawing is priced, or refused by one of the numbers
  pub all_counted : (report_in new).priced + sum (report_in new).refusals ≡ length forms
  -- the sum is what the parts and the buffers cost
  pub billed : (report_in new).sum ≡ cost (report_in new).parts catalogue + buffer_price * (report_in new).buffers
  -- "the mean as whole part and remainder"
  pub mean : (report_in new).mean * (report_in new).priced + (report_in new).remainder ≡ (report_in new).sum
  pub below : 0 < (report_in new).priced → (report_in new).remainder < (report_in new).priced
  -- "With none priced the sum, mean and remainder are zero and no dearest is named."
  pub none_priced : (report_in new).priced ≡ 0 → ((report_in new).sum ≡ 0) × ((report_in new).mean ≡ 0) × ((report_in new).remainder ≡ 0) × ((report_in new).dearest ≡ 4294967295)
  -- and otherwise the first of the dearest is
  pub dearest : 0 < (report_in new).priced → (m : ℕ) × FirstDearest (map price forms) (report_in new).dearest m
  -- 148 bytes were written, and what was behind them stays
  pub written : a_in r ≡ 148
  pub fits : 148 ≤ length old
  pub stays : drop 148 new ≡ drop 148 old
