-- What the types of the range stand for in code.
-- Assumes nothing.
use Rattle.std.specs.Prelude.{Option, None, Some, ◌≡◌, List, [], ◌∷◌, ◌++◌, map, ℕ, ◌+◌, ◌-◌, ◌*◌, ◌/◌, ◌%◌, ◌≤◌, length, get_or, set, replicate}
use Rattle.le.specs.Le.{Below, bytes, row}
use Rattle.graph.specs.Lists.{range}
use Rattle.graph.specs.Answer.{Answer, refused, answered, reply}
use Rattle.choice.specs.Arcs.{how_many}
use Rattle.form.specs.Form.{telling}
use Rattle.parts.specs.Parts.{Countable, bill_of}
use Rattle.catalogue.specs.Price.{Priced, price}
use Rattle.catalogue.specs.Range as report
use Rattle.catalogue.specs.Range.{most_drawings, drawings_in, sum_of, is_priced, refused_by, dearer, dearest_of, index_of, nth_count, refusal_numbers}
use Rattle.parts.specs.declared.Bill.{Bill}
use Rattle.price.specs.declared.range.Dearest.{Dearest}
use Rattle.price.specs.declared.range.Mean.{Mean}
use Rattle.price.specs.declared.range.Totals.{Totals}

-- the drawings of a slice that is in order
unfoldable pub forms_of : List ℕ → List (List ℕ)
forms_of b = reply [] (λ forms. forms) (drawings_in most_drawings b)

-- the dearest so far in code, and what it means
abbrev pub dearest_in : report.Dearest → Option Dearest
dearest_in report.none = None
dearest_in (report.at i m) = Some (record { index = i; total = m })

abbrev pub dearest_meant : Option Dearest → report.Dearest
dearest_meant None = report.none
dearest_meant (Some d) = report.at d.index d.total

-- the totals of these answers
abbrev pub totals_of : List (Answer Priced) → Totals
totals_of answers = record {
  drawings = length answers;
  priced = how_many is_priced answers;
  refusals = map (λ n. how_many (refused_by n) answers) refusal_numbers;
  parts = map (λ k. sum_of (nth_count k) answers) (range 0 12);
  buffers = sum_of (λ p. p.buffers) answers;
  sum = sum_of (λ p. p.total) answers;
  dearest = dearest_in (dearest_of report.none 0 answers);
}

-- two rows of counts, entry by entry
abbrev pub sums : List ℕ → List ℕ → List ℕ
sums [] ys = []
sums (x ∷ xs) [] = []
sums (x ∷ xs) (y ∷ ys) = (x + y) ∷ sums xs ys

-- one drawing more that was refused by this number
abbrev pub refused_once : Totals → ℕ → Totals
refused_once t n = record {
  drawings = t.drawings + 1;
  priced = t.priced;
  refusals = set t.refusals (n - 1) (get_or t.refusals (n - 1) 0 + 1);
  parts = t.parts;
  buffers = t.buffers;
  sum = t.sum;
  dearest = t.dearest;
}

-- one drawing more that has this parts list
abbrev pub priced_once : Totals → Bill → Totals
priced_once t b = record {
  drawings = t.drawings + 1;
  priced = t.priced + 1;
  refusals = t.refusals;
  parts = sums t.parts b.counts;
  buffers = t.buffers + b.buffers;
  sum = t.sum + b.total;
  dearest = dearest_in (dearer (dearest_meant t.dearest) t.drawings b.total);
}

-- one drawing more
abbrev pub added : Totals → Answer Priced → Totals
added t (refused r) = refused_once t r.no
added t (answered p) = priced_once t (bill_of p)

-- a parts list as a drawing of either version can have it
pub record Listed (b : Bill) : Type 0 where
  pub counts : Countable b.counts
  pub buffers : b.buffers ≤ 16384
  pub total : b.total ≤ 73072640

-- totals of at most n drawings: each number is far from the end of its field
pub record Upto (n : ℕ) (t : Totals) : Type 0 where
  pub drawings : t.drawings ≤ n
  pub priced : t.priced ≤ n
  pub seventeen : length t.refusals ≡ 17
  pub refusals : Below (1 + n) t.refusals
  pub twelve : length t.parts ≡ 12
  pub parts : Below (1 + 16384 * n) t.parts
  pub buffers : t.buffers ≤ 16384 * n
  pub sum : t.sum ≤ 73072640 * n
  -- where none is priced there is nothing to divide
  pub none_priced : t.priced ≡ 0 → t.sum ≡ 0

-- the mean over so many
abbrev pub mean_of : ℕ → ℕ → Mean
mean_of sum priced = record { whole = sum / priced; rest = sum % priced }

-- totals as the report's bytes
abbrev pub front_of : Totals → List ℕ
front_of t = bytes 4 t.priced ++ (row 4 t.refusals ++ (row 4 t.parts ++ bytes 4 t.buffers))

abbrev pub amounts_of : Totals → List ℕ
amounts_of t = bytes 8 t.sum ++ (bytes 4 (index_of (dearest_meant t.dearest)) ++ (bytes 8 (t.sum / t.priced) ++ bytes 4 (t.sum % t.priced)))

-- totals of nothing
abbrev pub nothing : Totals
nothing = record {
  drawings = 0;
  priced = 0;
  refusals = replicate 17 0;
  parts = replicate 12 0;
  buffers = 0;
  sum = 0;
  dearest = None;
}

-- what the range answers
abbrev pub ranging : Answer (List (List ℕ)) → Answer Totals
ranging = telling (λ forms. totals_of (map price forms))
