-- 02, T-13, "The range at one glance": the drawings of a slice, and the report over their single answers.
-- Assumes nothing.
use Rattle.std.specs.Prelude.{Bool, true, false, cond, List, [], ◌∷◌, ◌++◌, map, ℕ, zero, suc, ◌+◌, ◌/◌, ◌%◌, eqb, leb, ltb, length, get_or, take, drop}
use Rattle.le.specs.Le.{bytes, row, number_at}
use Rattle.graph.specs.Lists.{range}
use Rattle.graph.specs.Answer.{Answer, refused, answered, refusal, reply, Result, writing, ◌else◌, ◌>>=◌, ◌>>◌}
use Rattle.graph.specs.Calls.{fit, in_work_room}
use Rattle.choice.specs.Arcs.{how_many}
use Rattle.catalogue.specs.Price.{Priced, price, room_price}

-- "each stored form with its length as 4 bytes, little-endian, before it": how long the first one is.
-- "17, a length cut short or running past the input"
unfoldable pub first_length : List ℕ → Answer ℕ
first_length b = do
  leb 4 (length b) else refusal 17
  leb (number_at 4 b 0) (length (drop 4 b)) else refusal 17
  answered (number_at 4 b 0)

-- the stored forms. "17 .. or more than 1,000 drawings": k at most
unfoldable pub drawings_in : ℕ → List ℕ → Answer (List (List ℕ))
drawings_in zero b = do
  eqb (length b) 0 else refusal 17
  answered []
drawings_in (suc k) b = cond (eqb (length b) 0) (answered []) do
  n ← first_length b
  rest ← drawings_in k (drop n (drop 4 b))
  answered (take n (drop 4 b) ∷ rest)

-- "up to 1,000 drawings"
abbrev pub most_drawings : ℕ
most_drawings = 1000

-- "A refused drawing adds to nothing else": the sum of a part over the answers
unfoldable pub sum_of : (Priced → ℕ) → List (Answer Priced) → ℕ
sum_of part [] = 0
sum_of part (a ∷ more) = reply 0 part a + sum_of part more

-- the drawing was priced
abbrev pub is_priced : Answer Priced → Bool
is_priced a = reply false (λ p. true) a

-- the drawing was refused by this number
abbrev pub refused_by : ℕ → Answer Priced → Bool
refused_by n (refused r) = eqb r.no n
refused_by n (answered p) = false

-- the dearest drawing so far: none, or its index and total
pub data Dearest : Type 0 where
  none : Dearest
  at : ℕ → ℕ → Dearest

-- "(first on a tie)": a later one has to be dearer
abbrev pub dearer : Dearest → ℕ → ℕ → Dearest
dearer none i total = at i total
dearer (at j m) i total = cond (ltb m total) (at i total) (at j m)

-- a refused one is not looked at
abbrev pub dearer_of : Dearest → ℕ → Answer Priced → Dearest
dearer_of d i a = reply d (λ p. dearer d i p.total) a

-- the dearest of drawings numbered on from i, refused ones too, d being the dearest before them
unfoldable pub dearest_of : Dearest → ℕ → List (Answer Priced) → Dearest
dearest_of d i [] = d
dearest_of d i (a ∷ more) = dearest_of (dearer_of d i a) (suc i) more

-- "the dearest drawing's index from 0", and 4,294,967,295 where no dearest is named
abbrev pub index_of : Dearest → ℕ
index_of none = 4294967295
index_of (at i m) = i

-- "how many were priced, how many refused by each number, parts of each kind, the exact sum, the dearest .., and the mean as whole
-- part and remainder"
pub record Report : Type 0 where
  pub priced : ℕ
  pub refusals : List ℕ
  pub parts : List ℕ
  pub buffers : ℕ
  pub sum : ℕ
  pub dearest : ℕ
  pub mean : ℕ
  pub remainder : ℕ

-- the numbers that a drawing can be refused by are among these
abbrev pub refusal_numbers : List ℕ
refusal_numbers = range 1 17

-- how often the k-th kind stands in an answer
abbrev pub nth_count : ℕ → Priced → ℕ
nth_count k p = get_or {A = ℕ} p.counts k 0

-- "Totals equal the sums over the single answers."
unfoldable pub report_of : List (Answer Priced) → Report
report_of answers = record {
  priced = how_many is_priced answers;
  refusals = map (λ n. how_many (refused_by n) answers) refusal_numbers;
  parts = map (λ k. sum_of (nth_count k) answers) (range 0 12);
  buffers = sum_of (λ p. p.buffers) answers;
  sum = sum_of (λ p. p.total) answers;
  dearest = index_of (dearest_of none 0 answers);
  mean = sum_of (λ p. p.total) answers / how_many is_priced answers;
  remainder = sum_of (λ p. p.total) answers % how_many is_priced answers;
}

-- priced, refused by 1 to 17, parts of each kind, buffers, sum (8), dearest, mean (8), remainder; 4 bytes each but for two: 148
abbrev pub report_bytes : Report → List ℕ
report_bytes r =
    bytes 4 r.priced ++ (row 4 r.refusals ++ (row 4 r.parts ++ (bytes 4 r.buffers
    ++ (bytes 8 r.sum ++ (bytes 4 r.dearest ++ (bytes 8 r.mean ++ bytes 4 r.remainder))))))

-- "17 .. refuses the whole report before any is priced"; 10 for the answer after it
unfoldable pub range_answer : List ℕ → ℕ → Answer Result
range_answer b room = do
  forms ← drawings_in most_drawings b
  list ← fit room (report_bytes (report_of (map price forms)))
  answered (writing list 0)

-- 10 for the work room before all: that of one drawing
abbrev pub price_range_call : List ℕ → ℕ → ℕ → Answer Result
price_range_call b room work_room = in_work_room room_price work_room (range_answer b room)
