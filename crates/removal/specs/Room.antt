-- What the tables of the half vertices tell: the state of the model, and the list of each half.
-- What a function leaves is said by the model alone: no arcs, no sets. Assumes nothing.
use Rattle.std.specs.Prelude.{◌≡◌, cond, List, map, ◌⊎◌, ℕ, ◌+◌, ◌*◌, ◌%◌, ◌≤◌, ◌<◌, ltb, length, get_or, take, drop}
use Rattle.le.specs.Rows.{Holds, span}
use Rattle.le.specs.declared.Row.{Row}
use Rattle.tables.specs.Tables.{most_vertices, most_ports, lists_at, entries_at, waiting_at}
use Rattle.choice.specs.Arcs.{In, size}
use Rattle.halves.specs.Halves.{mate, live, Halves}

-- a row of numbers in bytes: where the ids of the edges stand
pub record Source : Type 0 where
  pub bytes : List ℕ
  pub row : Row

abbrev pub source : List ℕ → Row → Source
source b r = record { bytes = b; row = r }

-- the n words from a place on
unfoldable pub part : List ℕ → ℕ → ℕ → List ℕ
part W off n = take n (drop off W)

-- the model's state, of n vertices, with so many that wait or have waited
unfoldable pub halves_in : List ℕ → ℕ → ℕ → Halves
halves_in W n end = record { degrees = take (2 * n) W; waiting = part W waiting_at end }

-- the list of half y: in the room, or, of an edge, in the form
abbrev pub start_of : List ℕ → ℕ → ℕ
start_of W y = get_or W (lists_at + 2 * y) 0

abbrev pub count_of : List ℕ → ℕ → ℕ
count_of W y = get_or W (lists_at + 2 * y + 1) 0

unfoldable pub room_list : List ℕ → ℕ → ℕ → List ℕ
room_list W start count = part W (entries_at + start) count

unfoldable pub form_list : Source → ℕ → ℕ → ℕ → List ℕ
form_list s start count side = map (λ id. 2 * id + side) (span s.bytes s.row start count)

unfoldable pub list_in : Source → List ℕ → ℕ → ℕ → List ℕ
list_in s W nodes y = cond (ltb y (2 * nodes)) (room_list W (start_of W y) (count_of W y)) (form_list s (start_of W y) (count_of W y) (y % 2))

-- every entry of a list is a half of one of n vertices
abbrev pub AllLow : ℕ → List ℕ → Type 0
AllLow n ts = (t : ℕ) → In t ts → t < 2 * n

-- all but the degrees and the waiting list is as it was
pub record Steady (W X : List ℕ) : Type 0 where
  pub long : length X ≡ length W
  pub same : (i : ℕ) → lists_at ≤ i → (i < waiting_at) ⊎ (waiting_at + most_vertices ≤ i) → get_or X i 0 ≡ get_or W i 0

-- what lowering asks: both halves are 0 or none, and there is room for each vertex that is live to wait
pub record Roomy (n : ℕ) (h : Halves) : Type 0 where
  pub long : length h.degrees ≡ 2 * n
  pub paired : (y : ℕ) → get_or h.degrees y 0 ≡ 0 → get_or h.degrees (mate y) 0 ≡ 0
  pub room : length h.waiting + size (live n h.degrees) ≤ n
  pub low : AllLow n h.waiting

-- X tells the state h, `end` halves having waited, and is W otherwise
pub record Went (W X : List ℕ) (n end : ℕ) (h : Halves) : Type 0 where
  pub few : end ≤ n
  pub is : halves_in X n end ≡ h
  pub frame : Steady W X

-- the lists of n vertices stand where they should
pub record Lists (s : Source) (W : List ℕ) (nodes n : ℕ) : Type 0 where
  pub room_inside : (y : ℕ) → y < 2 * nodes → start_of W y + count_of W y ≤ most_ports
  pub form_inside : (y : ℕ) → 2 * nodes ≤ y → y < 2 * n → Holds s.bytes s.row (start_of W y + count_of W y)
  pub low : (y : ℕ) → y < 2 * n → AllLow n (list_in s W nodes y)
