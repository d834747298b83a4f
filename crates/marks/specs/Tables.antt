-- The two tables of the scanning engine in a lent room, and what each of its small steps makes of them. A byte for each vertex says whether it remains: an odd one
-- does, 1 where it may be chosen and 3 where it is kept; 0 has gone, and 2 was chosen. From word 8,192 on a word for each node has its arcs in and 65,536 times
-- its arcs out, among what remains, as far as 32 bits go. A hint for each edge stands behind the two tables; nothing here depends on one.
-- Assumes nothing.
use Rattle.std.specs.Prelude.{◌≡◌, ℕ, zero, suc, ◌+◌, ◌*◌, ◌/◌, ◌%◌, ◌^◌, Bool, false, cond, not, ◌&&◌, ◌||◌, List, [], ◌∷◌, ◌++◌, map, length, take, ◌==◌, slice_index, slice_set}
use Rattle.std.proofs.lemmas.List.Edits.{sets}
use Rattle.le.specs.Le.{bytes, words}
use Rattle.choice.specs.Arcs.{bump, Set}

abbrev pub most_nodes : ℕ
most_nodes = 16384

-- so many marks, and then the degrees
abbrev pub most_vertices : ℕ
most_vertices = 32768

abbrev pub degrees_at : ℕ
degrees_at = 8192

-- the byte at which the degrees end, and so many hints
abbrev pub hints_at : ℕ
hints_at = 98304

abbrev pub most_edges : ℕ
most_edges = 16384

-- rooms with the same two tables, whatever the hints are
pub record Alike (old new : List ℕ) : Type 0 where
  pub long : length new ≡ length old
  pub tables : take hints_at new ≡ take hints_at old

-- ---- marks

-- a vertex with this mark remains
abbrev pub remains : ℕ → Bool
remains m = m % 2 == 1

-- those of n vertices that remain
unfoldable pub left : ℕ → List ℕ → Set
left n room = map remains (take n room)

-- one of these nodes remains
abbrev pub some_left : List ℕ → List ℕ → Bool
some_left room [] = false
some_left room (x ∷ xs) = remains (slice_index room x) || some_left room xs

-- the listed nodes are kept
abbrev pub kept_in : List ℕ → List ℕ → List ℕ
kept_in room [] = room
kept_in room (v ∷ vs) = kept_in (slice_set room v 3) vs

-- ---- degrees

-- the word of node v
abbrev pub degrees : List ℕ → ℕ → ℕ
degrees room v = slice_index (words room) (degrees_at + v)

-- one of the two numbers in a word is 0
abbrev pub nought : ℕ → Bool
nought w = w % 65536 == 0 || w / 65536 == 0

-- delta added to the word of a node, and to that of each entry of a list
unfoldable pub shifted : ℕ → ℕ → List ℕ → List ℕ
shifted delta v room = sets room (4 * (degrees_at + v)) (bytes 4 ((degrees room v + delta) % 2 ^ 32))

abbrev pub shifted_all : ℕ → List ℕ → List ℕ → List ℕ
shifted_all delta [] room = room
shifted_all delta (x ∷ xs) room = shifted_all delta xs (shifted delta x room)

-- an arc in less, and an arc out less: with 32 bits a number is taken away by adding another
abbrev pub less_in : ℕ
less_in = 4294967295

abbrev pub less_out : ℕ
less_out = 4294901760

-- ---- nodes that go

-- node v remains and has no arc in or no arc out
unfoldable pub loose : List ℕ → ℕ → Bool
loose room v = remains (slice_index room v) && nought (degrees room v)

-- it goes if it is loose; and so do those of a list, one after the other
unfoldable pub tested : ℕ → List ℕ → List ℕ
tested v room = cond (loose room v) (slice_set room v 0) room

abbrev pub tested_all : List ℕ → List ℕ → List ℕ
tested_all [] room = room
tested_all (x ∷ xs) room = tested_all xs (tested x room)

-- how many of them go
abbrev pub went_of : List ℕ → List ℕ → ℕ
went_of [] room = 0
went_of (x ∷ xs) room = bump (loose room x) 0 + went_of xs (tested x room)

-- the numbers below n, ascending
abbrev pub up_to : ℕ → List ℕ
up_to zero = []
up_to (suc n) = up_to n ++ (n ∷ [])

-- ---- edges that go

-- the edge that is vertex v goes, and its entries lose an arc each
unfoldable pub lowered : List ℕ → List ℕ → ℕ → List ℕ → List ℕ
lowered sources targets v room = shifted_all less_in targets (shifted_all less_out sources (slice_set room v 0))

-- it goes if it remains and has no source or no target that does
abbrev pub must_go : List ℕ → List ℕ → ℕ → List ℕ → Bool
must_go sources targets v room = remains (slice_index room v) && not (some_left room sources && some_left room targets)

-- and then those of its nodes that are loose
unfoldable pub visited : List ℕ → List ℕ → ℕ → List ℕ → List ℕ
visited sources targets v room = cond (must_go sources targets v room) (tested_all (sources ++ targets) (lowered sources targets v room)) room

-- how many vertices go
unfoldable pub visited_of : List ℕ → List ℕ → ℕ → List ℕ → ℕ
visited_of sources targets v room = cond (must_go sources targets v room) (suc (went_of (sources ++ targets) (lowered sources targets v room))) 0

-- ---- the best node

-- arcs in times arcs out of a node that may be chosen, and nothing for another
unfoldable pub worth_in : List ℕ → ℕ → ℕ
worth_in room v = cond (slice_index room v == 1) (degrees room v % 65536 * (degrees room v / 65536)) 0
