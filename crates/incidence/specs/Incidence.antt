-- The incidence graph of a stored drawing in the tables of the room: the degree and the list of each half, counted, laid out and filled edge by edge.
-- Assumes nothing.
use Rattle.std.specs.Prelude.{◌≡◌, cond, List, [], ◌∷◌, ◌++◌, map, ℕ, ◌+◌, ◌*◌, ◌/◌, ◌%◌, ◌≤◌, ◌<◌, eqb, length, get_or, set, take}
use Rattle.le.specs.Le.{Below, Outside}
use Rattle.le.specs.Rows.{Holds}
use Rattle.graph.specs.Graph.{Edge, Graph}
use Rattle.graph.specs.Form.{no_edge}
use Rattle.choice.specs.Arcs.{Arc}
use Rattle.choice.specs.Degrees.{outgoing, incoming}
use Rattle.choice.specs.Drawing.{arcs_from, arcs, vertex_count}
use Rattle.form.specs.Form.{body_of}
use Rattle.form.specs.declared.Drawing.{Drawing}
use Rattle.form.specs.declared.EdgeAt.{EdgeAt}
use Rattle.halves.specs.Halves.{mate, sum_to}
use Rattle.tables.specs.Tables.{lists_at, entries_at}
use Rattle.removal.specs.Room.{Source, source, start_of, count_of, room_list, form_list, list_in, Lists}

-- where the lists of a drawing's edges stand
abbrev pub source_in : Drawing → Source
source_in d = source d.src.now (body_of d.sizes)

-- the list of half y: the halves that lose an arc when its vertex goes
unfoldable pub neighbours : List Arc → ℕ → List ℕ
neighbours arcs y = map (λ x. 2 * x + y % 2) (cond (eqb (y % 2) 0) (outgoing arcs (y / 2)) (incoming arcs (y / 2)))

-- the arcs of the first i edges
abbrev pub arcs_to : Graph → ℕ → List Arc
arcs_to g i = arcs_from (length g.labels) (take i g.edges)

-- the ids of every edge are below the node count
abbrev pub Known : Graph → Type 0
Known g = (i : ℕ) → i < length g.edges → Below (length g.labels) (get_or g.edges i no_edge).sources × Below (length g.labels) (get_or g.edges i no_edge).targets

-- the halves in whose lists an edge stands, once for each of its ports
unfoldable pub ports_of : Edge → List ℕ
ports_of d = map (λ id. 2 * id + 0) d.sources ++ map (λ id. 2 * id + 1) d.targets

-- ---- counting

-- one more in the word at each place of ys
unfoldable pub bump_all : List ℕ → List ℕ → List ℕ
bump_all [] W = W
bump_all (y ∷ ys) W = bump_all ys (set W y (get_or W y 0 + 1))

-- degree, start and length of half y
unfoldable pub noted : ℕ → ℕ → ℕ → ℕ → List ℕ → List ℕ
noted y degree start count W = set (set (set W y degree) (lists_at + 2 * y) start) (lists_at + 2 * y + 1) count

-- an edge that is vertex x: its two halves, whose lists stand in the form, and its ports counted at its nodes
unfoldable pub edge_counted : Source → ℕ → EdgeAt → List ℕ → List ℕ
edge_counted s x e W =
    bump_all (form_list s (e.first + e.sources) e.targets 0) (bump_all (form_list s e.first e.sources 1)
    (noted (2 * x + 1) e.targets e.first e.sources (noted (2 * x) e.sources (e.first + e.sources) e.targets W)))

-- edge i of the graph was read as e
pub record ReadAs (s : Source) (g : Graph) (i : ℕ) (e : EdgeAt) : Type 0 where
  pub source_count : e.sources ≡ length (get_or g.edges i no_edge).sources
  pub target_count : e.targets ≡ length (get_or g.edges i no_edge).targets
  pub source_ids : (side : ℕ) → form_list s e.first e.sources side ≡ map (λ id. 2 * id + side) (get_or g.edges i no_edge).sources
  pub target_ids : (side : ℕ) → form_list s (e.first + e.sources) e.targets side ≡ map (λ id. 2 * id + side) (get_or g.edges i no_edge).targets
  pub ids_held : Holds s.bytes s.row (e.first + e.sources + e.targets)

-- the first i edges are counted: all degrees so far, and the lists of these edges
pub record CountedTo (s : Source) (g : Graph) (X : List ℕ) (i : ℕ) : Type 0 where
  pub degrees : (y : ℕ) → y < 2 * (length g.labels + i) → get_or X y 0 ≡ length (neighbours (arcs_to g i) (mate y))
  pub held : (y : ℕ) → 2 * length g.labels ≤ y → y < 2 * (length g.labels + i) → Holds s.bytes s.row (start_of X y + count_of X y)
  pub lists : (y : ℕ) → 2 * length g.labels ≤ y → y < 2 * (length g.labels + i) → form_list s (start_of X y) (count_of X y) (y % 2) ≡ neighbours (arcs_to g i) y

-- ---- laying out

-- the first k lists begin one after the other, each with room for as many entries as its half's mate has arcs, and are empty
pub record LaidOut (W X : List ℕ) (k : ℕ) : Type 0 where
  pub frame : Outside lists_at (lists_at + 2 * k) W X
  pub start : (y : ℕ) → y < k → start_of X y ≡ sum_to (λ u. get_or W (mate u) 0) y
  pub none : (y : ℕ) → y < k → count_of X y ≡ 0

-- ---- filling

-- the nodes' lists are empty, each with room for all that it will have
pub record Empty (g : Graph) (W : List ℕ) : Type 0 where
  pub start : (y : ℕ) → y < 2 * length g.labels → start_of W y ≡ sum_to (λ u. length (neighbours (arcs_to g (length g.edges)) u)) y
  pub none : (y : ℕ) → y < 2 * length g.labels → count_of W y ≡ 0

-- t at the end of the list of half y
unfoldable pub appended : ℕ → ℕ → List ℕ → List ℕ
appended y t W = set (set W (entries_at + (start_of W y + count_of W y)) t) (lists_at + 2 * y + 1) (count_of W y + 1)

-- t at the end of the list of each half of ys
unfoldable pub appended_all : List ℕ → ℕ → List ℕ → List ℕ
appended_all [] t W = W
appended_all (y ∷ ys) t W = appended_all ys t (appended y t W)

-- X has these lists for the first k halves, where W has them begin, and is W otherwise
pub record ListsFilled (W X : List ℕ) (k : ℕ) (lists : ℕ → List ℕ) : Type 0 where
  pub long : length X ≡ length W
  pub starts : (y : ℕ) → y < k → start_of X y ≡ start_of W y
  pub counts : (y : ℕ) → y < k → count_of X y ≡ length (lists y)
  pub entries : (y : ℕ) → y < k → room_list X (start_of W y) (length (lists y)) ≡ lists y
  pub before : (i : ℕ) → i < lists_at → get_or X i 0 ≡ get_or W i 0
  pub between : (i : ℕ) → lists_at + 2 * k ≤ i → i < entries_at → get_or X i 0 ≡ get_or W i 0

-- ---- the whole

pub record Built (s : Source) (g : Graph) (X : List ℕ) : Type 0 where
  pub degrees : (y : ℕ) → y < 2 * vertex_count g → get_or X y 0 ≡ length (neighbours (arcs g) (mate y))
  pub lists : (y : ℕ) → y < 2 * vertex_count g → list_in s X (length g.labels) y ≡ neighbours (arcs g) y
  pub inside : Lists s X (length g.labels) (vertex_count g)
